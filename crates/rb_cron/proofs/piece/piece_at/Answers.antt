use Rattle.std.proofs.Common.{◌≡◌, ◌∙◌, pos, ◌+ℤ◌, ◌*ℤ◌, sym, ap, refl, to_z, of_z, w32, w64}
use Rattle.jiff.specs.Words.{plain_zone, offset_at}
use Rattle.jiff_core.specs.Timestamp.{nanos_of_seconds}
use Rattle.rb_cron.specs.Pieces.{clock_of}
use Rattle.rb_cron.specs.Readings.{earlier_offset}
use Rattle.rb_cron.proofs.Edges.{Ends, at_back, cast_end, ends_from}
use Rattle.rb_cron.proofs.Stretches.{all_pieces, agrees_is, steady_back, offset_cast}
use Rattle.rb_cron.proofs.piece.piece_at.Goals as goal

moment : (c : goal.After-eq) → c.in-Ok.timestamp.nanosecond ≡ nanos_of_seconds c.args.at
moment c = c.in-Ok.ensures.value ∙ ap (λ k. k *ℤ pos 1_000_000_000) (at_back c.args.at c.requires)

offset_is : (c : goal.After-eq) → to_z w64 (of_z w64 (to_z w32 (of_z w32 c.seconds-offset.result))) ≡ c.to_offset.result.seconds
offset_is c = ap (λ k. to_z w64 (of_z w64 (to_z w32 (of_z w32 k)))) c.seconds-offset.ensures ∙ offset_cast c.to_offset.result.seconds c.to_offset.result.in_range

-- the end that was found
ends : (c : goal.After-eq) → Ends c.args.at c.piece_end.result
ends c = ends_from c.args.at (to_z w64 (of_z w64 c.args.at)) c.piece_end.result (at_back c.args.at c.requires) c.requires c.piece_end.ensures.after c.piece_end.ensures.before

pub returns-clause-piece : goal.returns-clause-piece
returns-clause-piece c =
    let zone = plain_zone c.args.zone.now in
    all_pieces zone c.args.at _ c.to_datetime-civil.result
    (offset_is c ∙ c.to_offset.ensures ∙ ap (offset_at zone) (moment c))
    (c.to_datetime-civil.ensures ∙ ap (λ n. n +ℤ nanos_of_seconds (offset_at zone n)) (moment c))
    (agrees_is c.eq.result c.given_offset-given.result _ (to_z w64 (of_z w64 (to_z w32 (of_z w32 c.seconds-offset.result)))) c.eq.ensures
    (c.given_offset-given.ensures ∙ ap earlier_offset (c.offset.ensures ∙ c.to_ambiguous_timestamp.ensures.offsets)))
    (clock_of zone) refl
    (steady_back (clock_of zone) _ c.args.at _ _ _ c.piece_end.result refl (at_back c.args.at c.requires)
    (sym (cast_end c.args.at c.piece_end.result (ends c))) c.piece_end.ensures.steady)
