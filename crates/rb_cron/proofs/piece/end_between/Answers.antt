use Rattle.std.proofs.Common.{◌≡◌, arith, to_z, of_z, w64, subst}
use Rattle.jiff.proofs.SpanFacts.{signed_arith}
use Rattle.jiff_tz.specs.PosixText.{dst_view}
use Rattle.rb_cron.specs.Pieces.{IsShownTo, IsGivenTo}
use Rattle.rb_cron.proofs.piece.end_between.Goals as goal

pub returns-clause-steady : goal.returns-clause-steady
returns-clause-steady c =
    let d = dst_view c.args.summer.now in
    let std : to_z w64 (of_z w64 c.args.std) ≡ c.args.std = omega (arith, signed_arith, c.requires.std) in
    let at : to_z w64 (of_z w64 c.args.at) ≡ c.args.at = omega (arith, signed_arith, c.requires.at) in
    let offset : to_z w64 (of_z w64 c.args.offset) ≡ c.args.offset = omega (arith, signed_arith, c.requires.offset) in
    let a1 = c.utc_end-end.ensures.after in
    let b1 = c.utc_end-end.ensures.before in
    let a2 = c.wall_end.ensures.after in
    let b2 = c.wall_end.ensures.before in
    let shown = subst (λ k. IsShownTo k d c.args.at c.utc_end-end.result) std
    (subst (λ k. IsShownTo (to_z w64 (of_z w64 c.args.std)) d k c.utc_end-end.result) at c.utc_end-end.ensures.steady) in
    let given = subst (λ k. IsGivenTo k d c.args.offset c.args.at c.wall_end.result) std
    (subst (λ k. IsGivenTo (to_z w64 (of_z w64 c.args.std)) d k c.args.at c.wall_end.result) offset
    (subst (λ k. IsGivenTo (to_z w64 (of_z w64 c.args.std)) d (to_z w64 (of_z w64 c.args.offset)) k c.wall_end.result) at c.wall_end.ensures.steady)) in (
      (λ t up less. shown t up (omega (arith, signed_arith, less, a1, b1, a2, b2, c.requires.at))),
      (λ t up less. given t up (omega (arith, signed_arith, less, a1, b1, a2, b2, c.requires.at))),
    )
