use Rattle.std.proofs.Common.{◌≡◌, ◌∙◌, ◌+ℤ◌, ◌-ℤ◌, ap, to_z, of_z, w64}
use Rattle.jiff_tz.specs.PosixText.{dst_view}
use Rattle.rb_cron.specs.Pieces.{IsNearest}
use Rattle.rb_cron.proofs.Edges.{given_to, given_cast, after_cast, before_cast, nearest_back, cast_end, same_at, same_edges, same_second, ends_at, at_back, offset_back, near_back, shift_back, sum_back, near_in, near_next, Ends}
use Rattle.rb_cron.proofs.piece.wall_end.Goals as goal

ends : (c : goal.After-nearest) → Ends c.args.at c.args.end
ends c = ends_at c.args.at c.args.end c.requires.at c.requires.end c.requires.last

nearest : (c : goal.After-nearest) → IsNearest c.args.at (to_z w64 (of_z w64 c.args.end)) c.wall_edges.result c.nearest.result
nearest c = same_at (to_z w64 (of_z w64 c.args.at)) c.args.at (to_z w64 (of_z w64 c.args.end)) c.nearest.result c.wall_edges.result (at_back c.args.at c.requires.at) c.nearest.ensures

cast : (c : goal.After-nearest) → to_z w64 (of_z w64 c.nearest.result) ≡ c.nearest.result
cast c = nearest_back c.args.at c.args.end c.nearest.result (to_z w64 (of_z w64 c.args.end)) c.wall_edges.result (ends c) (cast_end c.args.at c.args.end (ends c)) (nearest c)

pub returns-clause-steady : goal.returns-clause-steady
returns-clause-steady c =
    let year = c.year_of-year.ensures.year in
    let start = near_in c.year_of-year.result c.change_in-start.result year c.change_in-start.ensures.from c.change_in-start.ensures.before in
    let finish = near_in c.year_of-year.result c.change_in-finish.result year c.change_in-finish.ensures.from c.change_in-finish.ensures.before in
    given_cast c.args.std (dst_view c.args.summer.now) c.args.offset c.args.at _ c.nearest.result (cast c)
    (given_to c.args.std (dst_view c.args.summer.now) c.year_of-year.result c.change_in-start.result c.change_in-finish.result c.shift_of-shift.result
    c.args.at c.args.offset (to_z w64 (of_z w64 c.args.end)) c.nearest.result c.wall_edges.result
    year
    (same_second c.year_of-year.result.number (to_z w64 (of_z w64 (to_z w64 (of_z w64 c.args.at) +ℤ to_z w64 (of_z w64 c.args.offset)))) (c.args.at +ℤ c.args.offset) (sum_back c.args.at c.args.offset c.requires.at c.requires.offset) c.year_of-year.ensures.holds)
    c.change_in-start.ensures.value c.change_in-finish.ensures.value start finish
    (c.shift_of-shift.ensures.value ∙ ap (λ k. c.args.summer.now.offset.seconds -ℤ k) (offset_back c.args.std c.requires.std)) c.shift_of-shift.ensures.bound
    (same_edges _ _ _ _ _ c.year_of-year.result.next c.change_in-start.result c.change_in-finish.result c.shift_of-shift.result c.args.offset c.wall_edges.result
    (near_back c.year_of-year.result.next (near_next c.year_of-year.result year)) (near_back c.change_in-start.result start) (near_back c.change_in-finish.result finish)
    (shift_back c.shift_of-shift.result c.shift_of-shift.ensures.bound) (offset_back c.args.offset c.requires.offset) c.wall_edges.ensures.edges)
    (nearest c))

pub returns-clause-after : goal.returns-clause-after
returns-clause-after c = after_cast c.args.at c.nearest.result _ (cast c) (nearest c).after

pub returns-clause-before : goal.returns-clause-before
returns-clause-before c = before_cast c.args.end c.nearest.result _ (to_z w64 (of_z w64 c.args.end)) (cast c) (cast_end c.args.at c.args.end (ends c)) (nearest c).before
