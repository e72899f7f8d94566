use Rattle.std.proofs.Common.{◌≡◌, ◌<ℤ◌, arith, refl, to_z, of_z, w64}
use Rattle.jiff.proofs.SpanFacts.{signed_arith}
use Rattle.jiff_tz.specs.PosixText.{dst_view, day_time_view}
use Rattle.rb_cron.proofs.Edges.{shown_same, near_side, same_change, same_second}
use Rattle.rb_cron.proofs.piece.utc_end.Goals as goal

pub returns-clause-steady : goal.returns-clause-steady
returns-clause-steady c = λ t up less.
    let a1 = c.nearer-end.ensures.after (omega (arith, signed_arith, c.requires.at)) in
    let b1 = c.nearer-end.ensures.before in
    let a2 = c.nearer-end-2.ensures.after (omega (arith, signed_arith, c.requires.at, a1, b1)) in
    let b2 = c.nearer-end-2.ensures.before in
    let a3 = c.nearer.ensures.after (omega (arith, signed_arith, c.requires.at, a1, b1, a2, b2)) in
    let b3 = c.nearer.ensures.before in
    let e3 : t <ℤ c.nearer.result = omega (arith, signed_arith, less, c.requires.at, a1, b1, a2, b2, a3, b3) in
    let e2 : t <ℤ c.nearer-end-2.result = omega (arith, signed_arith, e3, c.requires.at, a1, b1, a2, b2, a3, b3) in
    let e1 : t <ℤ c.nearer-end.result = omega (arith, signed_arith, e2, c.requires.at, a1, b1, a2, b2, a3, b3) in
    let y = c.year_of-year.result.number in
    let std : to_z w64 (of_z w64 c.args.std) ≡ c.args.std = omega (arith, signed_arith, c.requires.std) in
    let value = c.seconds_ahead.ensures.value in
    let bound = c.seconds_ahead.ensures.bound in
    let ahead : to_z w64 (of_z w64 c.seconds_ahead.result) ≡ c.args.summer.now.offset.seconds = omega (arith, signed_arith, value, bound) in
    shown_same c.args.std (dst_view c.args.summer.now) c.year_of-year.result c.change_in-start.result c.change_in-finish.result c.args.at t
    c.year_of-year.ensures.year (same_second y (to_z w64 (of_z w64 c.args.at)) c.args.at (omega (arith, signed_arith, c.requires.at, c.requires.std, c.year_of-year.ensures.year.low, c.year_of-year.ensures.year.high, c.year_of-year.ensures.year.first, c.year_of-year.ensures.year.next, c.change_in-start.ensures.from, c.change_in-start.ensures.before, c.change_in-finish.ensures.from, c.change_in-finish.ensures.before)) c.year_of-year.ensures.holds)
    (same_change y (to_z w64 (of_z w64 c.args.std)) c.args.std c.change_in-start.result c.change_in-start.result (day_time_view c.args.summer.now.rule.start) std refl c.change_in-start.ensures.value)
    (same_change y (to_z w64 (of_z w64 c.seconds_ahead.result)) c.args.summer.now.offset.seconds c.change_in-finish.result c.change_in-finish.result (day_time_view c.args.summer.now.rule.end) ahead refl c.change_in-finish.ensures.value)
    up
    (near_side _ _ _ _ c.args.at c.year_of-year.result.next t c.nearer-end.ensures (omega (arith, signed_arith, c.requires.at, c.requires.std, c.year_of-year.ensures.year.low, c.year_of-year.ensures.year.high, c.year_of-year.ensures.year.first, c.year_of-year.ensures.year.next, c.change_in-start.ensures.from, c.change_in-start.ensures.before, c.change_in-finish.ensures.from, c.change_in-finish.ensures.before)) (omega (arith, signed_arith, c.requires.at, c.requires.std, c.year_of-year.ensures.year.low, c.year_of-year.ensures.year.high, c.year_of-year.ensures.year.first, c.year_of-year.ensures.year.next, c.change_in-start.ensures.from, c.change_in-start.ensures.before, c.change_in-finish.ensures.from, c.change_in-finish.ensures.before)) e1)
    (near_side _ _ _ _ c.args.at c.change_in-start.result t c.nearer-end-2.ensures (omega (arith, signed_arith, c.requires.at, c.requires.std, c.year_of-year.ensures.year.low, c.year_of-year.ensures.year.high, c.year_of-year.ensures.year.first, c.year_of-year.ensures.year.next, c.change_in-start.ensures.from, c.change_in-start.ensures.before, c.change_in-finish.ensures.from, c.change_in-finish.ensures.before)) (omega (arith, signed_arith, c.requires.at, c.requires.std, c.year_of-year.ensures.year.low, c.year_of-year.ensures.year.high, c.year_of-year.ensures.year.first, c.year_of-year.ensures.year.next, c.change_in-start.ensures.from, c.change_in-start.ensures.before, c.change_in-finish.ensures.from, c.change_in-finish.ensures.before)) e2)
    (near_side _ _ _ _ c.args.at c.change_in-finish.result t c.nearer.ensures (omega (arith, signed_arith, c.requires.at, c.requires.std, c.year_of-year.ensures.year.low, c.year_of-year.ensures.year.high, c.year_of-year.ensures.year.first, c.year_of-year.ensures.year.next, c.change_in-start.ensures.from, c.change_in-start.ensures.before, c.change_in-finish.ensures.from, c.change_in-finish.ensures.before)) (omega (arith, signed_arith, c.requires.at, c.requires.std, c.year_of-year.ensures.year.low, c.year_of-year.ensures.year.high, c.year_of-year.ensures.year.first, c.year_of-year.ensures.year.next, c.change_in-start.ensures.from, c.change_in-start.ensures.before, c.change_in-finish.ensures.from, c.change_in-finish.ensures.before)) e3)

pub returns-clause-after : goal.returns-clause-after
returns-clause-after c =
    let a1 = c.nearer-end.ensures.after (omega (arith, signed_arith, c.requires.at)) in
    let b1 = c.nearer-end.ensures.before in
    let a2 = c.nearer-end-2.ensures.after (omega (arith, signed_arith, c.requires.at, a1, b1)) in
    let b2 = c.nearer-end-2.ensures.before in
    let a3 = c.nearer.ensures.after (omega (arith, signed_arith, c.requires.at, a1, b1, a2, b2)) in
    let b3 = c.nearer.ensures.before in
    omega (arith, signed_arith, c.requires.at, a1, b1, a2, b2, a3, b3)
