use Rattle.std.proofs.Common.{◌≡◌, pos, ◌+ℤ◌, ◌-ℤ◌, ◌*ℤ◌, ◌≤ℤ◌, Some, None, arith, ap, sym, subst, ◌∙◌, to_z, of_z, w64}
use Rattle.jiff.proofs.SpanFacts.{signed_arith}
use Rattle.jiff_tz.specs.PosixRule.{rule_day, clamp_to}
use Rattle.jiff_tz.specs.PosixText.{day_time_view}
use Rattle.jiff_tz.proofs.YearLemmas.{back_year}
use Rattle.rb_cron.specs.Clock.{change_in}
use Rattle.rb_cron.specs.Pieces.{IsCeiling}
use Rattle.rb_cron.proofs.Edges.{change_second, change_at_end, clamp_bounds}
use Rattle.rb_cron.proofs.piece.change_in.Goals as goal

in_order : (c : goal.After-within) → c.args.year.now.first ≤ℤ c.args.year.now.next
in_order c =
    let first = c.requires.year.first in let next = c.requires.year.next in
    omega (arith, signed_arith, first, next)

-- what is kept within the year
kept : (c : goal.After-within) → c.within.result ≡ clamp_to c.args.year.now.first c.args.year.now.next (c.in-Some.day *ℤ pos 86_400 +ℤ (c.args.change.time -ℤ c.args.offset))
kept c =
    let e = c.second_of.ensures in
    let bound = c.in-Some.ensures.bound in
    c.within.ensures ∙ ap (clamp_to c.args.year.now.first c.args.year.now.next)
    (omega (arith, signed_arith, e, bound, c.second_of.type_inv, c.args.change.time_in, c.requires.offset))

bounds : (c : goal.After-within) → (c.args.year.now.first ≤ℤ c.within.result) × (c.within.result ≤ℤ c.args.year.now.next)
bounds c =
    let parts = clamp_bounds c.args.year.now.first c.args.year.now.next (c.in-Some.day *ℤ pos 86_400 +ℤ (c.args.change.time -ℤ c.args.offset)) (in_order c) in
    let is = kept c in (omega (arith, signed_arith, parts, is), omega (arith, signed_arith, parts, is))

cast : (c : goal.After-within) → c.within.result ≡ to_z w64 (of_z w64 c.within.result)
cast c =
    let low = c.requires.year.low in let high = c.requires.year.high in let is = bounds c in
    omega (arith, signed_arith, low, high, is)

pub returns-in-Some-clause-value : goal.returns-in-Some-clause-value
returns-in-Some-clause-value c =
    let y = c.args.year.now.number in
    let found : rule_day y c.args.change.date ≡ Some c.in-Some.day =
    ap (λ k. rule_day k c.args.change.date) (sym (back_year y c.requires.year.year_in)) ∙ sym c.rule_day.ensures.value ∙ c.in-Some.is in
    subst (λ s. IsCeiling (change_in y (day_time_view c.args.change) c.args.offset) s) (sym (kept c) ∙ cast c)
    (change_second y c.args.year.now.first c.args.year.now.next c.in-Some.day c.args.offset (day_time_view c.args.change) (in_order c)
    c.requires.year.first c.requires.year.next found)

pub returns-in-Some-clause-from : goal.returns-in-Some-clause-from
returns-in-Some-clause-from c = let is = cast c in let parts = bounds c in omega (arith, signed_arith, parts, is)

pub returns-in-Some-clause-before : goal.returns-in-Some-clause-before
returns-in-Some-clause-before c = let is = cast c in let parts = bounds c in omega (arith, signed_arith, parts, is)

pub returns-in-None-clause-value : goal.returns-in-None-clause-value
returns-in-None-clause-value c =
    let y = c.args.year.now.number in
    let next = c.args.year.now.next in
    let none : rule_day y c.args.change.date ≡ None =
    ap (λ k. rule_day k c.args.change.date) (sym (back_year y c.requires.year.year_in)) ∙ sym c.rule_day.ensures.value ∙ c.in-None.is in
    let low = c.requires.year.low in let high = c.requires.year.high in
    let first = c.requires.year.first in let at = c.requires.year.next in
    let cast' : next ≡ to_z w64 (of_z w64 next) = omega (arith, signed_arith, low, high, first, at) in
    subst (λ s. IsCeiling (change_in y (day_time_view c.args.change) c.args.offset) s) cast'
    (change_at_end y next c.args.offset (day_time_view c.args.change) c.requires.year.next none)
