use Rattle.std.proofs.Common.{◌≡◌, ◌∙◌, ◌-◌, ◌++◌, ℕ, zero, suc, List, [], ◌∷◌, length, map, filter, reverse, take, drop, ap, sym, subst, refl, arith}
use Rattle.std.proofs.lemmas.List.{drop_all, reverse-append}
use Rattle.std.proofs.lemmas.List.Elements.{filter-append}
use Rattle.std.proofs.lemmas.Option.{slice_get_read}
use Rattle.rb_log.specs.Executions.{Execution}
use Rattle.rb_log.specs.Runs.{view_of}
use Rattle.rb_looks.specs.Looking.{chosen_newest_first, is_chosen, IsPageOf}
use Rattle.rb_looks.specs.declared.shown_executions.PageChoice.{PageChoice}
use Rattle.rb_tables.proofs.Entries.{entries_many, entry_there}
use Rattle.rb_tables.proofs.Starts.{drop_at}
use Rattle.rb_looks.proofs.shown_executions.page_of.Goals as goal

abbrev none : List Execution
none = []

take_none : (n : ℕ) → none ≡ take n none
take_none zero = refl
take_none (suc n) = refl

drop_none : (n : ℕ) → none ≡ drop n none
drop_none zero = refl
drop_none (suc n) = refl

-- of none nothing is shown
none_shown : (choice : PageChoice) → IsPageOf choice [] 0 []
none_shown choice = record {
  total_is = refl;
  shown = ap (map view_of)
      (take_none choice.max ∙ ap (take choice.max) (drop_none choice.offset));
}

-- an older one comes behind
chosen_more : (choice : PageChoice) (l : Execution) (ls : List Execution)
    → chosen_newest_first choice (l ∷ ls) ≡ chosen_newest_first choice ls ++ filter (is_chosen choice) (l ∷ [])
chosen_more choice l ls =
    ap (filter (is_chosen choice)) (reverse-append (l ∷ []) ls)
    ∙ filter-append (is_chosen choice) (reverse ls) (l ∷ [])

pub loop-left-init : goal.loop-left-init
loop-left-init c = (
  omega arith,
  λ ls are.
      let choice = c.args.choice.now in
      let many = entries_many c.args.executions.now ls are in
      subst (IsPageOf choice (chosen_newest_first choice (drop (length c.args.executions.now) ls)) 0)
      (sym c.new.ensures)
      (subst (λ es. IsPageOf choice (chosen_newest_first choice es) 0 [])
      (sym (drop_all (length c.args.executions.now) ls (omega (arith, many))))
      (none_shown choice)),
)

pub loop-left-preserved : goal.loop-left-preserved
loop-left-preserved c = (
  omega (
    arith,
    c.in_ok-add_chosen.ensures.total,
    c.loop-left.invariant.0,
    c.loop-left-test.true,
  ),
  λ ls are.
      let choice = c.args.choice.now in
      let es = c.args.executions.now in
      let k = c.loop-left.left - 1 in
      let x = c.index-executions-left.result in
      let there = entry_there es ls are k x
      (slice_get_read es (length es) k x refl
      (omega (arith, c.loop-left.invariant.0, c.loop-left-test.true))
      c.index-executions-left.is) in
      let next : suc k ≡ c.loop-left.left = omega (arith, c.loop-left-test.true) in
      let is = ap (chosen_newest_first choice) (drop_at ls k there.0 there.1)
      ∙ chosen_more choice there.0 (drop (suc k) ls)
      ∙ ap (λ n. chosen_newest_first choice (drop n ls) ++ filter (is_chosen choice) (there.0 ∷ [])) next in
      subst (λ found. IsPageOf choice found c.add_chosen.new.page.total
      c.add_chosen.new.page.views) (sym is)
      (c.in_ok-add_chosen.ensures.shown (chosen_newest_first choice (drop c.loop-left.left ls)) there.0
      there.2.is (c.loop-left.invariant.1 ls are)),
)
