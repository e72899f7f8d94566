-- Whether an execution runs is told behind an End and an abort too.
use Rattle.std.proofs.Common.{◌≡◌, ◌∙◌, ℕ, List, [], ◌∷◌, ◌++◌, true, false, not, ◌&&◌, nat_eq, None, Some, slice_get, ap, sym, subst, refl, arith, if◌then◌else◌}
use Rattle.std.specs.List.{list_any}
use Rattle.std.proofs.lemmas.Bool.{and_parts, eqb-true, eq-eqb, and_from, not-true, false_from_ne_true}
use Rattle.std.proofs.Math.Bool.{and-false}
use Rattle.rb_causes.specs.declared.row.Row.{Row}
use Rattle.rb_causes.specs.declared.ending.Ending.{Ending}
use Rattle.rb_causes.proofs.Lists.{from_filter, filter_passes, any_kept}
use Rattle.rb_marks.specs.Results.{of_ending, same_leaf}
use Rattle.rb_marks.specs.Units.{is_settled}
use Rattle.rb_marks.specs.First.{is_begin_of, is_lost, is_open, open_begin, stops}
use Rattle.rb_marks.specs.declared.mark.Leaf.{Leaf}
use Rattle.rb_marks.specs.declared.mark.Mark.{Mark}
use Rattle.rb_marks.specs.declared.mark.Mark.TheVariants.{Abort, End, Withdraw}
use Rattle.rb_marks.proofs.Counts.{any_more, any_same, any_wider}
use Rattle.rb_marks.proofs.Growing.{same_leaf_refl, same_leaf_true, unended_more, withdraw_leaves_open}
use Rattle.rb_log.specs.Executions.{Execution, WithdrawnNode, executions, is_running}
use Rattle.rb_log.specs.Legal.{IsLegalLog}
use Rattle.rb_log.specs.Sums.{open_leaves, same_open, without_leaf}
use Rattle.rb_log.specs.declared.task.OpenLeaf.{OpenLeaf}
use Rattle.rb_tables.specs.Running.{has_open_leaf, runs, with_mark, with_withdrawal}
use Rattle.rb_tables.specs.LogLaws.{LogLaws}
use Rattle.rb_changes.proofs.EndedRows.{OpenAt}
use Rattle.rb_tables.proofs.Lists.{any_gives, both_ways}
use Rattle.rb_tables.proofs.OpenListed.{all_listed, end_of_other, is_open_by, is_that, open_any, open_before, opens, other_stays}
use Rattle.rb_tables.proofs.OpenStatus.{any_open, not_lost, open_in, opens_are_told, opens_behind, told_if}

-- behind an abort
pub abort_told : LogLaws → (past : List Row) (k : ℕ) (e : Execution) → IsLegalLog past
    → slice_get (executions past) k ≡ Some e → list_any stops e.marks ≡ false
    → runs (with_mark e Abort) (open_leaves past) ≡ is_running (with_mark e Abort)
abort_told laws past k e legal get h =
    told_if (with_mark e Abort) (open_leaves past)
    (any_more is_lost e.marks Abort refl ∙ not_lost e.marks h)
    (opens_behind e.marks ∙ opens_are_told laws past k e legal get (not_lost e.marks h))

-- behind a withdrawal
opens_withdrawn : (ms : List Mark) (node : ℕ)
    → list_any (open_begin (ms ++ Withdraw node ∷ [])) (ms ++ Withdraw node ∷ [])
    ≡ list_any (open_begin ms) ms
opens_withdrawn ms node =
    any_more (open_begin (ms ++ Withdraw node ∷ [])) ms (Withdraw node) refl
    ∙ any_same (open_begin (ms ++ Withdraw node ∷ [])) (open_begin ms)
    (withdraw_leaves_open ms node) ms

pub withdraw_told : LogLaws → (past : List Row) (k : ℕ) (e : Execution) (w : WithdrawnNode)
    → IsLegalLog past → slice_get (executions past) k ≡ Some e
    → list_any stops e.marks ≡ false
    → runs (with_withdrawal e w) (open_leaves past) ≡ is_running (with_withdrawal e w)
withdraw_told laws past k e w legal get h =
    told_if (with_withdrawal e w) (open_leaves past)
    (any_more is_lost e.marks (Withdraw w.node) refl ∙ not_lost e.marks h)
    (opens_withdrawn e.marks w.node
    ∙ opens_are_told laws past k e legal get (not_lost e.marks h))

-- the End of another leaf
still_open : (ms : List Mark) (at leaf : Leaf) (ending : Ending) → same_leaf at leaf ≡ false
    → is_open ms leaf ≡ true → is_open (ms ++ End at ending ∷ []) leaf ≡ true
still_open ms at leaf ending apart h =
    let parts = opens ms leaf h in
    is_open_by (ms ++ End at ending ∷ []) leaf
    (any_kept (is_begin_of leaf) ms (End at ending ∷ []) parts.0)
    (ap is_settled (unended_more ms (End at ending) leaf
    (ap (λ b. if b then Some (of_ending ending) else None) apart)) ∙ parts.1)

apart_of : (q claimed : OpenLeaf) → same_open q claimed ≡ false
    → nat_eq q.execution claimed.execution ≡ true → same_leaf claimed.leaf q.leaf ≡ false
apart_of q claimed apart number =
    false_from_ne_true (same_leaf claimed.leaf q.leaf) (λ yes.
    let same : same_leaf q.leaf claimed.leaf ≡ true =
    subst (λ l. same_leaf l claimed.leaf ≡ true) (same_leaf_true claimed.leaf q.leaf yes)
    (same_leaf_refl claimed.leaf) in
    let wrong : false ≡ true = sym apart
    ∙ and_from (nat_eq q.execution claimed.execution) (same_leaf q.leaf claimed.leaf) number
    same in
    grind (arith, wrong))

module _ (laws : LogLaws) (past : List Row) (claimed : OpenLeaf) (ending : Ending)
    (legal : IsLegalLog past)
    (place : ℕ) (at : OpenAt past claimed place) where
  abbrev ms : List Mark
  ms = at.execution.marks

  abbrev behind : List Mark
  behind = ms ++ End claimed.leaf ending ∷ []

  abbrev left : List OpenLeaf
  left = without_leaf claimed (open_leaves past)

  is_left : list_any (open_begin behind) behind ≡ true
      → has_open_leaf at.execution.number left ≡ true
  is_left h =
      let n : ℕ = at.execution.number in
      let o = any_open behind h in
      let before = open_before ms (End claimed.leaf ending) o.0 refl o.1 in
      let other : (nat_eq claimed.execution n && same_leaf claimed.leaf o.0) ≡ false =
      ap (λ b. nat_eq claimed.execution n && b) (end_of_other ms claimed.leaf o.0 ending o.1)
      ∙ and-false (nat_eq claimed.execution n) in
      any_wider (is_that n o.0) (λ l. nat_eq l.execution n)
      (λ l is. (and_parts (nat_eq l.execution n) (same_leaf l.leaf o.0) is).0) left
      (other_stays n o.0 claimed (open_leaves past) other
      (all_listed laws.numbered past place at.execution at.found o.0 before at.kept))

  is_open_still : has_open_leaf at.execution.number left ≡ true
      → list_any (open_begin behind) behind ≡ true
  is_open_still h =
      let n : ℕ = at.execution.number in
      let g = any_gives (λ l. nat_eq l.execution n) left h in
      let q : OpenLeaf = g.1 in
      let from = from_filter (λ y. not (same_open y claimed)) (open_leaves past) g.0 q g.2 in
      let apart = not-true (same_open q claimed)
      (filter_passes (λ y. not (same_open y claimed)) (open_leaves past) g.0 q g.2) in
      let before = open_in laws past place at.execution legal at.found from.0 q from.1 g.3 in
      let number = eq-eqb q.execution claimed.execution
      (eqb-true q.execution n g.3 ∙ at.number) in
      open_any behind q.leaf
      (still_open ms claimed.leaf q.leaf ending (apart_of q claimed apart number) before.0)

  -- behind an End
  pub end_told : runs (with_mark at.execution (End claimed.leaf ending)) left
      ≡ is_running (with_mark at.execution (End claimed.leaf ending))
  end_told =
      told_if (with_mark at.execution (End claimed.leaf ending)) left
      (any_more is_lost ms (End claimed.leaf ending) refl ∙ at.kept)
      (both_ways (list_any (open_begin behind) behind) (has_open_leaf at.execution.number left)
      is_left is_open_still)
