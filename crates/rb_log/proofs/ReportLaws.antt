-- What a report adds may come: no two open leaves are of one leaf, so that the row names this
-- report.
use Rattle.std.proofs.Common.{◌≡◌, ◌∙◌, ◌<◌, ℕ, zero, suc, ℤ, List, [], ◌∷◌, length, find, Bool, true, false, cond, not, ◌&&◌, Contains, nat_eq, Option, Some, None, slice_get, unwrap_or, ap, sym, subst, refl, arith, if◌then◌else◌, inl, inr}
use Rattle.std.specs.List.{list_any}
use Rattle.std.proofs.lemmas.Bool.{eqb-true, eq-eqb, and_parts, and_from}
use Rattle.std.proofs.lemmas.Option.{slice_get-get_or}
use Rattle.rb_causes.specs.declared.row.Row.{Row}
use Rattle.rb_causes.specs.declared.ending.Ending.{Ending}
use Rattle.rb_causes.specs.declared.ending.Ending.TheVariants.{Code, NotStarted}
use Rattle.rb_marks.specs.Results.{same_leaf}
use Rattle.rb_marks.specs.First.{is_begin_of}
use Rattle.rb_marks.proofs.Growing.{same_leaf_refl, same_leaf_true}
use Rattle.rb_marks.proofs.Once.{first_not_begun}
use Rattle.rb_log.specs.Rows.{is_opened, is_begin, is_end, end_row, ending_number, ending_of}
use Rattle.rb_causes.specs.Moments.{IsMoment}
use Rattle.rb_causes.proofs.Lists.{find_gives, from_filter}
use Rattle.rb_log.specs.Readings.{Reading}
use Rattle.rb_log.specs.Tasks.{DoneValue, is_ending}
use Rattle.rb_log.specs.Executions.{Execution, leaf_of, executions, execution_among}
use Rattle.rb_log.specs.Sums.{open_leaves, named_leaf, with_begun, without_ended, same_open}
use Rattle.rb_log.specs.LogState.{LogState, log_state, moment, execution_at}
use Rattle.rb_log.specs.Claims.{report, reported_end_row, leaf_number_in}
use Rattle.rb_log.specs.Legal.{IsLegalLog, call_named, open_leaf, report_named}
use Rattle.rb_log.specs.declared.call.Call.TheVariants.{Report}
use Rattle.rb_log.specs.Laws.{SlotsAreBounded, PlansAreSound}
use Rattle.rb_log.specs.declared.task.OpenLeaf.{OpenLeaf}
use Rattle.rb_log.proofs.EndLaws.{begin_first, is_that}
use Rattle.rb_log.proofs.OpenLaws.{all_open, get_either}
use Rattle.rb_log.proofs.MarkLaws.{all_legal}
use Rattle.rb_log.proofs.RightLaws.{begun_slot}
use Rattle.rb_log.proofs.RowLaws.{leaf_is_kept}
use Rattle.rb_log.proofs.TurnLaws.{moment_twice, moment_is, comes}

-- ---- no two open leaves are of one leaf

abbrev OneEach : List OpenLeaf → Type 0
OneEach leaves = (j k : ℕ) (o q : OpenLeaf) → slice_get leaves j ≡ Some o
    → slice_get leaves k ≡ Some q → same_open o q ≡ true → o ≡ q

swap_open : (o q : OpenLeaf) → same_open o q ≡ true → same_open q o ≡ true
swap_open o q h =
    let parts = and_parts (nat_eq o.execution q.execution) (same_leaf o.leaf q.leaf) h in
    and_from (nat_eq q.execution o.execution) (same_leaf q.leaf o.leaf)
    (eq-eqb q.execution o.execution (sym (eqb-true o.execution q.execution parts.0)))
    (subst (λ l. same_leaf q.leaf l ≡ true) (sym (same_leaf_true o.leaf q.leaf parts.1))
    (same_leaf_refl q.leaf))

module _ (slots : SlotsAreBounded) (plans : PlansAreSound) (past : List Row) (row : Row)
    (legal : IsLegalLog (row ∷ past)) (before : OneEach (open_leaves past)) where
  -- a leaf that is open is not the one that begins
  not_new : is_begin row ≡ true → (d : Execution) → execution_among row.a (executions past) ≡ Some d
      → (j : ℕ) (o : OpenLeaf) → slice_get (open_leaves past) j ≡ Some o
      → same_open o (named_leaf row d) ≡ true → ⊥
  not_new is d there j o get same =
      let parts = and_parts (nat_eq o.execution row.a) (same_leaf o.leaf (leaf_of d row.b)) same in
      let old = all_open slots plans past legal.0 j o get in
      let of_d : old.execution ≡ d =
      ap (λ x. unwrap_or x d) (sym old.there
      ∙ ap (λ n. execution_among n (executions past)) (eqb-true o.execution row.a parts.0)
      ∙ there) in
      let begun : list_any (is_begin_of (leaf_of d row.b)) d.marks ≡ true =
      subst (λ l. list_any (is_begin_of l) d.marks ≡ true)
      (same_leaf_true o.leaf (leaf_of d row.b) parts.1)
      (subst (λ (z : Execution). list_any (is_begin_of o.leaf) z.marks ≡ true) of_d old.is.begun) in
      let wrong : false ≡ true = sym
      (first_not_begun d.accepted.plan d.marks (leaf_of d row.b)
      (begin_first slots plans past row legal is d there)) ∙ begun in
      grind (arith, wrong)

  begun_each : is_begin row ≡ true → (found : Option Execution)
      → execution_among row.a (executions past) ≡ found
      → OneEach (with_begun row found (open_leaves past))
  begun_each is None there j k o q a b same = before j k o q a b same
  begun_each is (Some d) there j k o q a b same =
      elim (get_either (open_leaves past) (named_leaf row d) j o a) [
        | inl o_old ↦ elim (get_either (open_leaves past) (named_leaf row d) k q b) [
          | inl q_old ↦ before j k o q o_old q_old same
          | inr q_new ↦ absurd (not_new is d there j o o_old
              (subst (λ x. same_open o x ≡ true) q_new same))
        ]
        | inr o_new ↦ elim (get_either (open_leaves past) (named_leaf row d) k q b) [
          | inl q_old ↦ absurd (not_new is d there k q q_old
              (swap_open (named_leaf row d) q (subst (λ x. same_open x q ≡ true) o_new same)))
          | inr q_new ↦ o_new ∙ sym q_new
        ]
      ]

  ended_each : (found : Option Execution) → OneEach (without_ended row found (open_leaves past))
  ended_each None j k o q a b same = before j k o q a b same
  ended_each (Some d) j k o q a b same =
      let f = from_filter (λ y. not (same_open y (named_leaf row d))) (open_leaves past) j o a in
      let g = from_filter (λ y. not (same_open y (named_leaf row d))) (open_leaves past) k q b in
      before f.0 g.0 o q f.1 g.1 same

  none_each : OneEach []
  none_each j k o q a b same = absurd (grind (arith, a))

  each_by : (o b n : Bool) → is_begin row ≡ b
      → OneEach (if o then [] else if b
      then with_begun row (execution_among row.a (executions past)) (open_leaves past)
      else if n then without_ended row (execution_among row.a (executions past)) (open_leaves past)
      else open_leaves past)
  each_by true b n is = none_each
  each_by false true n is = begun_each is (execution_among row.a (executions past)) refl
  each_by false false true is = ended_each (execution_among row.a (executions past))
  each_by false false false is = before

pub one_each : SlotsAreBounded → PlansAreSound → (past : List Row) → IsLegalLog past
    → OneEach (open_leaves past)
one_each slots plans [] h j k o q a b same = absurd (grind (arith, a))
one_each slots plans (row ∷ past) h j k o q a b same =
    each_by slots plans past row h (one_each slots plans past h.0) (is_opened row) (is_begin row)
    (is_end row) refl j k o q a b same

-- ---- the row of a report

pub ending_kept : (ending : Ending) → is_ending ending ≡ true
    → ending_of (ending_number ending) ≡ ending
ending_kept NotStarted h = refl
ending_kept (Code n) h = code_by (nat_eq n 257) refl
  where
    code_by : (b : Bool) → nat_eq n 257 ≡ b → (if b then NotStarted else Code n) ≡ Code n
    code_by true is = absurd (grind (arith, h, is))
    code_by false is = refl

found_or : {A : Type 0} (p : A → Bool) (b : Bool) (x : A) (xs : List A) → p x ≡ b
    → ((y : A) × (find p xs ≡ Some y)) → (y : A) × (cond b (Some x) (find p xs) ≡ Some y)
found_or p true x xs is g = (x, refl)
found_or p false x xs is g = g

pub find_there : {A : Type 0} (p : A → Bool) (xs : List A) (k : ℕ) (x : A) → slice_get xs k ≡ Some x
    → p x ≡ true → (y : A) × (find p xs ≡ Some y)
find_there p [] k x h is = absurd (grind (arith, h))
find_there p (z ∷ xs) zero x h is = here_by (p z) (ap p (ap (λ o. unwrap_or o x) h) ∙ is)
  where
    here_by : (b : Bool) → b ≡ true → (y : _) × (cond b (Some z) (find p xs) ≡ Some y)
    here_by true is = (z, refl)
    here_by false is = absurd (grind (arith, is))
find_there p (z ∷ xs) (suc k) x h is = found_or p (p z) z xs refl (find_there p xs k x h is)

module _ (slots : SlotsAreBounded) (plans : PlansAreSound) (past : List Row) (at : ℤ)
    (done : DoneValue) (legal : IsLegalLog past) (some : 0 < length past) (clock : IsMoment at)
    (has : Contains (open_leaves past) done.claimed) (formed : is_ending done.ending ≡ true)
    (reading : Reading) where
  abbrev s : LogState
  s = log_state past

  abbrev now : ℤ
  now = moment s at

  here : slice_get (open_leaves past) has.0 ≡ Some done.claimed
  here = slice_get-get_or (open_leaves past) has.0 done.claimed has.1 ∙ ap Some has.2

  -- the End of this report in an execution
  abbrev end_in : Execution → Row
  end_in e = end_row now done.claimed.execution (leaf_number_in e done.claimed.leaf) done.ending

  -- of the open leaves the first of this one is this one
  is_found : find (is_that done.claimed.execution done.claimed.leaf) (open_leaves past)
      ≡ Some done.claimed
  is_found =
      let p : OpenLeaf → Bool = is_that done.claimed.execution done.claimed.leaf in
      let same : p done.claimed ≡ true =
      and_from (nat_eq done.claimed.execution done.claimed.execution)
      (same_leaf done.claimed.leaf done.claimed.leaf)
      (eq-eqb done.claimed.execution done.claimed.execution refl)
      (same_leaf_refl done.claimed.leaf) in
      let y = find_there p (open_leaves past) has.0 done.claimed here same in
      let g = find_gives p (open_leaves past) y.0 y.1 in
      y.1 ∙ ap Some (one_each slots plans past legal g.0 has.0 y.0 done.claimed g.1 here g.2)

  named : (e : Execution) → execution_at s done.claimed.execution ≡ Some e
      → leaf_of e (leaf_number_in e done.claimed.leaf) ≡ done.claimed.leaf
      → call_named s (end_in e) ≡ Some (Report done now)
  named e there leaf =
      ap (λ o. report_named (end_in e)
      (open_leaf (open_leaves past) done.claimed.execution (leaf_number_in e done.claimed.leaf) o))
      there
      ∙ ap (λ l. report_named (end_in e)
      (find (λ o. nat_eq o.execution done.claimed.execution && same_leaf o.leaf l)
      (open_leaves past))) leaf
      ∙ ap (report_named (end_in e)) is_found
      ∙ ap (λ ending. Some (Report (record { claimed = done.claimed; ending = ending }) now))
      (ending_kept done.ending formed)

  comes_in : (e : Execution) → execution_at s done.claimed.execution ≡ Some e
      → leaf_of e (leaf_number_in e done.claimed.leaf) ≡ done.claimed.leaf → (row : Row)
      → row ≡ end_in e → (report s now done).row ≡ Some row → IsLegalLog (row ∷ past)
  comes_in e there leaf row is h =
      subst (λ r. IsLegalLog (r ∷ past)) (sym is)
      (comes past (end_in e) (Report done now) legal some refl (moment_is past at legal clock)
      (named e there leaf) (record {
        asked = (moment_is past at legal clock, has);
        formed = formed;
        reading = reading;
        may_read = tt;
        added = ap (λ t. reported_end_row t done (execution_at s done.claimed.execution))
            (moment_twice s at) ∙ h ∙ ap Some is;
      }))

  pub report_may_come : (row : Row) → (report s now done).row ≡ Some row → IsLegalLog (row ∷ past)
  report_may_come row h =
      let o = all_open slots plans past legal has.0 done.claimed here in
      let j = find_gives (λ x. nat_eq x.number done.claimed.execution) (executions past) o.execution
      o.there in
      let e = o.execution in
      let bound = begun_slot slots e.accepted.plan e.marks done.claimed.leaf
      (plans past j.0 e legal j.1) (all_legal slots plans past legal j.0 e j.1) o.is.begun in
      comes_in e o.there (leaf_is_kept e.accepted.plan.slots done.claimed.leaf bound) row
      (sym (ap (λ x. unwrap_or x row) (sym (ap (λ f. reported_end_row now done f) o.there) ∙ h))) h
