-- An open leaf is open in the marks of its execution.
use Rattle.std.proofs.Common.{◌≡◌, ◌∙◌, ℕ, zero, suc, List, [], ◌∷◌, ◌++◌, length, map, Bool, true, false, not, nat_eq, Option, Some, None, slice_get, unwrap_or, ap, sym, subst, refl, arith, append-nil, ◌+◌, if◌then◌else◌, ◌⊎◌, inl, inr}
use Rattle.std.specs.List.{list_any}
use Rattle.std.proofs.lemmas.Bool.{eqb-true, eq-eqb, false_from_ne_true, not-true, and_from}
use Rattle.rb_causes.specs.declared.row.Row.{Row}
use Rattle.rb_causes.specs.declared.ending.Ending.{Ending}
use Rattle.rb_causes.proofs.Lists.{from_filter, filter_passes, any_kept}
use Rattle.rb_acl.specs.declared.policy.Policies.{Policies}
use Rattle.rb_marks.specs.Results.{leaf_result, same_leaf, result_of_mark, of_ending}
use Rattle.rb_marks.specs.First.{first_startable, is_begin_of, is_lost, stops}
use Rattle.rb_marks.specs.declared.mark.Leaf.{Leaf}
use Rattle.rb_marks.specs.declared.mark.Mark.{Mark}
use Rattle.rb_marks.specs.declared.mark.Mark.TheVariants.{Begin, End, Abort, Lost, Withdraw}
use Rattle.rb_marks.specs.declared.mark.StepResult.TheVariants.{Undone}
use Rattle.rb_marks.proofs.Counts.{any_more, any_here, none_narrower}
use Rattle.rb_marks.proofs.Growing.{same_leaf_refl, same_leaf_true, unended_more, begin_leaves}
use Rattle.rb_marks.proofs.Waits.{first_waits, first_goes_on}
use Rattle.rb_log.specs.Rows.{is_accept, is_opened, is_begin, is_end, is_abort, is_withdraw, ending_of}
use Rattle.rb_log.specs.Asks.{ask_of}
use Rattle.rb_log.specs.Executions.{Execution, leaf_of, executions, execution_among, marked, marks_of, is_running, asked, world_before, draw_of}
use Rattle.rb_log.specs.Sums.{open_leaves, named_leaf, with_begun, without_ended, same_open}
use Rattle.rb_log.specs.LogState.{log_state}
use Rattle.rb_log.specs.Legal.{IsAdded, IsLegalLog, open_leaf, report_named}
use Rattle.rb_log.specs.Laws.{SlotsAreBounded, PlansAreSound}
use Rattle.rb_log.specs.declared.task.OpenLeaf.{OpenLeaf}
use Rattle.rb_log.proofs.ProgramLaws.{find_stays}
use Rattle.rb_log.proofs.EndLaws.{among_map, among_unaccepted, no_kind, kind_is, named_by, call_by, added, number_is, begin_first, policies_before}
use Rattle.rb_log.proofs.MarkCounts.{lost_stops}

-- ---- what stays open as marks come

-- it has begun, has no End, and is not lost
pub record Open (marks : List Mark) (leaf : Leaf) : Type 0 where
  pub begun : list_any (is_begin_of leaf) marks ≡ true
  pub undone : leaf_result marks leaf ≡ Undone
  pub kept : list_any is_lost marks ≡ false

open_one : (hs : List Mark) (leaf : Leaf) (m : Mark) → result_of_mark leaf m ≡ None → is_lost m ≡ false
    → Open hs leaf → Open (hs ++ m ∷ []) leaf
open_one hs leaf m e l h = record {
  begun = any_kept (is_begin_of leaf) hs (m ∷ []) h.begun;
  undone = unended_more hs m leaf e ∙ h.undone;
  kept = any_more is_lost hs m l ∙ h.kept;
}

open_none : (hs : List Mark) (leaf : Leaf) → Open hs leaf → Open (hs ++ []) leaf
open_none hs leaf h = subst (λ ms. Open ms leaf) (sym (append-nil hs)) h

open_by : (o s b n ab w : Bool) (lost : List Mark) (at leaf : Leaf) (ending : Ending) (node : ℕ)
    (hs : List Mark)
    → o ≡ false → (n ≡ true → s ≡ true → same_leaf at leaf ≡ false) → Open hs leaf
    → Open (hs ++ (if o then lost else if s
    then (if b then Begin at ∷ [] else if n then End at ending ∷ [] else if ab then Abort ∷ []
    else if w then Withdraw node ∷ [] else []) else [])) leaf
open_by true s b n ab w lost at leaf ending node hs o k h = absurd (grind (arith, o))
open_by false false b n ab w lost at leaf ending node hs o k h = open_none hs leaf h
open_by false true true n ab w lost at leaf ending node hs o k h =
    open_one hs leaf (Begin at) refl refl h
open_by false true false true ab w lost at leaf ending node hs o k h =
    open_one hs leaf (End at ending)
    (ap (λ c. if c then Some (of_ending ending) else None) (k refl refl)) refl h
open_by false true false false true w lost at leaf ending node hs o k h =
    open_one hs leaf Abort refl refl h
open_by false true false false false true lost at leaf ending node hs o k h =
    open_one hs leaf (Withdraw node) refl refl h
open_by false true false false false false lost at leaf ending node hs o k h =
    open_none hs leaf h

open_marked : (row : Row) (e : Execution) (leaf : Leaf) → is_opened row ≡ false
    → (is_end row ≡ true → nat_eq row.a e.number ≡ true → same_leaf (leaf_of e row.b) leaf ≡ false)
    → Open e.marks leaf → Open (e.marks ++ marks_of row e) leaf
open_marked row e leaf o k h =
    open_by (is_opened row) (nat_eq row.a e.number) (is_begin row) (is_end row) (is_abort row)
    (is_withdraw row) (if is_running e then Lost ∷ [] else []) (leaf_of e row.b) leaf
    (ending_of row.c) row.b e.marks o k h

-- ---- an open leaf of a log

pub record OpenAt (past : List Row) (o : OpenLeaf) : Type 0 where
  pub execution : Execution
  pub there : execution_among o.execution (executions past) ≡ Some execution
  pub is : Open execution.marks o.leaf

kept_by : (b : Bool) (es new : List Execution) (p : Policies) (row : Row) (n : ℕ) (leaf : Leaf)
    (e : Execution) → execution_among n es ≡ Some e → Open e.marks leaf
    → Open (e.marks ++ marks_of row e) leaf
    → (d : Execution)
    × (execution_among n (if b then es ++ new else map (marked p row) es) ≡ Some d)
    × Open d.marks leaf
kept_by true es new p row n leaf e there h k =
    (e, find_stays (λ x. nat_eq x.number n) es new e there, h)
kept_by false es new p row n leaf e there h k = (marked p row e, among_map p row n es e there, k)

kept_open : (row : Row) (past : List Row) (o : OpenLeaf) (old : OpenAt past o)
    → is_opened row ≡ false
    → (is_end row ≡ true → nat_eq row.a old.execution.number ≡ true
    → same_leaf (leaf_of old.execution row.b) o.leaf ≡ false) → OpenAt (row ∷ past) o
kept_open row past o old unopened k =
    let d = kept_by (is_accept row) (executions past)
    (asked (world_before past (executions past)) (length (executions past) + 1) (draw_of past) row
    (ask_of row.name row.body)) (policies_before past) row o.execution o.leaf old.execution
    old.there old.is
    (open_marked row old.execution o.leaf unopened k old.is) in
    record { execution = d.0; there = d.1; is = d.2 }

-- ---- lists

pub get_either : {A : Type 0} (xs : List A) (y : A) (k : ℕ) (x : A)
    → slice_get (xs ++ y ∷ []) k ≡ Some x → (slice_get xs k ≡ Some x) ⊎ (x ≡ y)
get_either [] y zero x h = inr (ap (λ o. unwrap_or o x) (sym h))
get_either [] y (suc k) x h = absurd (grind (arith, h))
get_either (z ∷ xs) y zero x h = inl h
get_either (z ∷ xs) y (suc k) x h = get_either xs y k x h

-- ---- a Begin opens its leaf

if_begin : (b : Bool) (ms : List Mark) → b ≡ true → (if b then ms else []) ≡ ms
if_begin true ms h = refl
if_begin false ms h = absurd (grind (arith, h))

pub begin_marks : (row : Row) (e : Execution) → row.kind ≡ 8 → nat_eq row.a e.number ≡ true
    → marks_of row e ≡ Begin (leaf_of e row.b) ∷ []
begin_marks row e kind same = ap (λ k. marks_of (record row { kind = k }) e) kind
    ∙ if_begin (nat_eq row.a e.number) (Begin (leaf_of e row.b) ∷ []) same

begun_open : (e : Execution) (leaf : Leaf) → first_startable e.accepted.plan e.marks ≡ Some leaf
    → Open (e.marks ++ Begin leaf ∷ []) leaf
begun_open e leaf first = record {
  begun = any_here (is_begin_of leaf) e.marks (Begin leaf) (same_leaf_refl leaf);
  undone = begin_leaves e.marks leaf leaf ∙ first_waits e.accepted.plan e.marks leaf first;
  kept = any_more is_lost e.marks (Begin leaf) refl
      ∙ none_narrower is_lost stops lost_stops e.marks
      (first_goes_on e.accepted.plan e.marks leaf first);
}

opened_at : SlotsAreBounded → PlansAreSound → (past : List Row) (row : Row)
    → IsLegalLog (row ∷ past) → is_begin row ≡ true → (d : Execution)
    → execution_among row.a (executions past) ≡ Some d
    → OpenAt (row ∷ past) (named_leaf row d)
opened_at slots plans past row h is d there =
    let kind : row.kind ≡ 8 = kind_is row 8 is in
    let same : nat_eq row.a d.number ≡ true =
    eq-eqb row.a d.number (sym (number_is row.a (executions past) d there)) in
    record {
      execution = marked (policies_before past) row d;
      there = among_unaccepted (is_accept row) (executions past)
          (asked (world_before past (executions past)) (length (executions past) + 1) (draw_of past)
          row (ask_of row.name row.body)) (policies_before past) row row.a d
          (no_kind row 8 5 kind refl) there;
      is = subst (λ ms. Open (d.marks ++ ms) (leaf_of d row.b)) (sym (begin_marks row d kind same))
          (begun_open d (leaf_of d row.b) (begin_first slots plans past row h is d there));
    }

-- ---- each open leaf is open

abbrev pub AllOpen : List Row → Type 0
AllOpen past = (k : ℕ) (o : OpenLeaf) → slice_get (open_leaves past) k ≡ Some o → OpenAt past o

module _ (slots : SlotsAreBounded) (plans : PlansAreSound) (past : List Row) (row : Row)
    (legal : IsLegalLog (row ∷ past)) (before : AllOpen past) where
  unended : (o : OpenLeaf) (old : OpenAt past o) → is_end row ≡ false → is_end row ≡ true
      → nat_eq row.a old.execution.number ≡ true
      → same_leaf (leaf_of old.execution row.b) o.leaf ≡ false
  unended o old h k same = absurd (let no_end : false ≡ true = sym h ∙ k in grind (arith, no_end))

  other_row : (k : ℕ) (o : OpenLeaf) → is_opened row ≡ false → is_end row ≡ false
      → slice_get (open_leaves past) k ≡ Some o → OpenAt (row ∷ past) o
  other_row k o h no_end get = let old = before k o get in
      kept_open row past o old h (unended o old no_end)

  begin_row_by : (found : Option Execution) → execution_among row.a (executions past) ≡ found
      → is_opened row ≡ false → is_begin row ≡ true
      → (k : ℕ) (o : OpenLeaf) → slice_get (with_begun row found (open_leaves past)) k ≡ Some o
      → OpenAt (row ∷ past) o
  begin_row_by None there h is k o get =
      other_row k o h (no_kind row 8 9 (kind_is row 8 is) refl) get
  begin_row_by (Some d) there h is k o get =
      elim (get_either (open_leaves past) (named_leaf row d) k o get) [
        | inl old ↦ other_row k o h (no_kind row 8 9 (kind_is row 8 is) refl) old
        | inr new ↦ subst (λ x. OpenAt (row ∷ past) x) (sym new)
            (opened_at slots plans past row legal is d there)
      ]

  -- a leaf that an End leaves is another one
  another : (d : Execution) (o : OpenLeaf) (old : OpenAt past o)
      → execution_among row.a (executions past) ≡ Some d → same_open o (named_leaf row d) ≡ false
      → nat_eq row.a old.execution.number ≡ true
      → same_leaf (leaf_of old.execution row.b) o.leaf ≡ false
  another d o old there apart same =
      false_from_ne_true (same_leaf (leaf_of old.execution row.b) o.leaf) (λ yes.
      let a_is : row.a ≡ old.execution.number = eqb-true row.a old.execution.number same in
      let number : old.execution.number ≡ o.execution =
      number_is o.execution (executions past) old.execution old.there in
      let of_d : old.execution ≡ d =
      ap (λ x. unwrap_or x d) (sym old.there
      ∙ ap (λ n. execution_among n (executions past)) (sym number ∙ sym a_is) ∙ there) in
      let leaf : leaf_of d row.b ≡ o.leaf =
      ap (λ z. leaf_of z row.b) (sym of_d)
      ∙ same_leaf_true (leaf_of old.execution row.b) o.leaf yes in
      let both : same_open o (named_leaf row d) ≡ true =
      and_from (nat_eq o.execution row.a) (same_leaf o.leaf (leaf_of d row.b))
      (eq-eqb o.execution row.a (sym number ∙ sym a_is))
      (subst (λ l. same_leaf o.leaf l ≡ true) (sym leaf) (same_leaf_refl o.leaf)) in
      let wrong : false ≡ true = sym apart ∙ both in
      grind (arith, wrong))

  end_row_by : (found : Option Execution) → execution_among row.a (executions past) ≡ found
      → is_opened row ≡ false → is_end row ≡ true
      → (k : ℕ) (o : OpenLeaf) → slice_get (without_ended row found (open_leaves past)) k ≡ Some o
      → OpenAt (row ∷ past) o
  end_row_by None there h is k o get =
      let kind : row.kind ≡ 9 = kind_is row 9 is in
      let adds : IsAdded (log_state past) row (call_by (log_state past) row 9) =
      subst (IsAdded (log_state past) row) (named_by (log_state past) row 9 kind)
      (added past row 7 legal kind) in
      absurd (subst (λ x. IsAdded (log_state past) row
      (report_named row (open_leaf (open_leaves past) row.a row.b x))) there adds)
  end_row_by (Some d) there h is k o get =
      let from = from_filter (λ y. not (same_open y (named_leaf row d))) (open_leaves past) k o
      get in
      let apart = not-true (same_open o (named_leaf row d))
      (filter_passes (λ y. not (same_open y (named_leaf row d))) (open_leaves past) k o get) in
      let old = before from.0 o from.1 in
      kept_open row past o old h (λ e same. another d o old there apart same)

  row_by : (o b n : Bool) → is_opened row ≡ o → is_begin row ≡ b → is_end row ≡ n
      → (k : ℕ) (x : OpenLeaf)
      → slice_get (if o then [] else if b
      then with_begun row (execution_among row.a (executions past)) (open_leaves past)
      else if n then without_ended row (execution_among row.a (executions past)) (open_leaves past)
      else open_leaves past) k ≡ Some x → OpenAt (row ∷ past) x
  row_by true b n i j l k x get = absurd (grind (arith, get))
  row_by false true n i j l k x get =
      begin_row_by (execution_among row.a (executions past)) refl i j k x get
  row_by false false true i j l k x get =
      end_row_by (execution_among row.a (executions past)) refl i l k x get
  row_by false false false i j l k x get = other_row k x i l get

pub all_open : SlotsAreBounded → PlansAreSound → (past : List Row) → IsLegalLog past → AllOpen past
all_open slots plans [] h k o get = absurd (grind (arith, get))
all_open slots plans (row ∷ past) h k o get =
    row_by slots plans past row h (all_open slots plans past h.0) (is_opened row) (is_begin row)
    (is_end row) refl refl refl k o get
