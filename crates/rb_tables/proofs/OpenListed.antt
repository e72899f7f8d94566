-- A leaf that is open in the marks of an execution which is not lost is one of the open leaves.
use Rattle.std.proofs.Common.{◌≡◌, ◌∙◌, ℕ, List, [], ◌∷◌, ◌++◌, length, map, Bool, true, false, not, ◌&&◌, nat_eq, Option, Some, None, slice_get, ap, sym, subst, refl, arith, append-nil, ◌+◌, if◌then◌else◌, inl, inr}
use Rattle.std.specs.List.{list_any}
use Rattle.std.proofs.lemmas.Bool.{eqb-true, eq-eqb, and_parts, and_from, not-true, false_from_ne_true}
use Rattle.std.proofs.lemmas.Option.{slice_get-map}
use Rattle.std.proofs.Math.Bool.{and-false}
use Rattle.rb_causes.specs.declared.row.Row.{Row}
use Rattle.rb_causes.specs.declared.ending.Ending.{Ending}
use Rattle.rb_causes.proofs.Lists.{get_append, any_kept}
use Rattle.rb_marks.specs.Results.{leaf_result, same_leaf}
use Rattle.rb_marks.specs.Units.{is_settled}
use Rattle.rb_marks.specs.First.{is_begin_of, is_lost, is_open, open_begin}
use Rattle.rb_marks.specs.declared.mark.Leaf.{Leaf}
use Rattle.rb_marks.specs.declared.mark.Mark.{Mark}
use Rattle.rb_marks.specs.declared.mark.Mark.TheVariants.{Begin, End, Abort, Lost, Withdraw}
use Rattle.rb_marks.proofs.Counts.{any_more, any_here, any_wider}
use Rattle.rb_marks.proofs.Growing.{same_leaf_true, same_leaf_refl, unsettled, of_ending_settled, result_kept, end_more}
use Rattle.rb_log.specs.Rows.{is_accept, is_opened, is_begin, is_end, is_abort, is_withdraw, ending_of}
use Rattle.rb_log.specs.Asks.{ask_of}
use Rattle.rb_log.specs.Executions.{Execution, leaf_of, executions, execution_among, marked, is_running, asked, world_before, draw_of}
use Rattle.rb_log.specs.Sums.{open_leaves, named_leaf, with_begun, without_ended, without_leaf, same_open}
use Rattle.rb_log.specs.declared.task.OpenLeaf.{OpenLeaf}
use Rattle.rb_log.specs.Laws.{ExecutionsAreNumbered}
use Rattle.rb_log.proofs.RoomLaws.{open_runs}
use Rattle.rb_log.proofs.MarkLaws.{from_map_by}
use Rattle.rb_log.proofs.RightLaws.{begin_is}
use Rattle.rb_tables.proofs.Fresh.{AreFresh, asked_fresh}
use Rattle.rb_tables.proofs.Lists.{any_filter}
use Rattle.rb_tables.proofs.Marked.{found_at, policies_before}

-- ---- marks

-- by its parts
pub opens : (ms : List Mark) (leaf : Leaf) → is_open ms leaf ≡ true
    → (list_any (is_begin_of leaf) ms ≡ true) × (is_settled (leaf_result ms leaf) ≡ false)
opens ms leaf h =
    let parts = and_parts (list_any (is_begin_of leaf) ms) (not (is_settled (leaf_result ms leaf)))
    h in (parts.0, not-true (is_settled (leaf_result ms leaf)) parts.1)

pub is_open_by : (ms : List Mark) (leaf : Leaf) → list_any (is_begin_of leaf) ms ≡ true
    → is_settled (leaf_result ms leaf) ≡ false → is_open ms leaf ≡ true
is_open_by ms leaf h k =
    and_from (list_any (is_begin_of leaf) ms) (not (is_settled (leaf_result ms leaf))) h (ap not k)

-- a leaf that has no End behind had none before
unsettled_before : (ms more : List Mark) (leaf : Leaf)
    → is_settled (leaf_result (ms ++ more) leaf) ≡ false
    → is_settled (leaf_result ms leaf) ≡ false
unsettled_before ms more leaf h =
    false_from_ne_true (is_settled (leaf_result ms leaf)) (λ yes.
    let wrong : false ≡ true = sym h ∙ ap is_settled (result_kept ms more leaf yes) ∙ yes in
    grind (arith, wrong))

-- what is open with a mark that begins no such leaf was open before
pub open_before : (ms : List Mark) (m : Mark) (leaf : Leaf) → is_begin_of leaf m ≡ false
    → is_open (ms ++ m ∷ []) leaf ≡ true → is_open ms leaf ≡ true
open_before ms m leaf is h =
    let parts = opens (ms ++ m ∷ []) leaf h in
    is_open_by ms leaf (sym (any_more (is_begin_of leaf) ms m is) ∙ parts.0)
    (unsettled_before ms (m ∷ []) leaf parts.1)

-- and an End is of another leaf
pub end_of_other : (ms : List Mark) (at leaf : Leaf) (ending : Ending)
    → is_open (ms ++ End at ending ∷ []) leaf ≡ true → same_leaf at leaf ≡ false
end_of_other ms at leaf ending h =
    false_from_ne_true (same_leaf at leaf) (λ yes.
    let parts = opens (ms ++ End at ending ∷ []) leaf h in
    let undone = unsettled (leaf_result ms leaf)
    (unsettled_before ms (End at ending ∷ []) leaf parts.1) in
    let is : is_settled (leaf_result (ms ++ End at ending ∷ []) leaf) ≡ true =
    ap (λ l. is_settled (leaf_result (ms ++ End l ending ∷ []) leaf)) (same_leaf_true at leaf yes)
    ∙ ap is_settled (end_more ms leaf ending undone) ∙ of_ending_settled ending in
    let wrong : false ≡ true = sym parts.1 ∙ is in
    grind (arith, wrong))

-- a leaf that is open is one whose Begin has no End
pub open_any : (ms : List Mark) (leaf : Leaf) → is_open ms leaf ≡ true
    → list_any (open_begin ms) ms ≡ true
open_any ms leaf h =
    let parts = opens ms leaf h in
    any_wider (is_begin_of leaf) (open_begin ms)
    (λ m b. subst (λ x. open_begin ms x ≡ true) (sym (begin_is leaf m b)) (ap not parts.1)) ms
    parts.0

-- ---- open leaves

-- this leaf of the execution of this number
abbrev pub is_that : ℕ → Leaf → OpenLeaf → Bool
is_that a leaf o = nat_eq o.execution a && same_leaf o.leaf leaf

-- one of these is this leaf of the execution of this number
abbrev pub IsListed : ℕ → Leaf → List OpenLeaf → Type 0
IsListed n leaf leaves = list_any (is_that n leaf) leaves ≡ true

abbrev leaves_by : (o b n : Bool) → Row → Option Execution → List OpenLeaf → List OpenLeaf
leaves_by o b n row found leaves =
    if o then [] else if b then with_begun row found leaves else if n
    then without_ended row found leaves else leaves

begun_kept : (row : Row) (found : Option Execution) (n : ℕ) (leaf : Leaf) (leaves : List OpenLeaf)
    → IsListed n leaf leaves → IsListed n leaf (with_begun row found leaves)
begun_kept row None n leaf leaves h = h
begun_kept row (Some d) n leaf leaves h =
    any_kept (is_that n leaf) leaves (named_leaf row d ∷ []) h

-- the leaf is not this one
abbrev pub IsOther : ℕ → Leaf → OpenLeaf → Type 0
IsOther n leaf x = (nat_eq x.execution n && same_leaf x.leaf leaf) ≡ false

not_ended : (n : ℕ) (leaf : Leaf) (x : OpenLeaf) → IsOther n leaf x
    → (y : OpenLeaf) → is_that n leaf y ≡ true → not (same_open y x) ≡ true
not_ended n leaf x apart y is =
    ap not (false_from_ne_true (same_open y x) (λ yes.
    let that = and_parts (nat_eq y.execution n) (same_leaf y.leaf leaf) is in
    let ends = and_parts (nat_eq y.execution x.execution) (same_leaf y.leaf x.leaf) yes in
    let number : x.execution ≡ n =
    sym (eqb-true y.execution x.execution ends.0) ∙ eqb-true y.execution n that.0 in
    let one : x.leaf ≡ leaf =
    sym (same_leaf_true y.leaf x.leaf ends.1) ∙ same_leaf_true y.leaf leaf that.1 in
    let both = and_from (nat_eq x.execution n) (same_leaf x.leaf leaf)
    (eq-eqb x.execution n number)
    (subst (λ l. same_leaf l leaf ≡ true) (sym one) (same_leaf_refl leaf)) in
    let wrong : false ≡ true = sym apart ∙ both in
    grind (arith, wrong)))

-- it stays open where another one ends
pub other_stays : (n : ℕ) (leaf : Leaf) (x : OpenLeaf) (leaves : List OpenLeaf)
    → IsOther n leaf x → IsListed n leaf leaves → IsListed n leaf (without_leaf x leaves)
other_stays n leaf x leaves apart h =
    any_filter (is_that n leaf) (λ y. not (same_open y x)) (not_ended n leaf x apart) leaves h

ended_kept : (row : Row) (found : Option Execution) (n : ℕ) (leaf : Leaf) (leaves : List OpenLeaf)
    → ((d : Execution) → found ≡ Some d → IsOther n leaf (named_leaf row d))
    → IsListed n leaf leaves → IsListed n leaf (without_ended row found leaves)
ended_kept row None n leaf leaves other h = h
ended_kept row (Some d) n leaf leaves other h =
    other_stays n leaf (named_leaf row d) leaves (other d refl) h

kept_by : (b n : Bool) (row : Row) (found : Option Execution) (m : ℕ) (leaf : Leaf)
    (leaves : List OpenLeaf)
    → (b ≡ false → n ≡ true → (d : Execution) → found ≡ Some d
    → IsOther m leaf (named_leaf row d))
    → IsListed m leaf leaves → IsListed m leaf (leaves_by false b n row found leaves)
kept_by true n row found m leaf leaves other h = begun_kept row found m leaf leaves h
kept_by false true row found m leaf leaves other h =
    ended_kept row found m leaf leaves (other refl refl) h
kept_by false false row found m leaf leaves other h = h

begun_here : (row : Row) (x : Execution) (leaf : Leaf) (leaves : List OpenLeaf)
    → nat_eq row.a x.number ≡ true → same_leaf (leaf_of x row.b) leaf ≡ true
    → IsListed x.number leaf (leaves ++ named_leaf row x ∷ [])
begun_here row x leaf leaves number one =
    any_here (is_that x.number leaf) leaves (named_leaf row x)
    (and_from (nat_eq row.a x.number) (same_leaf (leaf_of x row.b) leaf) number one)

-- ---- behind a row

abbrev marks_by : (o r s b n ab wd : Bool) → Leaf → Ending → ℕ → List Mark → List Mark
marks_by o r s b n ab wd at ending node ms =
    ms ++ (if o then (if r then Lost ∷ [] else []) else if s
    then (if b then Begin at ∷ [] else if n then End at ending ∷ [] else if ab then Abort ∷ []
    else if wd then Withdraw node ∷ [] else []) else [])

abbrev Told : ℕ → List Mark → List OpenLeaf → Type 0
Told n ms leaves =
    (leaf : Leaf) → is_open ms leaf ≡ true → list_any is_lost ms ≡ false → IsListed n leaf leaves

told_nil : (n : ℕ) (ms : List Mark) (leaves : List OpenLeaf) → Told n ms leaves
    → Told n (ms ++ []) leaves
told_nil n ms leaves h = subst (λ xs. Told n xs leaves) (sym (append-nil ms)) h

not_lost : (ms : List Mark) (m : Mark) → is_lost m ≡ false
    → list_any is_lost (ms ++ m ∷ []) ≡ false → list_any is_lost ms ≡ false
not_lost ms m is h = sym (any_more is_lost ms m is) ∙ h

module _ (row : Row) (x : Execution) (leaves : List OpenLeaf)
    (runs : (leaf : Leaf) → is_open x.marks leaf ≡ true → list_any is_lost x.marks ≡ false
    → is_running x ≡ true) (before : Told x.number x.marks leaves) where
  begin_by : (t n : Bool) (leaf : Leaf) → same_leaf (leaf_of x row.b) leaf ≡ t
      → nat_eq row.a x.number ≡ true
      → is_open (x.marks ++ Begin (leaf_of x row.b) ∷ []) leaf ≡ true
      → list_any is_lost (x.marks ++ Begin (leaf_of x row.b) ∷ []) ≡ false
      → IsListed x.number leaf (leaves ++ named_leaf row x ∷ [])
  begin_by true n leaf one number h k = begun_here row x leaf leaves number one
  begin_by false n leaf one number h k =
      any_kept (is_that x.number leaf) leaves (named_leaf row x ∷ [])
      (before leaf (open_before x.marks (Begin (leaf_of x row.b)) leaf one h)
      (not_lost x.marks (Begin (leaf_of x row.b)) refl k))

  told_by : (o r s b n ab wd : Bool) (found : Option Execution) → is_running x ≡ r
      → nat_eq row.a x.number ≡ s → (s ≡ true → found ≡ Some x)
      → Told x.number (marks_by o r s b n ab wd (leaf_of x row.b) (ending_of row.c) row.b x.marks)
      (leaves_by o b n row found leaves)
  told_by true true s b n ab wd found is number there leaf h k =
      absurd (let wrong : false ≡ true =
      sym k ∙ any_here is_lost x.marks Lost refl in grind (arith, wrong))
  told_by true false s b n ab wd found is number there leaf h k =
      let one : is_open x.marks leaf ≡ true =
      subst (λ ms. is_open ms leaf ≡ true) (append-nil x.marks) h in
      let kept : list_any is_lost x.marks ≡ false =
      subst (λ ms. list_any is_lost ms ≡ false) (append-nil x.marks) k in
      absurd (let wrong : false ≡ true = sym is ∙ runs leaf one kept in grind (arith, wrong))
  told_by false r false b n ab wd found is number there leaf h k =
      told_nil x.number x.marks (leaves_by false b n row found leaves) (λ l i j.
      kept_by b n row found x.number l leaves
      (λ q s d f. ap (λ t. t && same_leaf (leaf_of d row.b) l) number) (before l i j)) leaf h k
  told_by false r true true n ab wd found is number there leaf h k =
      subst (λ f. IsListed x.number leaf (with_begun row f leaves)) (sym (there refl))
      (begin_by (same_leaf (leaf_of x row.b) leaf) n leaf refl number h k)
  told_by false r true false true ab wd found is number there leaf h k =
      subst (λ f. IsListed x.number leaf (without_ended row f leaves)) (sym (there refl))
      (other_stays x.number leaf (named_leaf row x) leaves
      (ap (λ t. nat_eq row.a x.number && t)
      (end_of_other x.marks (leaf_of x row.b) leaf (ending_of row.c) h)
      ∙ and-false (nat_eq row.a x.number))
      (before leaf (open_before x.marks (End (leaf_of x row.b) (ending_of row.c)) leaf refl h)
      (not_lost x.marks (End (leaf_of x row.b) (ending_of row.c)) refl k)))
  told_by false r true false false true wd found is number there leaf h k =
      before leaf (open_before x.marks Abort leaf refl h) (not_lost x.marks Abort refl k)
  told_by false r true false false false true found is number there leaf h k =
      before leaf (open_before x.marks (Withdraw row.b) leaf refl h)
      (not_lost x.marks (Withdraw row.b) refl k)
  told_by false r true false false false false found is number there leaf h k =
      told_nil x.number x.marks leaves before leaf h k

-- ---- all of them

abbrev pub AllListed : List Execution → List OpenLeaf → Type 0
AllListed es leaves =
    (k : ℕ) (e : Execution) → slice_get es k ≡ Some e → Told e.number e.marks leaves

runs_open : (x : Execution) (leaf : Leaf) → is_open x.marks leaf ≡ true
    → list_any is_lost x.marks ≡ false → is_running x ≡ true
runs_open x leaf h k = open_runs x.accepted.plan x.marks leaf h k

row_told : ExecutionsAreNumbered → (row : Row) (past : List Row)
    → AllListed (executions past) (open_leaves past)
    → (k : ℕ) (x : Execution) → slice_get (executions past) k ≡ Some x
    → Told x.number (marked (policies_before past) row x).marks (open_leaves (row ∷ past))
row_told law row past before k x get =
    told_by row x (open_leaves past) (runs_open x) (before k x get) (is_opened row) (is_running x)
    (nat_eq row.a x.number) (is_begin row) (is_end row) (is_abort row) (is_withdraw row)
    (execution_among row.a (executions past)) refl refl (λ number.
    ap (λ n. execution_among n (executions past)) (eqb-true row.a x.number number)
    ∙ found_at law past k x get)

listed_in : ExecutionsAreNumbered → (b : Bool) (past : List Row) (row : Row)
    (new : List Execution) → AreFresh new
    → is_accept row ≡ b → AllListed (executions past) (open_leaves past)
    → AllListed (if b then executions past ++ new
    else map (marked (policies_before past) row) (executions past)) (open_leaves (row ∷ past))
listed_in law true past row new fresh accept before k e get leaf h kept =
    elim (get_append (executions past) new k e get) [
      | inl old ↦ accept_told past row accept e.number leaf (before k e old leaf h kept)
      | inr here ↦ absurd (let wrong : false ≡ true =
          subst (λ ms. is_open ms leaf ≡ true) (fresh here.0 e here.1) h in grind (arith, wrong))
    ]
  where
    accept_told : (past : List Row) (row : Row) → is_accept row ≡ true → (n : ℕ) (leaf : Leaf)
        → IsListed n leaf (open_leaves past) → IsListed n leaf (open_leaves (row ∷ past))
    accept_told past row accept n leaf h =
        let kind : row.kind ≡ 5 = eqb-true row.kind 5 accept in
        subst (λ j. IsListed n leaf (open_leaves (record row { kind = j } ∷ past))) (sym kind) h
listed_in law false past row new fresh accept before k e get leaf h kept =
    let m = from_map_by (policies_before past) row (slice_get (executions past) k) e
    (sym (slice_get-map (marked (policies_before past) row) (executions past) k) ∙ get) in
    subst (λ (z : Execution). Told z.number z.marks (open_leaves (row ∷ past))) (sym m.2)
    (row_told law row past before k m.0 m.1) leaf h kept

pub all_listed : ExecutionsAreNumbered → (past : List Row)
    → AllListed (executions past) (open_leaves past)
all_listed law [] k e get = absurd (grind (arith, get))
all_listed law (row ∷ past) k e get =
    listed_in law (is_accept row) past row
    (asked (world_before past (executions past)) (length (executions past) + 1) (draw_of past) row
    (ask_of row.name row.body))
    (asked_fresh (world_before past (executions past)) (length (executions past) + 1)
    (draw_of past) row (ask_of row.name row.body)) refl (all_listed law past) k e get
