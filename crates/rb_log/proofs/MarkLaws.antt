-- The marks of each execution of a legal log are legal.
use Rattle.std.proofs.Common.{◌≡◌, ◌∙◌, ◌+◌, ℕ, zero, suc, ℤ, List, [], ◌∷◌, ◌++◌, length, map, find, Bool, true, false, not, nat_eq, Option, Some, None, option_map, Result, Ok, Err, slice_get, unwrap_or, codes, ap, sym, subst, refl, arith, append-nil, if◌then◌else◌, inl, inr}
use Rattle.std.specs.List.{list_any}
use Rattle.std.proofs.lemmas.Bool.{eqb-true, and_parts, not-true, and_from}
use Rattle.std.proofs.lemmas.Option.{slice_get-map}
use Rattle.rb_causes.specs.declared.row.Row.{Row}
use Rattle.rb_causes.specs.declared.ending.Ending.{Ending}
use Rattle.rb_causes.proofs.Lists.{get_append, find_gives}
use Rattle.rb_acl.specs.declared.policy.Caller.{Caller}
use Rattle.rb_acl.specs.declared.policy.Policies.{Policies}
use Rattle.rb_marks.specs.Results.{same_leaf}
use Rattle.rb_marks.specs.Units.{Outline, is_settled}
use Rattle.rb_marks.specs.First.{status_of, stops, is_open, IsLegal, MayFollow}
use Rattle.rb_marks.specs.declared.mark.Leaf.{Leaf}
use Rattle.rb_marks.specs.declared.mark.Mark.{Mark}
use Rattle.rb_marks.specs.declared.mark.Mark.TheVariants.{Begin, End, Abort, Lost, Withdraw}
use Rattle.rb_marks.specs.declared.mark.Status.{Status}
use Rattle.rb_marks.specs.declared.mark.Status.TheVariants as status
use Rattle.rb_marks.proofs.Growing.{same_leaf_true}
use Rattle.rb_marks.proofs.Legal.{legal_more}
use Rattle.rb_plan.specs.Acceptance.{Acceptance}
use Rattle.rb_plan.specs.Verdict.{verdict_of}
use Rattle.rb_plan.specs.declared.refusal.Refusal.{Refusal}
use Rattle.rb_plan.specs.declared.world.World.{World}
use Rattle.rb_log.specs.Rows.{is_accept, is_opened, is_begin, is_end, is_abort, is_withdraw, row_caller, ending_of}
use Rattle.rb_log.specs.Asks.{DueAsk, ask_of}
use Rattle.rb_log.specs.Executions.{Execution, leaf_of, executions, execution_among, marked, is_running, is_running_status, asked, started_if, started, world_before, draw_of}
use Rattle.rb_log.specs.Sums.{open_leaves}
use Rattle.rb_log.specs.LogState.{log_state, execution_at}
use Rattle.rb_log.specs.Moves.{must}
use Rattle.rb_log.specs.Runs.{known, known_by, may_act_on, abort}
use Rattle.rb_log.specs.Legal.{IsAdded, IsLegalLog, open_leaf, report_named}
use Rattle.rb_log.specs.Laws.{SlotsAreBounded, PlansAreSound, MarksAreLegal, OpenIsOpen}
use Rattle.rb_log.specs.declared.answer.Answer.{Answer}
use Rattle.rb_log.specs.declared.answer.Answer.TheVariants as answer
use Rattle.rb_log.specs.declared.task.OpenLeaf.{OpenLeaf}
use Rattle.rb_log.proofs.TurnLaws.{bind_row}
use Rattle.rb_log.proofs.EndLaws.{kind_is, named_by, call_by, added, begin_first, withdraw_first, found_at, is_that, policies_before}
use Rattle.rb_log.proofs.OpenLaws.{Open, all_open}

-- ---- lists

pub from_map_by : (p : Policies) (row : Row) (o : Option Execution) (e : Execution)
    → option_map (marked p row) o ≡ Some e
    → (x : Execution) × (o ≡ Some x) × (e ≡ marked p row x)
from_map_by p row None e h = absurd (grind (arith, h))
from_map_by p row (Some x) e h = (x, refl, sym (ap (λ o. unwrap_or o e) h))

-- ---- executions as they begin have no marks

abbrev AreUnmarked : List Execution → Type 0
AreUnmarked es = (j : ℕ) (e : Execution) → slice_get es j ≡ Some e → e.marks ≡ []

none_marked : AreUnmarked []
none_marked j e h = absurd (grind (arith, h))

one_unmarked : (x : Execution) → x.marks ≡ [] → AreUnmarked (x ∷ [])
one_unmarked x is zero e h = ap (λ o. (unwrap_or o x).marks) (sym h) ∙ is
one_unmarked x is (suc j) e h = absurd (grind (arith, h))

started_unmarked : (world : World) (n : ℕ) (at : ℤ) (caller : Caller)
    (r : Result Acceptance Refusal) → AreUnmarked (started_if world n at caller r)
started_unmarked world n at caller (Ok accepted) =
    one_unmarked (started world n at caller accepted) refl
started_unmarked world n at caller (Err refusal) = none_marked

asked_unmarked : (world : World) (n draw : ℕ) (row : Row) (ask : Option DueAsk)
    → AreUnmarked (asked world n draw row ask)
asked_unmarked world n draw row None = none_marked
asked_unmarked world n draw row (Some ask) =
    started_unmarked world n row.at (row_caller row)
    (verdict_of world (row_caller row) ask.0 (draw + n))

-- ---- one more mark

pub running_is : (s : Status) → is_running_status s ≡ true → s ≡ status.Running
running_is status.Running h = refl
running_is status.Succeeded h = absurd (grind (arith, h))
running_is status.Failed h = absurd (grind (arith, h))
running_is status.Aborted h = absurd (grind (arith, h))
running_is status.Incomplete h = absurd (grind (arith, h))

pub must_ok : (b : Bool) (a : Answer) (x : Bool) → must b a ≡ Ok x → b ≡ true
must_ok true a x h = refl
must_ok false a x h = absurd (grind (arith, h))

pub known_ok : (o : Option Execution) (e : Execution) → known_by o ≡ Ok e → o ≡ Some e
known_ok None e h = absurd (grind (arith, h))
known_ok (Some x) e h = ap (λ r. Some (ok_or_else x r)) h
  where
    ok_or_else : Execution → Result Execution Answer → Execution
    ok_or_else x (Ok y) = y
    ok_or_else x (Err a) = x

legal_nil : (p : Outline) (ms : List Mark) → IsLegal p ms → IsLegal p (ms ++ [])
legal_nil p ms h = subst (IsLegal p) (sym (append-nil ms)) h

legal_by : (o r s b n ab w : Bool) (p : Outline) (at : Leaf) (ending : Ending) (node : ℕ)
    (hs : List Mark)
    → IsLegal p hs
    → (o ≡ true → r ≡ true → MayFollow p hs Lost)
    → (s ≡ true → b ≡ true → MayFollow p hs (Begin at))
    → (s ≡ true → n ≡ true → MayFollow p hs (End at ending))
    → (s ≡ true → ab ≡ true → MayFollow p hs Abort)
    → (s ≡ true → w ≡ true → MayFollow p hs (Withdraw node))
    → IsLegal p (hs ++ (if o then (if r then Lost ∷ [] else []) else if s
    then (if b then Begin at ∷ [] else if n then End at ending ∷ [] else if ab then Abort ∷ []
    else if w then Withdraw node ∷ [] else []) else []))
legal_by true true s b n ab w p at ending node hs h lost begin end abort withdraw =
    legal_more p hs Lost h (lost refl refl)
legal_by true false s b n ab w p at ending node hs h lost begin end abort withdraw =
    legal_nil p hs h
legal_by false r false b n ab w p at ending node hs h lost begin end abort withdraw =
    legal_nil p hs h
legal_by false r true true n ab w p at ending node hs h lost begin end abort withdraw =
    legal_more p hs (Begin at) h (begin refl refl)
legal_by false r true false true ab w p at ending node hs h lost begin end abort withdraw =
    legal_more p hs (End at ending) h (end refl refl)
legal_by false r true false false true w p at ending node hs h lost begin end abort withdraw =
    legal_more p hs Abort h (abort refl refl)
legal_by false r true false false false true p at ending node hs h lost begin end abort withdraw =
    legal_more p hs (Withdraw node) h (withdraw refl refl)
legal_by false r true false false false false p at ending node hs h lost begin end abort withdraw =
    legal_nil p hs h

-- an open leaf is open, as marks say it
pub open_is : (hs : List Mark) (leaf : Leaf) → Open hs leaf → is_open hs leaf ≡ true
open_is hs leaf h = and_from _ _ h.begun (ap (λ r. not (is_settled r)) h.undone)

module _ (slots : SlotsAreBounded) (plans : PlansAreSound) (past : List Row) (row : Row)
    (legal : IsLegalLog (row ∷ past)) (x : Execution)
    (there : execution_among x.number (executions past) ≡ Some x) where
  at_row : nat_eq row.a x.number ≡ true → execution_among row.a (executions past) ≡ Some x
  at_row same = ap (λ n. execution_among n (executions past)) (eqb-true row.a x.number same) ∙ there

  end_by : nat_eq row.a x.number ≡ true → (found : Option OpenLeaf)
      → find (is_that row.a (leaf_of x row.b)) (open_leaves past) ≡ found
      → IsAdded (log_state past) row (report_named row found) → Open x.marks (leaf_of x row.b)
  end_by same None is h = absurd h
  end_by same (Some o) is h =
      let g = find_gives (is_that row.a (leaf_of x row.b)) (open_leaves past) o is in
      let parts = and_parts (nat_eq o.execution row.a) (same_leaf o.leaf (leaf_of x row.b)) g.2 in
      let old = all_open slots plans past legal.0 g.0 o g.1 in
      let is_x : old.execution ≡ x =
      ap (λ z. unwrap_or z x) (sym old.there
      ∙ ap (λ n. execution_among n (executions past)) (eqb-true o.execution row.a parts.0)
      ∙ at_row same) in
      subst (λ l. Open x.marks l) (same_leaf_true o.leaf (leaf_of x row.b) parts.1)
      (subst (λ (z : Execution). Open z.marks o.leaf) is_x old.is)

  pub end_follows : nat_eq row.a x.number ≡ true → is_end row ≡ true
      → MayFollow x.accepted.plan x.marks (End (leaf_of x row.b) (ending_of row.c))
  end_follows same is =
      let kind : row.kind ≡ 9 = kind_is row 9 is in
      let adds : IsAdded (log_state past) row (call_by (log_state past) row 9) =
      subst (IsAdded (log_state past) row) (named_by (log_state past) row 9 kind)
      (added past row 7 legal kind) in
      let named : IsAdded (log_state past) row
      (report_named row (open_leaf (open_leaves past) row.a row.b (Some x))) =
      subst (λ o. IsAdded (log_state past) row
      (report_named row (open_leaf (open_leaves past) row.a row.b o))) (at_row same) adds in
      let here = end_by same (find (is_that row.a (leaf_of x row.b)) (open_leaves past)) refl
      named in
      (open_is x.marks (leaf_of x row.b) here, here.kept)

  pub begin_follows : nat_eq row.a x.number ≡ true → is_begin row ≡ true
      → MayFollow x.accepted.plan x.marks (Begin (leaf_of x row.b))
  begin_follows same is = begin_first slots plans past row legal is x (at_row same)

  pub abort_follows : nat_eq row.a x.number ≡ true → is_abort row ≡ true
      → MayFollow x.accepted.plan x.marks Abort
  abort_follows same is =
      let kind : row.kind ≡ 7 = kind_is row 7 is in
      let adds : IsAdded (log_state past) row (call_by (log_state past) row 7) =
      subst (IsAdded (log_state past) row) (named_by (log_state past) row 7 kind)
      (added past row 5 legal kind) in
      let a = bind_row (known (log_state past) row.a) _ row adds.added in
      let b = bind_row (may_act_on (log_state past) (row_caller row) (codes "kill") a.0) _ row
      a.2 in
      let c = bind_row (must (is_running a.0) answer.Ended) _ row b.2 in
      let d = bind_row (must (not (list_any stops a.0.marks)) answer.Aborting) _ row c.2 in
      let is_x : a.0 ≡ x = ap (λ o. unwrap_or o x)
      (sym (known_ok (execution_at (log_state past) row.a) a.0 a.1) ∙ at_row same) in (
        subst (λ (z : Execution). status_of z.accepted.plan z.marks ≡ status.Running) is_x
            (running_is (status_of a.0.accepted.plan a.0.marks)
            (must_ok (is_running a.0) answer.Ended c.0 c.1)),
        subst (λ (z : Execution). list_any stops z.marks ≡ false) is_x
            (not-true (list_any stops a.0.marks)
            (must_ok (not (list_any stops a.0.marks)) answer.Aborting d.0 d.1)),
      )

  pub withdraw_follows : nat_eq row.a x.number ≡ true → is_withdraw row ≡ true
      → MayFollow x.accepted.plan x.marks (Withdraw row.b)
  withdraw_follows same is = withdraw_first past row legal is x (at_row same)

  marked_legal : (p : Policies) → IsLegal x.accepted.plan x.marks
      → IsLegal x.accepted.plan (marked p row x).marks
  marked_legal p h =
      legal_by (is_opened row) (is_running x) (nat_eq row.a x.number) (is_begin row) (is_end row)
      (is_abort row) (is_withdraw row) x.accepted.plan (leaf_of x row.b) (ending_of row.c) row.b
      x.marks h (λ o r. running_is (status_of x.accepted.plan x.marks) r) begin_follows end_follows
      abort_follows withdraw_follows

abbrev AllLegal : List Execution → Type 0
AllLegal es = (k : ℕ) (e : Execution) → slice_get es k ≡ Some e → IsLegal e.accepted.plan e.marks

legal_in : SlotsAreBounded → PlansAreSound → (past : List Row) (row : Row) → IsLegalLog (row ∷ past)
    → AllLegal (executions past) → (b : Bool) (new : List Execution) → AreUnmarked new
    → AllLegal (if b then executions past ++ new
    else map (marked (policies_before past) row) (executions past))
legal_in slots plans past row legal before true new fresh k e get =
    elim (get_append (executions past) new k e get) [
      | inl old ↦ before k e old
      | inr here ↦ subst (λ ms. IsLegal e.accepted.plan ms) (sym (fresh here.0 e here.1)) tt
    ]
legal_in slots plans past row legal before false new fresh k e get =
    let p = policies_before past in
    let m = from_map_by p row (slice_get (executions past) k) e
    (sym (slice_get-map (marked p row) (executions past) k) ∙ get) in
    subst (λ (z : Execution). IsLegal z.accepted.plan z.marks) (sym m.2)
    (marked_legal slots plans past row legal m.0 (found_at past k m.0 m.1) p (before k m.0 m.1))

pub all_legal : SlotsAreBounded → PlansAreSound → (past : List Row) → IsLegalLog past
    → AllLegal (executions past)
all_legal slots plans [] h k e get = absurd (grind (arith, get))
all_legal slots plans (row ∷ past) h k e get =
    legal_in slots plans past row h (all_legal slots plans past h.0) (is_accept row)
    (asked (world_before past (executions past)) (length (executions past) + 1) (draw_of past) row
    (ask_of row.name row.body))
    (asked_unmarked (world_before past (executions past)) (length (executions past) + 1)
    (draw_of past) row (ask_of row.name row.body)) k e get

pub marks_are_legal : SlotsAreBounded → PlansAreSound → MarksAreLegal
marks_are_legal slots plans past k e h get = all_legal slots plans past h k e get

pub open_is_open : SlotsAreBounded → PlansAreSound → OpenIsOpen
open_is_open slots plans past k o h get =
    let at = all_open slots plans past h k o get in record {
      execution = at.execution;
      found = at.there;
      stays_open = open_is at.execution.marks o.leaf at.is;
      kept = at.is.kept;
    }
