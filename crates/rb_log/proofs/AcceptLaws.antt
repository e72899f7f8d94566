-- An execution is the verdict at its Accept row.
use Rattle.std.proofs.Common.{◌≡◌, ◌∙◌, inl, inr, ◌⊎◌, ℕ, ◌+◌, zero, suc, ℤ, List, [], ◌∷◌, ◌++◌, length, map, Bool, true, false, Option, Some, None, Result, Ok, Err, slice_get, unwrap_or, ap, sym, subst, refl, arith, if◌then◌else◌}
use Rattle.std.proofs.lemmas.Option.{slice_get-map}
use Rattle.std.proofs.lemmas.List.{length-append, length-map}
use Rattle.rb_causes.specs.declared.row.Row.{Row}
use Rattle.rb_acl.specs.declared.policy.Caller.{Caller}
use Rattle.rb_marks.specs.declared.mark.Mark.{Mark}
use Rattle.rb_plan.specs.Acceptance.{Acceptance}
use Rattle.rb_plan.specs.declared.refusal.Refusal.{Refusal}
use Rattle.rb_plan.specs.declared.world.RunAsk.{RunAsk}
use Rattle.rb_log.specs.Rows.{is_accept, row_caller}
use Rattle.rb_log.specs.Asks.{DueAsk, ask_of}
use Rattle.rb_log.specs.Executions.{Execution, WithdrawnNode, executions, marked, asked, started_if, started, world_before, draw_of}
use Rattle.rb_log.specs.LogState.{LogState, log_state, world_of, moment}
use Rattle.rb_log.specs.Legal.{IsAdded, IsLegalLog, run_named}
use Rattle.rb_log.specs.Runs.{verdict_at, run_by}
use Rattle.rb_log.specs.Laws.{IsBegunBy, ExecutionsAreVerdicts, AcceptsBegin}
use Rattle.rb_log.proofs.EndLaws.{kind_is, named_by, added, policies_before}
use Rattle.rb_log.proofs.MarkLaws.{from_map_by}
use Rattle.rb_log.proofs.TickRows.{due_accepted}

-- it was begun by a row of these
abbrev IsBegun : List Row → ℕ → Execution → Type 0
IsBegun past k e =
    (row : Row) × (older : List Row) × (ask : DueAsk) × IsBegunBy past k e row older ask

-- and so by a row of more of them, however it is marked since
later : (past : List Row) (k : ℕ) (e : Execution) (row : Row) (withdrawn : List WithdrawnNode)
    (marks : List Mark) → IsBegun past k e
    → IsBegun (row ∷ past) k (record e { withdrawn = withdrawn; marks = marks })
later past k e row withdrawn marks h =
    let b = h.3 in (
      h.0,
      h.1,
      h.2,
      record {
        newer = row ∷ b.newer;
        log = ap (λ rows. row ∷ rows) b.log;
        accept = b.accept;
        asked = b.asked;
        caller = b.caller;
        at = b.at;
        place = b.place;
        policies = b.policies;
        dropped = b.dropped;
        verdict = b.verdict;
      },
    )

-- ---- where it stands in two lists

-- in the first, or at this place of the second
abbrev Stands : {A : Type 0} → List A → List A → ℕ → A → Type 0
Stands xs ys k x =
    (slice_get xs k ≡ Some x) ⊎ ((j : ℕ) × (slice_get ys j ≡ Some x) × (k ≡ j + length xs))

one_on : {A : Type 0} (z : A) (xs ys : List A) (k : ℕ) (x : A) → Stands xs ys k x
    → Stands (z ∷ xs) ys (suc k) x
one_on z xs ys k x (inl h) = inl h
one_on z xs ys k x (inr h) = inr (h.0, h.1, let q = h.2 in omega (arith, q))

stands : {A : Type 0} (xs ys : List A) (k : ℕ) (x : A) → slice_get (xs ++ ys) k ≡ Some x
    → Stands xs ys k x
stands [] ys k x h = inr (k, h, omega arith)
stands (z ∷ xs) ys zero x h = inl h
stands (z ∷ xs) ys (suc k) x h = one_on z xs ys k x (stands xs ys k x h)

-- ---- as it begins

begun : (past : List Row) (row : Row) (ask : DueAsk) (accepted : Acceptance) (j k : ℕ)
    (e : Execution) → is_accept row ≡ true → ask_of row.name row.body ≡ Some ask
    → verdict_at (log_state past) (row_caller row) ask.0 ≡ Ok accepted
    → slice_get (started (world_of (log_state past)) (length (executions past) + 1) row.at
    (row_caller row) accepted ∷ []) j ≡ Some e
    → k ≡ j + length (executions past) → IsBegun (row ∷ past) k e
begun past row ask accepted zero k e is asks verdict h place =
    subst (λ o. IsBegun (row ∷ past) k (unwrap_or o (started (world_of (log_state past))
    (length (executions past) + 1) row.at (row_caller row) accepted))) h (
      row,
      past,
      ask,
      record {
        newer = [];
        log = refl;
        accept = is;
        asked = asks;
        caller = refl;
        at = refl;
        place = omega (arith, place);
        policies = refl;
        dropped = refl;
        verdict = verdict;
      },
    )
begun past row ask accepted (suc j) k e is asks verdict h place = absurd (grind (arith, h))

begun_if : (past : List Row) (row : Row) (ask : DueAsk) (r : Result Acceptance Refusal) (j k : ℕ)
    (e : Execution) → is_accept row ≡ true → ask_of row.name row.body ≡ Some ask
    → verdict_at (log_state past) (row_caller row) ask.0 ≡ r
    → slice_get (started_if (world_of (log_state past)) (length (executions past) + 1) row.at
    (row_caller row) r) j ≡ Some e
    → k ≡ j + length (executions past) → IsBegun (row ∷ past) k e
begun_if past row ask (Ok accepted) j k e is asks verdict h place =
    begun past row ask accepted j k e is asks verdict h place
begun_if past row ask (Err refusal) j k e is asks verdict h place = absurd (grind (arith, h))

begun_by : (past : List Row) (row : Row) (o : Option DueAsk) (j k : ℕ) (e : Execution)
    → is_accept row ≡ true → ask_of row.name row.body ≡ o
    → slice_get (asked (world_before past (executions past)) (length (executions past) + 1)
    (draw_of past) row o) j ≡ Some e
    → k ≡ j + length (executions past) → IsBegun (row ∷ past) k e
begun_by past row None j k e is asks h place = absurd (grind (arith, h))
begun_by past row (Some ask) j k e is asks h place =
    begun_if past row ask (verdict_at (log_state past) (row_caller row) ask.0) j k e is asks refl h
    place

-- ---- all executions

abbrev AllBegun : List Row → Type 0
AllBegun past =
    (k : ℕ) (e : Execution) → slice_get (executions past) k ≡ Some e → IsBegun past k e

begun_in : (past : List Row) (row : Row) (b : Bool) (k : ℕ) (e : Execution) → AllBegun past
    → is_accept row ≡ b
    → slice_get (if b then executions past
    ++ asked (world_before past (executions past)) (length (executions past) + 1) (draw_of past)
    row (ask_of row.name row.body)
    else map (marked (policies_before past) row) (executions past)) k ≡ Some e
    → IsBegun (row ∷ past) k e
begun_in past row true k e h is get = elim (stands (executions past) _ k e get) [
  | inl old ↦ later past k e row e.withdrawn e.marks (h k e old)
  | inr new ↦ begun_by past row (ask_of row.name row.body) new.0 k e is refl new.1 new.2
]
begun_in past row false k e h is get =
    let p = policies_before past in
    let m = from_map_by p row (slice_get (executions past) k) e
    (sym (slice_get-map (marked p row) (executions past) k) ∙ get) in
    subst (λ z. IsBegun (row ∷ past) k z) (sym m.2)
    (later past k m.0 row (marked p row m.0).withdrawn (marked p row m.0).marks (h k m.0 m.1))

pub executions_are_verdicts : ExecutionsAreVerdicts
executions_are_verdicts [] k e h = absurd (grind (arith, h))
executions_are_verdicts (row ∷ past) k e h =
    begun_in past row (is_accept row) k e (executions_are_verdicts past) refl h

-- ---- each Accept row begins one

one_by : (past : List Row) (row : Row) (now : ℤ) (caller : Caller) (ask : RunAsk) (number : ℕ)
    (r : Result Acceptance Refusal) → (run_by (log_state past) now caller ask r).row ≡ Some row
    → length (started_if (world_of (log_state past)) number row.at caller r) ≡ 1
one_by past row now caller ask number (Ok accepted) h = refl
one_by past row now caller ask number (Err refusal) h = absurd (grind (arith, h))

-- what a due Accept begins: the verdict that the tick was given
one_due : (past : List Row) (row : Row) (ask : RunAsk) (due : ℕ) → IsLegalLog (row ∷ past)
    → is_accept row ≡ true → ask_of row.name row.body ≡ Some (ask, Some due)
    → length (started_if (world_of (log_state past)) (length (executions past) + 1) row.at
    (row_caller row) (verdict_at (log_state past) (row_caller row) ask)) ≡ 1
one_due past row ask due h is asks =
    let a = due_accepted row past ask due h is asks in
    ap (λ v. length (started_if (world_of (log_state past)) (length (executions past) + 1) row.at
    (row_caller row) v)) a.1

one_asked : (past : List Row) (row : Row) (o : Option DueAsk) → IsLegalLog (row ∷ past)
    → is_accept row ≡ true → ask_of row.name row.body ≡ o
    → IsAdded (log_state past) row (run_named row o)
    → length (asked (world_before past (executions past)) (length (executions past) + 1)
    (draw_of past) row o) ≡ 1
one_asked past row None h is asks adds = absurd adds
one_asked past row (Some (ask, None)) h is asks adds =
    one_by past row (moment (log_state past) row.at) (row_caller row) ask
    (length (executions past) + 1) (verdict_at (log_state past) (row_caller row) ask) adds.added
one_asked past row (Some (ask, Some due)) h is asks adds = one_due past row ask due h is asks

begins_by : (past : List Row) (row : Row) (b : Bool) → is_accept row ≡ b
    → IsLegalLog (row ∷ past)
    → length (if b then executions past
    ++ asked (world_before past (executions past)) (length (executions past) + 1) (draw_of past)
    row (ask_of row.name row.body)
    else map (marked (policies_before past) row) (executions past))
    ≡ length (executions past) + (if b then 1 else 0)
begins_by past row true is h =
    let s : LogState = log_state past in
    let kind : row.kind ≡ 5 = kind_is row 5 is in
    let adds : IsAdded s row (run_named row (ask_of row.name row.body)) =
    subst (IsAdded s row) (named_by s row 5 kind) (added past row 3 h kind) in
    length-append (executions past) _
    ∙ ap (λ n. length (executions past) + n)
    (one_asked past row (ask_of row.name row.body) h is refl adds)
begins_by past row false is h =
    let same = length-map (executions past) (marked (policies_before past) row) in
    omega (arith, same)

pub accepts_begin : AcceptsBegin
accepts_begin row past h = begins_by past row (is_accept row) refl h
