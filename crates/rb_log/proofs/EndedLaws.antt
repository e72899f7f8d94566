-- An execution that does not run any more stays as it is, and no leaf of it begins again.
use Rattle.std.proofs.Common.{◌≡◌, ◌∙◌, ◌≤◌, ◌<◌, ◌+◌, ◌⊎◌, inl, inr, ℕ, zero, suc, List, [], ◌∷◌, ◌++◌, length, map, Bool, true, false, ◌&&◌, nat_eq, Option, Some, None, slice_get, unwrap_or, ap, sym, subst, refl, arith, if◌then◌else◌}
use Rattle.std.specs.List.{list_any}
use Rattle.std.proofs.lemmas.Bool.{false≢true, or_right}
use Rattle.std.proofs.lemmas.Option.{slice_get_within}
use Rattle.rb_causes.specs.declared.row.Row.{Row}
use Rattle.rb_causes.specs.declared.ending.Ending.{Ending}
use Rattle.rb_causes.proofs.Lists.{from_filter, filter_passes}
use Rattle.rb_acl.specs.declared.policy.Policies.{Policies}
use Rattle.rb_marks.specs.Units.{Outline}
use Rattle.rb_marks.specs.First.{first_startable, is_lost, open_begin, stops, status_of}
use Rattle.rb_marks.specs.declared.mark.Leaf.{Leaf}
use Rattle.rb_marks.specs.declared.mark.Mark.{Mark}
use Rattle.rb_marks.specs.declared.mark.Mark.TheVariants.{Begin, End, Abort, Lost, Withdraw}
use Rattle.rb_marks.specs.declared.mark.Status.{Status}
use Rattle.rb_marks.specs.declared.mark.Status.TheVariants as status
use Rattle.rb_marks.proofs.Counts.{none_narrower}
use Rattle.rb_marks.proofs.Waits.{first_goes_on}
use Rattle.rb_log.specs.Rows.{is_accept, is_opened, is_begin, is_end, is_abort, is_withdraw, ending_of}
use Rattle.rb_log.specs.Asks.{ask_of}
use Rattle.rb_log.specs.Executions.{Execution, WithdrawnNode, leaf_of, executions, execution_among, marked, marks_of, withdrawn_by, is_running, is_running_status, asked, world_before, draw_of}
use Rattle.rb_log.specs.LogState.{log_state, moment}
use Rattle.rb_log.specs.Legal.{IsAdded, IsLegalLog}
use Rattle.rb_log.specs.Laws.{SlotsAreBounded, PlansAreSound}
use Rattle.rb_log.specs.Restarts.{reopened, LostStays, NoneStartsAgain}
use Rattle.rb_log.proofs.ClaimLaws.{beginnings_are_legal}
use Rattle.rb_log.proofs.EndLaws.{added, call_by, claim_begins, found_at, kind_is, named_by, policies_before}
use Rattle.rb_log.proofs.ExecutionLaws.{executions_are_numbered, get_map}
use Rattle.rb_log.proofs.MarkCounts.{lost_stops, would_by}
use Rattle.rb_log.proofs.MarkLaws.{begin_follows, end_follows, abort_follows, withdraw_follows}
use Rattle.rb_log.proofs.ProgramLaws.{get_stays}
use Rattle.rb_log.proofs.RestartLaws.{opening_loses, reopened_ended}
use Rattle.rb_log.proofs.RoomLaws.{no_marks, open_runs, status_runs}

-- ---- where a leaf may start, the run runs

first_runs : (p : Outline) (ms : List Mark) (leaf : Leaf) → first_startable p ms ≡ Some leaf
    → is_running_status (status_of p ms) ≡ true
first_runs p ms leaf h =
    status_runs (list_any is_lost ms) _ _
    (none_narrower is_lost stops lost_stops ms (first_goes_on p ms leaf h))
    (or_right (list_any (open_begin ms) ms) _ (ap is_there h))
  where
    is_there : Option Leaf → Bool
    is_there None = false
    is_there (Some l) = true

-- ---- no mark

unmarked_by : (o r s b n ab w : Bool) (at : Leaf) (ending : Ending) (node : ℕ) → r ≡ false
    → (s ≡ true → b ≡ true → ⊥) → (s ≡ true → n ≡ true → ⊥) → (s ≡ true → ab ≡ true → ⊥)
    → (s ≡ true → w ≡ true → ⊥)
    → (if o then (if r then Lost ∷ [] else []) else if s
    then (if b then Begin at ∷ [] else if n then End at ending ∷ [] else if ab then Abort ∷ []
    else if w then Withdraw node ∷ [] else []) else []) ≡ []
unmarked_by true true s b n ab w at ending node h begin end abort withdraw =
    absurd (false≢true (sym h))
unmarked_by true false s b n ab w at ending node h begin end abort withdraw = refl
unmarked_by false r false b n ab w at ending node h begin end abort withdraw = refl
unmarked_by false r true true n ab w at ending node h begin end abort withdraw =
    absurd (begin refl refl)
unmarked_by false r true false true ab w at ending node h begin end abort withdraw =
    absurd (end refl refl)
unmarked_by false r true false false true w at ending node h begin end abort withdraw =
    absurd (abort refl refl)
unmarked_by false r true false false false true at ending node h begin end abort withdraw =
    absurd (withdraw refl refl)
unmarked_by false r true false false false false at ending node h begin end abort withdraw = refl

unwithdrawn_by : (w s : Bool) (gone : List WithdrawnNode) → (s ≡ true → w ≡ true → ⊥)
    → (if w && s then gone else []) ≡ []
unwithdrawn_by true true gone h = absurd (h refl refl)
unwithdrawn_by true false gone h = refl
unwithdrawn_by false s gone h = refl

module _ (slots : SlotsAreBounded) (plans : PlansAreSound) (past : List Row) (row : Row)
    (legal : IsLegalLog (row ∷ past)) (k : ℕ) (x : Execution)
    (get : slice_get (executions past) k ≡ Some x) (ended : is_running x ≡ false) where
  there : execution_among x.number (executions past) ≡ Some x
  there = found_at past k x get

  still : is_running_status (status_of x.accepted.plan x.marks) ≡ true → ⊥
  still runs = false≢true (sym ended ∙ runs)

  no_begin : nat_eq row.a x.number ≡ true → is_begin row ≡ true → ⊥
  no_begin same is =
      still (first_runs x.accepted.plan x.marks (leaf_of x row.b)
      (begin_follows slots plans past row legal x there same is))

  no_end : nat_eq row.a x.number ≡ true → is_end row ≡ true → ⊥
  no_end same is =
      let f = end_follows slots plans past row legal x there same is in
      still (open_runs x.accepted.plan x.marks (leaf_of x row.b) f.0 f.1)

  no_abort : nat_eq row.a x.number ≡ true → is_abort row ≡ true → ⊥
  no_abort same is =
      let f = abort_follows slots plans past row legal x there same is in
      still (ap is_running_status f.0)

  no_withdraw : nat_eq row.a x.number ≡ true → is_withdraw row ≡ true → ⊥
  no_withdraw same is =
      let f = withdraw_follows slots plans past row legal x there same is in
      let w = would_by x.accepted.plan x.marks row.b (first_startable x.accepted.plan x.marks) refl
      f in
      still (first_runs x.accepted.plan x.marks w.leaf w.first)

  no_mark : marks_of row x ≡ []
  no_mark =
      unmarked_by (is_opened row) (is_running x) (nat_eq row.a x.number) (is_begin row) (is_end row)
      (is_abort row) (is_withdraw row) (leaf_of x row.b) (ending_of row.c) row.b ended no_begin
      no_end no_abort no_withdraw

  none_withdrawn : (p : Policies) → withdrawn_by p row x ≡ []
  none_withdrawn p =
      unwithdrawn_by (is_withdraw row) (nat_eq row.a x.number) _ no_withdraw

  unmoved : (b : Bool) (new : List Execution)
      → slice_get (if b then executions past ++ new
      else map (marked (policies_before past) row) (executions past)) k ≡ Some x
  unmoved true new =
      get_stays (executions past) new k (slice_get_within (executions past) k x get) ∙ get
  unmoved false new =
      let p = policies_before past in
      get_map (marked p row) (executions past) k x get
      ∙ ap Some (no_marks p x row no_mark (none_withdrawn p))

  pub stays_ended : slice_get (executions (row ∷ past)) k ≡ Some x
  stays_ended =
      unmoved (is_accept row)
      (asked (world_before past (executions past)) (length (executions past) + 1) (draw_of past) row
      (ask_of row.name row.body))

-- behind more rows too
pub ended_stays : SlotsAreBounded → PlansAreSound → (newer past : List Row) (k : ℕ) (e : Execution)
    → IsLegalLog (newer ++ past) → slice_get (executions past) k ≡ Some e
    → is_running e ≡ false → slice_get (executions (newer ++ past)) k ≡ Some e
ended_stays slots plans [] past k e legal get ended = get
ended_stays slots plans (row ∷ newer) past k e legal get ended =
    stays_ended slots plans (newer ++ past) row legal k e
    (ended_stays slots plans newer past k e legal.0 get ended) ended

-- ---- one that is lost

lost_ends : (lost : Bool) (other : Status) → lost ≡ true
    → is_running_status (if lost then status.Incomplete else other) ≡ false
lost_ends true other h = refl
lost_ends false other h = absurd (false≢true h)

pub lost_stays : SlotsAreBounded → PlansAreSound → LostStays
lost_stays slots plans newer past k e legal get lost =
    ended_stays slots plans newer past k e legal get
    (lost_ends (list_any is_lost e.marks) _ lost)

-- ---- behind an opening

some_at : {A : Type 0} (xs : List A) (k : ℕ) → k < length xs → (x : A) × (slice_get xs k ≡ Some x)
some_at [] k h = absurd (omega (arith, h))
some_at (x ∷ xs) zero h = (x, refl)
some_at (x ∷ xs) (suc k) h = some_at xs k (omega (arith, h))

one_of : (o : Option Execution) (x y : Execution) → o ≡ Some x → o ≡ Some y → x ≡ y
one_of o x y h k = ap (λ p. unwrap_or p x) (sym h ∙ k)

runs_not : (x y : Execution) → is_running x ≡ false → x ≡ y → is_running y ≡ true → ⊥
runs_not x y h same runs = false≢true (sym h ∙ ap is_running same ∙ runs)

low_or_not : (k n : ℕ) → (k < n) ⊎ (n ≤ k)
low_or_not k n = grind arith

pub none_starts_again : SlotsAreBounded → PlansAreSound → NoneStartsAgain
none_starts_again slots plans newer between past begin opening h opens is =
    let log : List Row = between ++ (opening ∷ past) in
    let legal = beginnings_are_legal newer (begin ∷ log) h in
    let kind : begin.kind ≡ 8 = kind_is begin 8 is in
    let adds : IsAdded (log_state log) begin (call_by (log_state log) begin 8) =
    subst (IsAdded (log_state log) begin) (named_by (log_state log) begin 8 kind)
    (added log begin 6 legal kind) in
    let g = claim_begins (log_state log) (moment (log_state log) begin.at) begin.c begin kind
    adds.added in
    let j = from_filter is_running (executions log) g.place g.execution g.there in
    let runs = filter_passes is_running (executions log) g.place g.execution g.there in
    let number = executions_are_numbered log j.0 g.execution j.1 in
    elim (low_or_not j.0 (length (executions past))) [
      | inl old ↦
          let e = some_at (executions past) j.0 old in
          let lost = opening_loses opening past j.0 e.0 opens e.1 in
          let stays = ended_stays slots plans between (opening ∷ past) j.0 (reopened e.0) legal.0
          lost (reopened_ended e.0) in
          let same = one_of (slice_get (executions log) j.0) (reopened e.0) g.execution stays j.1 in
          absurd (runs_not (reopened e.0) g.execution (reopened_ended e.0) same runs)
      | inr new ↦ omega (arith, g.number, number, new)
    ]
