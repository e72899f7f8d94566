-- What is shown of an execution is what the rules show, and what they answer is settled.
use Rattle.std.proofs.Common.{◌≡◌, ◌∙◌, ℕ, Bool, true, List, [], find, nat_eq, codes, slice_get, Option, Some, None, option_map, Result, Ok, Err, IsErrAnd, IfErr, ap, sym, subst, refl}
use Rattle.std.specs.List.{position_or_len}
use Rattle.std.proofs.lemmas.List.Folds.{find_at}
use Rattle.rb_yaml.specs.Faults.{◌>>=◌}
use Rattle.rb_acl.specs.declared.policy.Caller.{Caller}
use Rattle.rb_causes.specs.declared.row.Row.{Row}
use Rattle.rb_log.specs.Executions.{Execution, Execution as LoggedExecution, execution_among, executions, execution_status}
use Rattle.rb_log.specs.Laws.{LeavesAreSound, PlansAreSound}
use Rattle.rb_log.specs.Runs.{known, known_by, may_act_on}
use Rattle.rb_log.specs.LogState.{LogState, log_state}
use Rattle.rb_log.specs.Looks.{look_at, look_at_execution}
use Rattle.rb_log.specs.Moves.{Moved, only, moved_or}
use Rattle.rb_log.specs.declared.answer.Answer.{Answer}
use Rattle.rb_log.specs.declared.answer.Answer.TheVariants as answer
use Rattle.rb_log.specs.declared.call.Call.TheVariants as calls
use Rattle.rb_log.specs.declared.call.Look.{Look}
use Rattle.rb_log.specs.declared.shown.Shown.{Shown}
use Rattle.rb_tables.specs.Changes.{IsRefusal, IsSettled, IsAnswerOf}
use Rattle.rb_looks.specs.Looking.{readable, ShowsOrAnswers}
use Rattle.rb_tables.specs.Progress.{HasTiers}
use Rattle.rb_tables.specs.Statuses.{status_in}
use Rattle.rb_tables.specs.Tables.{IsEntry, IsTabled}
use Rattle.rb_tables.specs.declared.execution.Execution.{Execution as DeskExecution}
use Rattle.rb_tables.specs.declared.tables.Tables.{Tables}
use Rattle.rb_tables.proofs.Entries.{IsFound, entry_found}
use Rattle.rb_tables.proofs.Deciding.{refused_first}

-- ---- answers

-- what the rules answer is settled
pub told_settled : (past : List Row) (caller : Caller) (look : Look) (a : Answer)
    → IsAnswerOf (look_at (log_state past) caller look) a
    → IsSettled past (calls.Look caller look) a
told_settled past caller look answer.NoMemory h = tt
told_settled past caller look other h = record {
  reading = record { policies = Ok []; jobs = Ok [] };
  may_read = tt;
  says = h;
}

-- ---- an execution

-- the permission comes before what is shown
behind : (r : Result Bool Answer) (e : Execution) (show : Execution → Shown)
    → moved_or (r >>= λ permission. Ok (only (answer.Shown (show e))))
    ≡ moved_or ((r >>= λ permission. Ok e) >>= λ e. Ok (only (answer.Shown (show e))))
behind (Ok b) e show = refl
behind (Err a) e show = refl

behind_known : (r : Result Execution Answer) (may : Execution → Result Bool Answer)
    (show : Execution → Shown)
    → moved_or (r >>= λ e. may e >>= λ permission. Ok (only (answer.Shown (show e))))
    ≡ moved_or ((r >>= λ e. may e >>= λ permission. Ok e)
    >>= λ e. Ok (only (answer.Shown (show e))))
behind_known (Ok e) may show = behind (may e) e show
behind_known (Err a) may show = refl

-- a look at an execution shows what may be read
look_is : (s : LogState) (caller : Caller) (number : ℕ) (show : Execution → Shown)
    → look_at_execution s caller number show
    ≡ moved_or (readable s caller number >>= λ e. Ok (only (answer.Shown (show e))))
look_is s caller number show =
    behind_known (known s number) (may_act_on s caller (codes "read")) show

pub read_shown : (s : LogState) (caller : Caller) (number : ℕ) (show : Execution → Shown)
    (e : Execution) (view : Shown) → readable s caller number ≡ Ok e → view ≡ show e
    → look_at_execution s caller number show ≡ only (answer.Shown view)
read_shown s caller number show e view may is =
    look_is s caller number show
    ∙ ap (λ r. moved_or (r >>= λ x. Ok (only (answer.Shown (show x))))) may
    ∙ ap (λ v. only (answer.Shown v)) (sym is)

-- to refuse is to answer
pub refused_told : {A : Type 0} (r : Result A Answer) (f : A → Result Moved Answer) (a : Answer)
    → IsRefusal r a → IsAnswerOf (moved_or (r >>= f)) a
refused_told r f answer.NoMemory h = tt
refused_told r f other h = ap (λ x. moved_or (x >>= f)) h

-- an answer that is handed on
pub told_on : (moved : Moved) (r : Result Shown Answer) (a : Answer) → IsErrAnd r (λ x. x ≡ a)
    → IsAnswerOf moved a → ShowsOrAnswers moved r
told_on moved (Ok shown) a h is = absurd h
told_on moved (Err x) a h is = subst (IsAnswerOf moved) (sym h) is

-- and is refused where it may not be read
pub unread_told : (s : LogState) (caller : Caller) (number : ℕ) (show : Execution → Shown)
    (r : Result Shown Answer) (a : Answer) → IsErrAnd r (λ x. x ≡ a)
    → IsRefusal (readable s caller number) a → ShowsOrAnswers (look_at_execution s caller number show) r
unread_told s caller number show r a is h =
    told_on (look_at_execution s caller number show) r a is
    (subst (λ m. IsAnswerOf m a) (sym (look_is s caller number show))
    (refused_told (readable s caller number) (λ e. Ok (only (answer.Shown (show e)))) a h))

-- ---- which execution may be read

-- It is the one of this number.
pub record IsKnown (past : List Row) (number : ℕ) (e : DeskExecution) : Type 0 where
  pub execution : LoggedExecution
  pub entry : IsEntry e execution
  pub among : execution_among number (executions past) ≡ Some execution

module _ (t : Tables) (past : List Row) (tabled : IsTabled t past) where
  -- it is found by its number
  pub found_in : (number : ℕ) (o : Option DeskExecution)
      → o ≡ find (λ e. nat_eq e.number number) t.executions.items
      → IsFound o (execution_among number (executions past))
  found_in number o found =
      subst (λ o. IsFound o (execution_among number (executions past))) (sym found)
      (entry_found number t.executions.items (executions past) tabled.says.executions)

  pub is_known : (number : ℕ) (e : DeskExecution)
      → Some e ≡ find (λ e. nat_eq e.number number) t.executions.items → IsKnown past number e
  is_known number e found =
      known_by_found e (execution_among number (executions past)) refl
      (found_in number (Some e) found)
    where
      known_by_found : (e : DeskExecution) (o : Option LoggedExecution)
          → execution_among number (executions past) ≡ o → IsFound (Some e) o
          → IsKnown past number e
      known_by_found e None is h = absurd h
      known_by_found e (Some l) is h = record { execution = l; entry = h; among = is }

  pub may_read_it : (number : ℕ) (caller : Caller) (e : LoggedExecution)
      → execution_among number (executions past) ≡ Some e
      → may_act_on (log_state past) caller (codes "read") e ≡ Ok true
      → readable (log_state past) caller number ≡ Ok e
  may_read_it number caller e found may =
      ap (λ o. known_by o >>= λ x. may_act_on (log_state past) caller (codes "read") x
      >>= λ permission. Ok x) found
      ∙ ap (λ r. r >>= λ permission. Ok e) may

  pub may_not_read_it : (number : ℕ) (caller : Caller) (e : LoggedExecution) (a : Answer)
      → execution_among number (executions past) ≡ Some e
      → IsRefusal (may_act_on (log_state past) caller (codes "read") e) a
      → IsRefusal (readable (log_state past) caller number) a
  may_not_read_it number caller e a found h =
      subst (λ o. IsRefusal (known_by o >>= λ x. may_act_on (log_state past) caller
      (codes "read") x >>= λ permission. Ok x) a) (sym found)
      (refused_first (may_act_on (log_state past) caller (codes "read") e)
      (λ permission. Ok e) a h)

  none_among : (number : ℕ)
      → None ≡ find (λ e. nat_eq e.number number) t.executions.items
      → execution_among number (executions past) ≡ None
  none_among number found =
      none_by_found (execution_among number (executions past)) (found_in number None found)
    where
      none_by_found : (o : Option LoggedExecution) → IsFound None o → o ≡ None
      none_by_found None h = refl
      none_by_found (Some l) h = absurd h

  pub is_none : (number : ℕ) (caller : Caller)
      → None ≡ find (λ e. nat_eq e.number number) t.executions.items
      → readable (log_state past) caller number ≡ Err answer.NoExecution
  is_none number caller found =
      ap (λ o. known_by o >>= λ x. may_act_on (log_state past) caller (codes "read") x
      >>= λ permission. Ok x) (none_among number found)

  pub no_status : (number : ℕ)
      → None ≡ find (λ e. nat_eq e.number number) t.executions.items
      → None ≡ status_in (log_state past) number
  no_status number found = ap (option_map execution_status) (sym (none_among number found))

  pub has_tiers : LeavesAreSound → PlansAreSound → (number : ℕ) (e : LoggedExecution)
      → execution_among number (executions past) ≡ Some e → HasTiers e
  has_tiers leaves plans number e is =
      let place : ℕ = position_or_len (λ e. nat_eq e.number number) (executions past) in
      let here : slice_get (executions past) place ≡ Some e =
      sym (find_at (λ e. nat_eq e.number number) (executions past)) ∙ is in record {
        nodes = (leaves past place e tabled.legal here).nodes;
        few = (plans past place e tabled.legal here).nodes;
      }

-- a refusal that is handed on
pub refusal_on : {A B : Type 0} (rule : Result A Answer) (r : Result B Answer) (a : Answer)
    → IsErrAnd r (λ x. x ≡ a) → IsRefusal rule a → IfErr r (IsRefusal rule)
refusal_on rule (Ok x) a h is = tt
refusal_on rule (Err x) a h is = subst (IsRefusal rule) (sym h) is
