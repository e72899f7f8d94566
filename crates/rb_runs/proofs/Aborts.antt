-- What the rules of an abort come to, one after another.
use Rattle.std.proofs.Common.{◌≡◌, ◌∙◌, ℕ, ℤ, List, [], Bool, true, false, not, Result, Ok, Err, codes, ap, sym, subst, refl, arith}
use Rattle.std.specs.List.{list_any}
use Rattle.std.specs.Result.{IsErrAnd}
use Rattle.rb_causes.specs.declared.row.Row.{Row}
use Rattle.rb_yaml.specs.Faults.{◌>>=◌}
use Rattle.rb_acl.specs.declared.policy.Caller.{Caller}
use Rattle.rb_marks.specs.First.{stops}
use Rattle.rb_log.specs.Executions.{Execution, execution_status, is_running}
use Rattle.rb_log.specs.LogState.{LogState, log_state, moment}
use Rattle.rb_log.specs.Moves.{Moved, adds_owed, must, moved_or}
use Rattle.rb_log.specs.Readings.{Reading}
use Rattle.rb_log.specs.Rows.{abort_row}
use Rattle.rb_log.specs.Runs.{abort, aborted, known, may_act_on}
use Rattle.rb_log.specs.declared.answer.Answer.{Answer}
use Rattle.rb_log.specs.declared.answer.Answer.TheVariants as answer
use Rattle.rb_log.specs.declared.call.Call.{Call}
use Rattle.rb_log.specs.declared.call.Call.TheVariants as call
use Rattle.rb_tables.specs.Changes.{Decided, IsRefusal, IsSettled}
use Rattle.rb_tables.specs.declared.change.Change.{Change}
use Rattle.rb_tables.proofs.Deciding.{refused_first, refused_then}

-- what is read, whatever the readers answer
pub any_reading : Reading
any_reading = record { policies = Ok []; jobs = Ok [] }

-- ---- one rule after another

module _ (past : List Row) (caller : Caller) (number : ℕ) (at : ℤ) where
  abbrev s : LogState
  s = log_state past

  -- the rules from each one on
  abbrev first_on : Execution → Result Moved Answer
  first_on e =
      must (not (list_any stops e.marks)) answer.Aborting >>= λ first.
      Ok (adds_owed (answer.Aborted (execution_status (aborted e)))
      (abort_row (moment s at) number caller))

  abbrev running_on : Execution → Result Moved Answer
  running_on e = must (is_running e) answer.Ended >>= λ running. first_on e

  abbrev permission_on : Execution → Result Moved Answer
  permission_on e = may_act_on s caller (codes "kill") e >>= λ permission. running_on e

  abbrev all_rules : Result Moved Answer
  all_rules = known s number >>= permission_on

  settles : (a : Answer) → IsRefusal all_rules a → IsSettled past (call.Abort caller number at) a
  settles answer.NoMemory h = tt
  settles other h = record { reading = any_reading; may_read = tt; says = ap moved_or h }

  pub not_known : (a : Answer) → IsRefusal (known s number) a
      → IsSettled past (call.Abort caller number at) a
  not_known a h = settles a (refused_first (known s number) permission_on a h)

  module _ (e : Execution) (is : known s number ≡ Ok e) where
    pub not_permitted : (a : Answer) → IsRefusal (may_act_on s caller (codes "kill") e) a
        → IsSettled past (call.Abort caller number at) a
    not_permitted a h =
        settles a (refused_then (known s number) permission_on e a is
        (refused_first (may_act_on s caller (codes "kill") e) (λ permission. running_on e) a h))

    module _ (permitted : may_act_on s caller (codes "kill") e ≡ Ok true) where
      pub not_running : (a : Answer) → IsRefusal (must (is_running e) answer.Ended) a
          → IsSettled past (call.Abort caller number at) a
      not_running a h =
          settles a (refused_then (known s number) permission_on e a is
          (refused_then (may_act_on s caller (codes "kill") e) (λ permission. running_on e) true a
          permitted
          (refused_first (must (is_running e) answer.Ended) (λ running. first_on e) a h)))

      module _ (runs : must (is_running e) answer.Ended ≡ Ok true) where
        pub not_first : (a : Answer)
            → IsRefusal (must (not (list_any stops e.marks)) answer.Aborting) a
            → IsSettled past (call.Abort caller number at) a
        not_first a h =
            settles a (refused_then (known s number) permission_on e a is
            (refused_then (may_act_on s caller (codes "kill") e) (λ permission. running_on e)
            true a permitted
            (refused_then (must (is_running e) answer.Ended) (λ running. first_on e) true a runs
            (refused_first (must (not (list_any stops e.marks)) answer.Aborting) _ a h))))

        pub aborts : must (not (list_any stops e.marks)) answer.Aborting ≡ Ok true
            → abort s (moment s at) caller number
            ≡ adds_owed (answer.Aborted (execution_status (aborted e)))
            (abort_row (moment s at) number caller)
        aborts first =
            ap (λ r. moved_or (r >>= permission_on)) is
            ∙ ap (λ r. moved_or (r >>= λ permission. running_on e)) permitted
            ∙ ap (λ r. moved_or (r >>= λ running. first_on e)) runs
            ∙ ap (λ r. moved_or (r >>= λ first.
            Ok (adds_owed (answer.Aborted (execution_status (aborted e)))
            (abort_row (moment s at) number caller)))) first

-- ---- what is decided

-- of a call that is answered so
pub err_decided : (past : List Row) (c : Call) (r : Result Change Answer) (a : Answer)
    → IsErrAnd r (λ b. b ≡ a) → IsSettled past c a → Decided past c r
err_decided past c (Ok x) a h k = absurd h
err_decided past c (Err b) a h k = subst (IsSettled past c) (sym h) k

pub must_true : (b : Bool) (a : Answer) → must b a ≡ Ok true → b ≡ true
must_true true a h = refl
must_true false a h = absurd (grind (arith, h))
