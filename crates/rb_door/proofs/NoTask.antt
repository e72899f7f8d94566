-- Where the rules give no task, none is answered.
use Rattle.std.proofs.Common.{◌≡◌, ℕ, ℤ, true, List, take, reverse, sym, subst, arith}
use Rattle.rb_acl.specs.declared.policy.Caller.{Caller}
use Rattle.rb_causes.specs.declared.row.Row.{Row}
use Rattle.rb_log.specs.Readings.{Reading}
use Rattle.rb_log.specs.Records.{Follows, IsTrueAnswer, without_kept}
use Rattle.rb_log.specs.Told.{Told, Acts, record_of}
use Rattle.rb_log.specs.Turn.{turn_of}
use Rattle.rb_log.specs.declared.answer.Answer.{Answer}
use Rattle.rb_log.specs.declared.answer.Answer.TheVariants as answer
use Rattle.rb_log.specs.declared.call.Call.{Call}
use Rattle.rb_api.specs.Laws.{AnswersAreTold, IsAskedBy, is_told}
use Rattle.rb_api.specs.Replies.{IsNoTask}

not_a_task : (a : Answer) → IsNoTask (without_kept a) → IsNoTask a
not_a_task (answer.Task t) h = h
not_a_task other h = tt

-- the rules give no task for the call
abbrev pub GivesNoTask : Call → Type 0
GivesNoTask c =
    (reading : Reading) (past : List Row) (room : ℕ)
    → IsNoTask (turn_of reading past room c).answer

by_rules : (c : Call) (a : Answer) (log : List Row) (room before : ℕ) → GivesNoTask c
    → Follows log room (record_of c a before log) → IsNoTask a
by_rules c a log room before none h =
    not_a_task a
    (subst IsNoTask (sym h.says) (none h.reading (reverse (take before log)) room))

answered : (c : Call) (a : Answer) (log : List Row) (room before : ℕ) → GivesNoTask c
    → IsTrueAnswer a log room (record_of c a before log) → IsNoTask a
answered c answer.NoMemory log room before none h = tt
answered c answer.StoreFault log room before none h = tt
answered c other log room before none h = by_rules c _ log room before none h

pub acts_no_task : (old new : Told) (c : Call) (a : Answer) → Acts old new c a → GivesNoTask c
    → IsNoTask a
acts_no_task old new c a acts none =
    answered c a new.log old.room acts.before none acts.true_record.answer

told_no_task : (a : Answer) → is_told a ≡ true → IsNoTask a
told_no_task (answer.Task t) h = absurd (grind (arith, h))
told_no_task other h = tt

-- nor for the call of a request
pub asked_no_task : AnswersAreTold → (caller : Caller) (at : ℤ) (c : Call)
    → IsAskedBy caller at c → GivesNoTask c
asked_no_task told caller at c asked reading past room =
    told_no_task (turn_of reading past room c).answer (told reading past room caller at c asked)
