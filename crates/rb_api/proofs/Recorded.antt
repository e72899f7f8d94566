-- A true record of the request's call gives its reply.
use Rattle.std.proofs.Common.{◌≡◌, ◌≢◌, ◌∙◌, ℕ, List, Option, Some, None, Ok, ap, refl}
use Rattle.rb_causes.specs.declared.row.Row.{Row}
use Rattle.rb_log.specs.Records.{Record, Follows, IsTrueAnswer, without_kept}
use Rattle.rb_log.specs.declared.answer.Answer.{Answer}
use Rattle.rb_log.specs.declared.answer.Answer.TheVariants as answer
use Rattle.rb_api.specs.Laws.{RecordsGiveReplies}
use Rattle.rb_api.specs.Replies.{reply_by, reply_to}
use Rattle.rb_route.specs.Routes.{Asked, asked_of}

-- what became of an append is in no reply
kept_by : (o : Option Asked) (a : Answer) → reply_by o a ≡ reply_by o (without_kept a)
kept_by None a = refl
kept_by (Some asked) answer.NoMemory = refl
kept_by (Some asked) answer.StoreFault = refl
kept_by (Some asked) answer.Full = refl
kept_by (Some asked) (answer.Imported version jobs) = refl
kept_by (Some asked) answer.BadZone = refl
kept_by (Some asked) answer.BadName = refl
kept_by (Some asked) (answer.BadYaml f) = refl
kept_by (Some asked) (answer.BadNodes f) = refl
kept_by (Some asked) (answer.BadPolicy f) = refl
kept_by (Some asked) (answer.BadJobs f) = refl
kept_by (Some asked) answer.TooManyFiles = refl
kept_by (Some asked) answer.NoProject = refl
kept_by (Some asked) (answer.IdTaken id) = refl
kept_by (Some asked) (answer.NameTaken id) = refl
kept_by (Some asked) (answer.Denied reason) = refl
kept_by (Some asked) (answer.Accepted view) = refl
kept_by (Some asked) (answer.Refused r reason) = refl
kept_by (Some asked) (answer.Aborted status) = refl
kept_by (Some asked) answer.NoExecution = refl
kept_by (Some asked) answer.Ended = refl
kept_by (Some asked) answer.Aborting = refl
kept_by (Some asked) (answer.Fired execution) = refl
kept_by (Some asked) answer.Quiet = refl
kept_by (Some asked) (answer.Task t) = refl
kept_by (Some asked) (answer.Withdrawn execution node decision) = refl
kept_by (Some asked) answer.Closed = refl
kept_by (Some asked) answer.Idle = refl
kept_by (Some asked) (answer.Reported kept) = refl
kept_by (Some asked) (answer.DoorClosed kept) = refl
kept_by (Some asked) (answer.Shown what) = refl
kept_by (Some asked) answer.Saved = refl

follows : (a : Answer) (log : List Row) (room : ℕ) (r : Record) → a ≢ answer.NoMemory
    → a ≢ answer.StoreFault → IsTrueAnswer a log room r → Follows log room r
follows answer.NoMemory log room r n s h = absurd (n refl)
follows answer.StoreFault log room r n s h = absurd (s refl)
follows answer.Full log room r n s h = h
follows (answer.Imported version jobs) log room r n s h = h
follows answer.BadZone log room r n s h = h
follows answer.BadName log room r n s h = h
follows (answer.BadYaml f) log room r n s h = h
follows (answer.BadNodes f) log room r n s h = h
follows (answer.BadPolicy f) log room r n s h = h
follows (answer.BadJobs f) log room r n s h = h
follows answer.TooManyFiles log room r n s h = h
follows answer.NoProject log room r n s h = h
follows (answer.IdTaken id) log room r n s h = h
follows (answer.NameTaken id) log room r n s h = h
follows (answer.Denied reason) log room r n s h = h
follows (answer.Accepted view) log room r n s h = h
follows (answer.Refused refusal reason) log room r n s h = h
follows (answer.Aborted status) log room r n s h = h
follows answer.NoExecution log room r n s h = h
follows answer.Ended log room r n s h = h
follows answer.Aborting log room r n s h = h
follows (answer.Fired execution) log room r n s h = h
follows answer.Quiet log room r n s h = h
follows (answer.Task t) log room r n s h = h
follows (answer.Withdrawn execution node decision) log room r n s h = h
follows answer.Closed log room r n s h = h
follows answer.Idle log room r n s h = h
follows (answer.Reported kept) log room r n s h = h
follows (answer.DoorClosed kept) log room r n s h = h
follows (answer.Shown what) log room r n s h = h
follows answer.Saved log room r n s h = h

pub records_give_replies : RecordsGiveReplies
records_give_replies log room tokens request at r comes true_of memory fault =
    let f : Follows log room r = follows r.answer log room r memory fault true_of.answer in
    record {
      asked = Ok r.call;
      comes = comes;
      replies = (
        f.reading,
        f.may_read,
        kept_by (asked_of request.path) r.answer ∙ ap (reply_to request) f.says,
      );
    }
