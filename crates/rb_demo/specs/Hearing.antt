-- What the demo hears of an answer, and what the rules say of a call.
use Rattle.std.specs.Prelude.{◌≡◌, ◌⊎◌, ◌++◌, length, reverse, option_to_list}
use Rattle.rb_log.specs.Readings.{Reading}
use Rattle.rb_log.specs.LogState.{log_state}
use Rattle.rb_log.specs.Legal.{rights_of}
use Rattle.rb_log.specs.Moves.{Moved}
use Rattle.rb_log.specs.Turn.{MayRead, turn_of}
use Rattle.rb_log.specs.Records.{without_kept}
use Rattle.rb_log.specs.Told.{Told, Acts}
use Rattle.rb_log.specs.declared.answer.Answer.{Answer}
use Rattle.rb_log.specs.declared.answer.Answer.TheVariants as answer
use Rattle.rb_log.specs.declared.call.Call.{Call}
use Rattle.rb_demo.specs.declared.hearing.HeardAnswer.{HeardAnswer}
use Rattle.rb_demo.specs.declared.hearing.HeardAnswer.TheVariants as heard

-- ---- what is heard

abbrev pub heard_answer : Answer → HeardAnswer
heard_answer answer.NoMemory = heard.NoMemory
heard_answer (answer.Imported version jobs) = heard.Imported
heard_answer (answer.Accepted view) = heard.Accepted
heard_answer (answer.Refused refusal reason) = heard.Refused
heard_answer answer.Full = heard.Full
heard_answer other = heard.Other

abbrev pub IsNoTask : Answer → Type 0
IsNoTask (answer.Task t) = ⊥
IsNoTask other = Unit {0}

-- ---- what the rules say

-- A clerk that has its desk for itself: all rows are its own, what may be asked is what the log
-- says, and its keeper never fails.
pub record IsAlone {C : Type 0} (told : C → Told) : Type 0 where
  pub faults : (c : C) → (told c).faults ≡ 0
  pub own : (c : C) → length (told c).own ≡ length (told c).log
  pub rights : (c : C) → (told c).rights ≡ rights_of (log_state (reverse (told c).log))

-- the turn on what a clerk tells
abbrev pub turn_on : Told → Reading → Call → Moved
turn_on old reading call = turn_of reading (reverse old.log) old.room call

-- whatever its reader may answer, this holds of the turn
abbrev pub Always : Told → Call → (Moved → Type 0) → Type 0
Always old call P =
    (reading : Reading) → MayRead (log_state (reverse old.log)) call reading →
    P (turn_on old reading call)

-- For what the readers may give, the rules give this answer, and the log goes on as they say.
pub record IsByRules (old new : Told) (call : Call) (a : Answer) : Type 0 where
  pub reading : Reading
  pub may_read : MayRead (log_state (reverse old.log)) call reading
  pub says : without_kept a ≡ (turn_on old reading call).answer
  pub rows : new.log ≡ old.log ++ option_to_list (turn_on old reading call).row

-- or memory was wanting, and the log stays
abbrev pub IsRuled : Told → Told → Call → Answer → Type 0
IsRuled old new call a =
    (a ≡ answer.NoMemory × new.log ≡ old.log) ⊎ IsByRules old new call a

-- A call was answered, and this was heard.
pub record HasSaid (old new : Told) (call : Call) (said : HeardAnswer) : Type 0 where
  pub answer : Answer
  pub acts : Acts old new call answer
  pub hears : said ≡ heard_answer answer
  pub ruled : IsRuled old new call answer
