-- The laws of logs and of verdicts on which runs rest.
use Rattle.rb_log.specs.Fires.{FirstIsFirst, ImportersAreClean}
use Rattle.rb_log.specs.Laws.{AskIsKept, CallerIsKept, DueAskIsKept, WorldIsSound}
use Rattle.rb_plan.specs.Laws.{AcceptedIsSound, CommandsAreFew, DroppedMayNotBeRun, LeavesAreFew, RefusalHolds}

-- All of them hold.
pub record RunLaws : Type 0 where
  pub sound : WorldIsSound
  pub holds : RefusalHolds
  pub accepted : AcceptedIsSound
  pub few : LeavesAreFew
  pub commands : CommandsAreFew
  pub drops : DroppedMayNotBeRun
  pub asks : AskIsKept
  pub due_asks : DueAskIsKept
  pub callers : CallerIsKept
  pub importers : ImportersAreClean
  pub first : FirstIsFirst
