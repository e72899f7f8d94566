-- The laws of logs on which the desk's executions rest.
use Rattle.rb_log.specs.Laws.{ExecutionsAreNumbered, ExecutionsAreVerdicts, LeafIsKept, LeavesAreSound, MarksAreLegal, NodesAreBounded, OpenIsOpen, PlansAreSound, SlotsAreBounded}
use Rattle.rb_plan.specs.Laws.{CommandsAreFew, LeavesAreFew}

-- All of them hold.
pub record LogLaws : Type 0 where
  pub numbered : ExecutionsAreNumbered
  pub verdicts : ExecutionsAreVerdicts
  pub plans : PlansAreSound
  pub leaves : LeavesAreSound
  pub slots : SlotsAreBounded
  pub nodes : NodesAreBounded
  pub marks : MarksAreLegal
  pub opens : OpenIsOpen
  pub kept : LeafIsKept
  pub few_leaves : LeavesAreFew
  pub few_commands : CommandsAreFew
