-- The laws of logs on which a pump rests.
use Rattle.rb_log.specs.Laws.{BeginningsAreLegal, EndsOnce, ExecutionsAreNumbered, ExecutionsStay, LeafIsKept, PlansAreSound, ProgramStays, SlotsAreBounded}

-- All of them hold.
pub record PumpLaws : Type 0 where
  pub beginnings : BeginningsAreLegal
  pub ends : EndsOnce
  pub numbered : ExecutionsAreNumbered
  pub stay : ExecutionsStay
  pub kept : LeafIsKept
  pub plans : PlansAreSound
  pub programs : ProgramStays
  pub slots : SlotsAreBounded
