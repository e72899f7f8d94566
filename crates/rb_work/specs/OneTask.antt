-- One task more, or none.
use Rattle.std.specs.Prelude.{◌≡◌, ◌≢◌, ◌≤◌, ◌<◌, ℕ, ℤ, List, [], ◌∷◌, length}
use Rattle.rb_log.specs.Records.{Record}
use Rattle.rb_work.specs.Works.{Work, Outside, HasWorked}
use Rattle.rb_work.specs.Pumping.{Ends}
use Rattle.rb_work.specs.declared.pumped.Pumped.{Pumped}
use Rattle.rb_work.specs.declared.pumped.Pumped.TheVariants.{Limit}

-- one task was worked off, and the log has come nearer to its room
pub record HasWorkedOne (at : ℤ) (worker : ℕ) (old new : Outside) : Type 0 where
  pub work : Work
  pub worked : HasWorked at worker old new (work ∷ []) []
  pub room : new.clerk.room ≡ old.clerk.room
  pub longer : length old.clerk.log < length new.clerk.log
  pub within : length new.clerk.log ≤ new.clerk.room

-- none was, as was said
pub record HasStopped (at : ℤ) (worker : ℕ) (old new : Outside) (said : Pumped) : Type 0 where
  pub last : List Record
  pub worked : HasWorked at worker old new [] last
  pub ends : Ends at worker last said
  pub unlimited : said ≢ Limit
