-- What is asked in the demo, one call after another.
use Rattle.std.specs.Prelude.{◌≡◌, ◌||◌, ℕ, ℤ, pos, Bool, true, false, List, [], ◌∷◌, length, map, filter, flat_map, reverse, Some, None, codes}
use Rattle.rb_causes.specs.Spawners.{ShownRuns}
use Rattle.rb_causes.specs.declared.row.Row.{Row}
use Rattle.rb_log.specs.LogState.{log_state}
use Rattle.rb_log.specs.Legal.{IsLegalLog, rights_of}
use Rattle.rb_log.specs.Rows.{opened_row}
use Rattle.rb_log.specs.Told.{Told, Acts}
use Rattle.rb_log.specs.World.{job_id}
use Rattle.rb_log.specs.declared.answer.Answer.{Answer}
use Rattle.rb_log.specs.declared.answer.Answer.TheVariants as answer
use Rattle.rb_log.specs.declared.call.Call.{Call}
use Rattle.rb_log.specs.declared.call.Call.TheVariants.{Run}
use Rattle.rb_work.specs.Works.{Outside}
use Rattle.rb_work.specs.Pumping.{HasPumped}
use Rattle.rb_work.specs.declared.pumped.Pumped.TheVariants.{Idle}
use Rattle.rb_demo.specs.Read.{demo_jobs}
use Rattle.rb_demo.specs.Verdicts.{user_in}
use Rattle.rb_demo.specs.Settings.{Setting, project, nodes_log, policy_log, jobs_log, nodes_call, policy_call, jobs_call}

-- ---- the desk

-- the moment at which the clock stands
abbrev pub demo_moment : ℤ
demo_moment = pos 1700000000

-- one door, one worker, the number 0 for draws, and room for a million rows
abbrev pub setting_of : ℕ → Setting
setting_of nodes = record {
  nodes = nodes;
  doors = 1;
  workers = 1;
  draw = 0;
  room = 1000000;
  importer = user_in (codes "admin") [];
  at = demo_moment;
}

-- what is told of the desk right behind its opening: the row of that is its log
abbrev pub opened_told : Told
opened_told =
    let past : List Row = opened_row demo_moment 1 1 0 ∷ [] in
    record {
      log = past;
      room = 1000000;
      faults = 0;
      rights = rights_of (log_state past);
      own = 1 ∷ [];
      who = [];
    }

-- a spawner that has run nothing
abbrev pub unused : ShownRuns
unused = record { runs = Some []; faults = 0 }

-- ---- imports

abbrev pub is_imported : Answer → Bool
is_imported (answer.Imported version jobs) = true
is_imported other = false

-- An import that was done, behind which the log is this, newest first.
pub record HasImported (old new : Told) (call : Call) (past : List Row) : Type 0 where
  pub answer : Answer
  pub acts : Acts old new call answer
  pub imported : is_imported answer ≡ true
  pub log : reverse new.log ≡ past

-- The nodes, the policies and the jobs, in this order.
pub record HasImportedAll (d : Setting) (old new : Told) : Type 0 where
  pub with_nodes : Told
  pub with_policies : Told
  pub nodes : HasImported old with_nodes (nodes_call d) (nodes_log d)
  pub policies : HasImported with_nodes with_policies (policy_call d) (policy_log d)
  pub jobs : HasImported with_policies new (jobs_call d) (jobs_log d)

-- ---- runs

-- a user's run of the job of this id
abbrev pub run_call : List ℕ → List ℕ → Call
run_call user job =
    Run (user_in user []) (record { job = job; given = []; filter = None }) demo_moment

abbrev pub is_accepted : Answer → Bool
is_accepted (answer.Accepted view) = true
is_accepted other = false

abbrev pub is_refused : Answer → Bool
is_refused (answer.Refused refusal reason) = true
is_refused other = false

-- A user's run of a job, which was accepted or refused.
pub record HasRun (old new : Told) (user job : List ℕ) (a : Answer) : Type 0 where
  pub acts : Acts old new (run_call user job) a
  pub verdict : is_accepted a || is_refused a ≡ true

-- where a run was accepted, one pump of worker 0 until nothing may start any more
abbrev pub PumpsIf : Bool → Outside → Outside → Type 0
PumpsIf true old new = HasPumped (λ at. at ≡ demo_moment) 0 None old new Idle
PumpsIf false old new = new ≡ old

-- what ann and what bob were answered
pub record Round : Type 0 where
  pub ann : Answer
  pub bob : Answer

-- Ann's run of a job, a pump where it was accepted, and bob's run.
pub record IsRound (job : List ℕ) (old new : Outside) (round : Round) : Type 0 where
  pub asked : Told
  pub worked : Told
  pub ann : HasRun old.clerk asked (codes "ann") job round.ann
  pub pump : PumpsIf (is_accepted round.ann) (record { clerk = asked; spawner = old.spawner })
      (record { clerk = worked; spawner = new.spawner })
  pub bob : HasRun worked new.clerk (codes "bob") job round.bob

-- a round of each job, one after another
abbrev pub AreRounds : List (List ℕ) → Outside → Outside → List Round → Type 0
AreRounds [] old new [] = new ≡ old
AreRounds (job ∷ jobs) old new (round ∷ rounds) =
    (mid : Outside) × IsRound job old mid round × AreRounds jobs mid new rounds
AreRounds jobs old new rounds = ⊥

abbrev pub demo_ids : List (List ℕ)
demo_ids = map (job_id project) demo_jobs

-- ---- all of it

-- The imports, and a round of each job; the log is legal then.
pub record HasPlayed (nodes : ℕ) (old new : Outside) (rounds : List Round) : Type 0 where
  pub imported : Told
  pub imports : HasImportedAll (setting_of nodes) old.clerk imported
  pub runs : AreRounds demo_ids (record { clerk = imported; spawner = old.spawner }) new rounds
  pub legal : IsLegalLog (reverse new.clerk.log)

-- how many of the runs were refused
abbrev pub refused_in : List Round → ℕ
refused_in rounds = length (filter is_refused (flat_map (λ r. r.ann ∷ r.bob ∷ []) rounds))
