-- What a spawner shows of itself, and what was run by it.
use Rattle.std.specs.Prelude.{◌≡◌, ◌≤◌, ℕ, true, List, [], ◌∷◌, All, Option, Result, Ok, Err, IfOk, if◌then◌else◌}
use Rattle.std.specs.List.{list_all}
use Rattle.rb_causes.specs.Causes.{Rose, HasCause}
use Rattle.rb_causes.specs.Outside.{gained, listed, ending_at, is_to_fail, is_code, IsCode}
use Rattle.rb_causes.specs.declared.ending.Ending.{Ending}
use Rattle.rb_causes.specs.declared.ending.Ending.TheVariants.{NotStarted}
use Rattle.rb_causes.specs.declared.spawner.SpawnRun.{SpawnRun}
use Rattle.rb_causes.specs.declared.trouble.Failed.{Failed}

-- All runs that were asked for, in order, where it tells them; and how many faults there were.
pub record ShownRuns : Type 0 where
  pub runs : Option (List SpawnRun)
  pub faults : ℕ

-- The run of these words was asked for, and is listed with its ending. A program ends with a code,
-- and each failure to start one is counted.
pub record RunsWords (words : List (List ℕ)) (before after : ShownRuns)
    (result : Result Ending Failed) : Type 0 where
  pub runs : after.runs ≡ gained before.runs (record { words = words; ending = listed result } ∷ [])
  pub code : IfOk result IsCode
  pub cause : HasCause before.faults after.faults result

-- The spawner gained these runs. Its count of faults does not fall, rose, by one at least, where
-- any of them was not started, and stays where each ended with a code.
pub record Ran (gain : List SpawnRun) (before after : ShownRuns) : Type 0 where
  pub runs : after.runs ≡ gained before.runs gain
  pub faults : before.faults ≤ after.faults
  pub cause : All (λ run. run.ending ≡ NotStarted → Rose before.faults after.faults) gain
  pub steady : list_all (λ run. is_code run.ending) gain ≡ true → after.faults ≡ before.faults

-- how the next run in memory ends, after so many calls and behind so many runs: it fails, or has
-- the ending of its place
abbrev pub planned_ending : List Ending → List ℕ → ℕ → ℕ → Result Ending Failed
planned_ending endings failing calls runs =
    if is_to_fail failing calls then Err (record {}) else Ok (ending_at endings runs)
