-- How callers lie in memory: one list holds what each past caller took, and then the inputs of the
-- others.
use Rattle.std.specs.Prelude.{ℕ, ◌+◌, Bool, true, false, List, take, drop, slice_get, option_map, None}
use Rattle.rb_causes.specs.Callers.{Served, Callers}

-- the caller whose input this is
abbrev pub in_service : ℕ → List ℕ → Bool → List ℕ → Served
in_service read taken failed input =
    record { left = drop read input; taken = taken; failed = failed }

-- so many of them are past, and the next is served or nobody is
abbrev pub callers_in : List (List ℕ) → ℕ → Bool → ℕ → List ℕ → Bool → Callers
callers_in all past false read taken failed =
    record { past = take past all; now = None; waiting = drop past all }
callers_in all past true read taken failed = record {
  past = take past all;
  now = option_map (in_service read taken failed) (slice_get all past);
  waiting = drop (past + 1) all;
}
