-- How many nodes may be in work at once.
use Rattle.std.specs.Prelude.{ℕ, ◌*◌, ◌/◌, Option, Some, None, min, max, ◌≤◌}

-- the threads; with a percentage no more than this share of all nodes, rounded down, but at least 1
abbrev pub bound_of : ℕ → Option ℕ → ℕ → ℕ
bound_of threads None total = threads
bound_of threads (Some percent) total = min threads (max 1 (percent * total / 100))

-- a percentage is 1 to 100
abbrev pub IsPercentage : ℕ → Type 0
IsPercentage percent = (1 ≤ percent) × (percent ≤ 100)
