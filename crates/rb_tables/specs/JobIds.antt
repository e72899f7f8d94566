-- What stands of a job's id in the execution itself.
use Rattle.std.specs.Prelude.{ℕ, ◌++◌, List, length, drop, replicate}

-- a short text in the memory for 40 bytes
abbrev pub near_of : List ℕ → List ℕ
near_of text = text ++ drop (length text) (replicate 40 0)
