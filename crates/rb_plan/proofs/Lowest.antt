-- The lowest of a number and of the executions that are left.
use Rattle.std.proofs.Common.{ℕ, Option, Some, None}
use Rattle.rb_plan.specs.Worlds.{lesser}

abbrev pub lowest_with : Option ℕ → Option ℕ → Option ℕ
lowest_with None other = other
lowest_with (Some n) other = Some (lesser n other)
