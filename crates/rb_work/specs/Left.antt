-- How many tasks may still be started, where there is a limit.
use Rattle.std.specs.Prelude.{◌-◌, ℕ, zero, suc, Bool, true, false, Option, Some, None, option_map}

-- one more may be started
abbrev pub may_start : Option ℕ → Bool
may_start (Some zero) = false
may_start (Some (suc n)) = true
may_start None = true

-- how many may be started behind one more
abbrev pub fewer : Option ℕ → Option ℕ
fewer left = option_map (λ most. most - 1) left
