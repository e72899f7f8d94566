-- The words of `next`.
use Rattle.std.specs.Prelude.{ℕ, ℤ, pos, Bool, ◌&&◌, nat_le, List, [], ◌∷◌, Option, Some, None, option_map, if◌then◌else◌}
use Rattle.rb_causes.specs.Numbers.{decimal_of}
use Rattle.rb_command.specs.declared.command.Command.{Command}
use Rattle.rb_command.specs.declared.command.Command.TheVariants.{Next}

-- COUNT: 1 to 100
abbrev pub is_count : ℕ → Bool
is_count count = nat_le 1 count && nat_le count 100

-- AFTER: a decimal
abbrev pub instant_in : List ℕ → Option ℤ
instant_in word = option_map pos (decimal_of word)

-- of these numbers, where both words give one
abbrev pub next_by : List ℕ → List ℕ → Option ℤ → Option ℕ → Option Command
next_by crontab zone (Some after) (Some count) =
    if is_count count then Some (Next crontab zone after count) else None
next_by crontab zone (Some after) None = None
next_by crontab zone None count = None

-- CRONTAB ZONE AFTER COUNT
abbrev pub next_command : List (List ℕ) → Option Command
next_command [] = None
next_command (crontab ∷ []) = None
next_command (crontab ∷ zone ∷ []) = None
next_command (crontab ∷ zone ∷ after ∷ []) = None
next_command (crontab ∷ zone ∷ after ∷ count ∷ []) =
    next_by crontab zone (instant_in after) (decimal_of count)
next_command (crontab ∷ zone ∷ after ∷ count ∷ more ∷ words) = None
