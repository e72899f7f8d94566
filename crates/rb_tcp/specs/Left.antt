-- How many callers a line may still take, where there is a limit.
use Rattle.std.specs.Prelude.{◌-◌, ℕ, Bool, true, nat_eq, nat_lt, if◌then◌else◌}
use Rattle.rb_tcp.specs.declared.callers_left.CallersLeft.{CallersLeft}
use Rattle.rb_tcp.specs.declared.callers_left.CallersLeft.TheVariants.{Any, Only}

-- so many callers, where 0 says any number
abbrev pub so_many : ℕ → CallersLeft
so_many number = if nat_eq number 0 then Any else Only number

-- one more may be taken
abbrev pub has_left : CallersLeft → Bool
has_left Any = true
has_left (Only number) = nat_lt 0 number

-- how many are left behind one more
abbrev pub one_less : CallersLeft → CallersLeft
one_less Any = Any
one_less (Only number) = Only (number - 1)
