-- Which of several flaws and faults is told, and what a reader gives.
use Rattle.std.specs.Prelude.{◌≡◌, ℕ, Bool, ◌||◌, ◌&&◌, nat_eq, nat_lt, Option, Some, None, option_map, Result, Ok, Err, if◌then◌else◌}
use Rattle.rb_yaml.specs.declared.flaw.Flaw.{Flaw}
use Rattle.rb_yaml.specs.declared.flaw.Flaw.TheVariants.{Tab, Indent, OutOfProfile, Form, DuplicateKey, TooDeep}
use Rattle.rb_yaml.specs.declared.flaw.Fault.{Fault}
use Rattle.rb_yaml.specs.declared.flaw.Stop.{Stop}
use Rattle.rb_yaml.specs.declared.flaw.Stop.TheVariants.{At, NoMemory}

-- a flaw and a fault, by names that other crates can cite
abbrev pub LineFlaw : Type 0
LineFlaw = Flaw

abbrev pub LineFault : Type 0
LineFault = Fault

-- the one order in which the flaws of a line are told
abbrev pub rank : Flaw → ℕ
rank Tab = 1
rank Indent = 2
rank (OutOfProfile excluded) = 3
rank Form = 4
rank DuplicateKey = 5
rank TooDeep = 6

-- the flaw of a line, or another one that is told before it
abbrev pub foremost : Flaw → Option Flaw → Flaw
foremost flaw None = flaw
foremost flaw (Some other) = if nat_lt (rank other) (rank flaw) then other else flaw

-- of the flaws of a line that two looks find, the one that is told
abbrev pub either : Option Flaw → Option Flaw → Option Flaw
either None other = other
either (Some flaw) other = Some (foremost flaw other)

-- the fault stands on an earlier line, or on the same one and is told before the other
abbrev pub goes_before : Fault → Fault → Bool
goes_before f g =
    nat_lt f.line g.line || nat_eq f.line g.line && nat_lt (rank f.flaw) (rank g.flaw)

-- of two that tie the first
abbrev pub earlier : Fault → Fault → Fault
earlier f g = if goes_before g f then g else f

abbrev pub fault_at : ℕ → Flaw → Fault
fault_at line flaw = record { flaw = flaw; line = line }

-- a line without a form that YAML knows, and one that nests too deep
abbrev pub form_fault : ℕ → Fault
form_fault line = fault_at line Form

abbrev pub depth_fault : ℕ → Fault
depth_fault line = fault_at line TooDeep

-- the fault of a line that has this flaw
abbrev pub fault_with : ℕ → Option Flaw → Option Fault
fault_with line flaw = option_map (fault_at line) flaw

-- ---- readings

infixl 10 ◌>>=◌
abbrev pub ◌>>=◌ : {A B E : Type 0} → Result A E → (A → Result B E) → Result B E
(Ok x) >>= f = f x
(Err e) >>= f = Err e

-- the fault, or one of the reading that comes before it
abbrev pub sooner_fault : {A : Type 0} → Fault → Result A Fault → Fault
sooner_fault f (Ok x) = f
sooner_fault f (Err g) = earlier f g

-- a reading that a fault stands beside
abbrev pub beside : {A : Type 0} → Option Fault → Result A Fault → Result A Fault
beside None read = read
beside (Some f) read = Err (sooner_fault f read)

abbrev pub flaw_or : {A : Type 0} → Option Flaw → ℕ → Result A Fault → Result A Fault
flaw_or None line read = read
flaw_or (Some flaw) line read = Err (fault_at line flaw)

-- What was returned, seen by a view, is what the reading gives, unless memory ran out.
abbrev pub IsStopOf : {Y E : Type 0} → Stop E → Result Y E → Type 0
IsStopOf NoMemory read = Unit {0}
IsStopOf (At e) read = read ≡ Err e

abbrev pub Reads : {X Y E : Type 0} → (X → Y) → Result X (Stop E) → Result Y E → Type 0
Reads view (Ok x) read = read ≡ Ok (view x)
Reads view (Err stop) read = IsStopOf stop read
