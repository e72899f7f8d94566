-- What reads give.
use Rattle.std.specs.Prelude.{
  ◌≡◌,
  ◌<◌,
  ℕ,
  Bool,
  false,
  nat_eq,
  List,
  [],
  ◌++◌,
  length,
  Option,
  Some,
  None,
  option_map,
  IfSome,
}
use Rattle.std.specs.List.{list_any}
use Rattle.rb_causes.specs.Callers.{Callers, left_of, after_read}
use Rattle.rb_causes.specs.Signs.{line_feed}
use Rattle.rb_wire.specs.Hearing.{Pending, HoldsOne, HearsNext, is_line_fault}
use Rattle.rb_wire.specs.Requests.{ComesNext, Breaks}
use Rattle.rb_wire.specs.declared.heard.Heard.{Heard}
use Rattle.rb_wire.specs.declared.heard.Heard.TheVariants as heard

-- what is still to come, where the line tells it
abbrev pub to_come : Option Callers → List ℕ
to_come None = []
to_come (Some callers) = left_of callers

-- these bytes were read, and the buffer has them behind what it had
pub record HasRead
    (got : List ℕ) (old_callers new_callers : Option Callers) (old new : Pending) : Type 0 where
  pub input : IfSome old_callers (λ callers. left_of callers ≡ got ++ to_come new_callers)
  pub callers : new_callers ≡ option_map (after_read (length got)) old_callers
  pub pending : new ≡ record { bytes = old.bytes ++ got; given = old.given }

-- some bytes were read; none where a request stood whole already
pub record Gains (old_callers new_callers : Option Callers) (old new : Pending) : Type 0 where
  pub got : List ℕ
  pub read : HasRead got old_callers new_callers old new
  pub ready : HoldsOne old.given old.bytes → got ≡ []

-- one read gave so many bytes, and none where nothing is to come
pub record ReadsOnce
    (n : ℕ) (old_callers new_callers : Option Callers) (old new : Pending) : Type 0 where
  pub got : List ℕ
  pub count : length got ≡ n
  pub read : HasRead got old_callers new_callers old new
  pub end : n ≡ 0 → to_come new_callers ≡ []

-- more bytes came, or this was heard
abbrev pub ReadsOn
    : Option Callers → Option Callers → Pending → Pending → Option Heard → Type 0
ReadsOn old_callers new_callers old new None =
    Gains old_callers new_callers old new × (length old.bytes < length new.bytes)
ReadsOn old_callers new_callers old new (Some heard) =
    HearsNext old_callers new_callers old new heard

-- a fault of the line was heard
abbrev pub has_line_fault : Option Heard → Bool
has_line_fault None = false
has_line_fault (Some what) = is_line_fault what

-- so the input ends where no more than these bytes came
abbrev pub TellsEnd : List ℕ → Heard → Type 0
TellsEnd bytes heard.End = bytes ≡ []
TellsEnd bytes (heard.Broken fault) = (given : ℕ) → ComesNext given bytes (Breaks fault)
TellsEnd bytes other = ⊥

abbrev pub has_line_end : List ℕ → Bool
has_line_end bytes = list_any (λ b. nat_eq b line_feed) bytes
