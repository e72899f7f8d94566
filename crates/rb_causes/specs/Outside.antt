-- What objects of the outside hold. The ones in memory tell it, the real ones tell nothing.
use Rattle.std.specs.Prelude.{◌≡◌, ◌+◌, ◌-◌, ◌^◌, min, ℕ, Bool, false, nat_le, nat_eq, IsTrue, List, [], ◌∷◌, ◌++◌, drop, if◌then◌else◌, Option, Some, None, Result, Ok, Err, option_map, bytes_eq}
use Rattle.std.specs.List.{list_all, list_any}
use Rattle.rb_causes.specs.declared.ending.Ending.{Ending}
use Rattle.rb_causes.specs.declared.ending.Ending.TheVariants.{Code, NotStarted}
use Rattle.rb_causes.specs.declared.shelf.File.{File}
use Rattle.rb_causes.specs.declared.trouble.Failed.{Failed}

-- what is told after these items came behind what was told before
abbrev pub gained : {A : Type 0} → Option (List A) → List A → Option (List A)
gained told items = option_map (λ before. before ++ items) told

-- how a run is listed: one that failed as not started
abbrev pub listed : Result Ending Failed → Ending
listed (Ok ending) = ending
listed (Err e) = NotStarted

-- a code of at most 256
abbrev pub is_code : Ending → Bool
is_code (Code n) = nat_le n 256
is_code NotStarted = false

abbrev pub IsCode : Ending → Type 0
IsCode ending = IsTrue (is_code ending)

-- each ending is such a code
abbrev pub AreCodes : List Ending → Type 0
AreCodes endings = IsTrue (list_all is_code endings)

-- the bytes under a name: of equal names the first
abbrev pub bytes_at : List File → List ℕ → Option (List ℕ)
bytes_at [] name = None
bytes_at (file ∷ files) name =
    if bytes_eq file.name name then Some file.bytes else bytes_at files name

-- what the shelf has under the name, where it tells it
abbrev pub Fetched : Option (List File) → List ℕ → Option (List ℕ) → Type 0
Fetched None name content = Unit {0}
Fetched (Some files) name content = content ≡ bytes_at files name

-- the first ending of a list, and the code 0 where it has none
abbrev pub first_ending : List Ending → Ending
first_ending [] = Code 0
first_ending (ending ∷ endings) = ending

-- the ending at a place, counted from 0, and the code 0 behind the last
abbrev pub ending_at : List Ending → ℕ → Ending
ending_at endings place = first_ending (drop place endings)

-- the number of the next call, from 1; it stays at its type's end
abbrev pub next_call : ℕ → ℕ
next_call calls = min (calls + 1) (2 ^ 64 - 1)

-- after so many calls the next is one of those that are to fail
abbrev pub is_to_fail : List ℕ → ℕ → Bool
is_to_fail failing calls = list_any (λ call. nat_eq call (next_call calls)) failing
