-- The words of `serve`.
use Rattle.std.specs.Prelude.{ℕ, Bool, List, [], ◌∷◌, bytes_eq, codes, length, nat_le, Option, Some, None, if◌then◌else◌, ◌&&◌}
use Rattle.rb_causes.specs.Numbers.{decimal_of}
use Rattle.rb_session_top.specs.Words.{store_file}

-- what the words say: the name of the manifest; the file in which rows are kept; how many workers
-- work; how many callers each door serves, 0 for any number; and the addresses of the doors
pub record CrewWords : Type 0 where
  pub manifest : List ℕ
  pub store : Option (List ℕ)
  pub workers : ℕ
  pub callers : ℕ
  pub addresses : List (List ℕ)

abbrev pub crew_words_of : List ℕ → Option (List ℕ) → ℕ → ℕ → List (List ℕ) → CrewWords
crew_words_of manifest store workers callers addresses = record {
  manifest = manifest;
  store = store;
  workers = workers;
  callers = callers;
  addresses = addresses;
}

-- the first word is `serve`, and there are 1 to 16 addresses
abbrev pub is_form : List ℕ → ℕ → Bool
is_form form addresses =
    bytes_eq form (codes "serve") && nat_le 1 addresses && nat_le addresses 16

-- 1 to 64 workers
abbrev pub workers_of : Option ℕ → Option ℕ
workers_of None = None
workers_of (Some n) = if nat_le 1 n && nat_le n 64 then Some n else None

-- with so many workers and callers, where both are numbers
abbrev pub crew_by : List ℕ → Option (List ℕ) → List (List ℕ) → Option ℕ → Option ℕ
    → Option CrewWords
crew_by manifest store addresses None callers = None
crew_by manifest store addresses (Some workers) None = None
crew_by manifest store addresses (Some workers) (Some callers) =
    Some (crew_words_of manifest store workers callers addresses)

-- what the words say, where they are `serve MANIFEST STORE WORKERS CALLERS ADDRESS ...`
abbrev pub crew_words : List (List ℕ) → Option CrewWords
crew_words [] = None
crew_words (form ∷ []) = None
crew_words (form ∷ manifest ∷ []) = None
crew_words (form ∷ manifest ∷ store ∷ []) = None
crew_words (form ∷ manifest ∷ store ∷ workers ∷ []) = None
crew_words (form ∷ manifest ∷ store ∷ workers ∷ callers ∷ addresses) =
    if is_form form (length addresses)
    then crew_by manifest (store_file store) addresses (workers_of (decimal_of workers))
    (decimal_of callers)
    else None
