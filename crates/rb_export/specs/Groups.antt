-- Neighbours of one name in a list, together.
use Rattle.std.specs.Prelude.{ℕ, suc, List, [], ◌∷◌, bytes_eq, if◌then◌else◌}

-- items under the name that they have
abbrev pub Group : Type 0 → Type 0
Group A = List ℕ × List A

-- an item in front of groups: in the first one where that has its name, else in one of its own
abbrev pub onto_groups : {A : Type 0} → List ℕ → A → List (Group A) → List (Group A)
onto_groups name x [] = (name, x ∷ []) ∷ []
onto_groups name x (g ∷ gs) =
    if bytes_eq name g.0 then (name, x ∷ g.1) ∷ gs else (name, x ∷ []) ∷ g ∷ gs

-- the groups of neighbours that have one name, in order
abbrev pub groups_by : {A : Type 0} → (A → List ℕ) → List A → List (Group A)
groups_by name [] = []
groups_by name (x ∷ xs) = onto_groups (name x) x (groups_by name xs)

-- how many items at the front of a list have this name
abbrev pub count_of_name : {A : Type 0} → (A → List ℕ) → List ℕ → List A → ℕ
count_of_name name wanted [] = 0
count_of_name name wanted (x ∷ xs) =
    if bytes_eq (name x) wanted then suc (count_of_name name wanted xs) else 0
