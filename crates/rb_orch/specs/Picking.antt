-- The subset of nodes that a draw takes.
use Rattle.std.specs.Prelude.{ℕ, ◌+◌, ◌/◌, ◌%◌, ◌^◌, zero, suc, nat_eq, List, [], ◌∷◌, length, get_or, min, if◌then◌else◌}
use Rattle.std.specs.List.{remove, list_any}
use Rattle.rb_causes.specs.Numbers.{numbers_from}
use Rattle.rb_orch.specs.Drawing.{next_draw}

-- which of those that are left a number takes
abbrev pub turn : ℕ → List ℕ → ℕ
turn x left = (x / 65536) % length left

-- the places that are taken out of those left, one for each draw: each draw is by the number that
-- follows the last one
abbrev pub drawn : ℕ → List ℕ → ℕ → List ℕ
drawn zero left x = []
drawn (suc n) left x =
    get_or left (turn (next_draw x) left) 0
    ∷ drawn n (remove left (turn (next_draw x) left)) (next_draw x)

-- the items that stand at one of the places, in their order; the first item stands at `start`
abbrev pub standing_at : {A : Type 0} → List ℕ → ℕ → List A → List A
standing_at taken start [] = []
standing_at taken start (x ∷ xs) =
    if list_any (λ place. nat_eq place start) taken
    then x ∷ standing_at taken (start + 1) xs else standing_at taken (start + 1) xs

-- so many items, all where there are no more, drawn by the numbers that follow the draw's, in their
-- old order
abbrev pub subset_of : {A : Type 0} → List A → ℕ → ℕ → List A
subset_of items count draw =
    let taken = drawn (min count (length items)) (numbers_from 0 (length items)) (draw % 2 ^ 31) in
    standing_at taken 0 items
