-- What is closed or ended is open no more, so one row fewer may come.
use Rattle.std.proofs.Common.{◌≡◌, ◌∙◌, ◌≤◌, ◌<◌, ℕ, zero, suc, Bool, true, false, not, nat_eq, List, [], ◌∷◌, cond, length, filter, get_or, Contains, ap, arith}
use Rattle.std.proofs.lemmas.Bool.{and_from}
use Rattle.rb_causes.proofs.Lists.{filter_most}
use Rattle.rb_marks.specs.Results.{same_leaf}
use Rattle.rb_log.specs.Sums.{same_open, without, without_leaf}
use Rattle.rb_log.specs.declared.task.OpenLeaf.{OpenLeaf}
use Rattle.rb_desk.proofs.Stepping.{same_number}

dropped_here : (b : Bool) {A : Type 0} (y : A) (ys zs : List A) → b ≡ false
    → length zs ≤ length ys → suc (length (cond b (y ∷ zs) zs)) ≤ suc (length ys)
dropped_here true y ys zs h low = absurd (grind (arith, h))
dropped_here false y ys zs h low = omega (arith, low)

dropped_later : (b : Bool) {A : Type 0} (y : A) (ys zs : List A) → suc (length zs) ≤ length ys
    → suc (length (cond b (y ∷ zs) zs)) ≤ suc (length ys)
dropped_later true y ys zs low = omega (arith, low)
dropped_later false y ys zs low = omega (arith, low)

fewer : {A : Type 0} (p : A → Bool) (x : A) (xs : List A) (k : ℕ) → k < length xs
    → get_or xs k x ≡ x → p x ≡ false → suc (length (filter p xs)) ≤ length xs
fewer p x [] k low is out = absurd (omega (arith, low))
fewer p x (y ∷ ys) zero low is out =
    dropped_here (p y) y ys (filter p ys) (ap p is ∙ out) (filter_most p ys)
fewer p x (y ∷ ys) (suc k) low is out =
    dropped_later (p y) y ys (filter p ys) (fewer p x ys k (omega (arith, low)) is out)

-- a number that is there is not, once it is taken out
not_same : (n : ℕ) → not (nat_eq n n) ≡ false
not_same n = ap not (same_number n)

pub fewer_doors : (door : ℕ) (doors : List ℕ) → Contains doors door
    → suc (length (without door doors)) ≤ length doors
fewer_doors door doors has =
    fewer (λ m. not (nat_eq m door)) door doors has.0 has.1 has.2 (not_same door)

itself : (o : OpenLeaf) → same_open o o ≡ true
itself o =
    and_from (nat_eq o.execution o.execution) (same_leaf o.leaf o.leaf)
    (same_number o.execution)
    (and_from (nat_eq o.leaf.node o.leaf.node) (nat_eq o.leaf.slot o.leaf.slot)
    (same_number o.leaf.node) (same_number o.leaf.slot))

pub fewer_leaves : (o : OpenLeaf) (leaves : List OpenLeaf) → Contains leaves o
    → suc (length (without_leaf o leaves)) ≤ length leaves
fewer_leaves o leaves has =
    fewer (λ y. not (same_open y o)) o leaves has.0 has.1 has.2 (ap not (itself o))
