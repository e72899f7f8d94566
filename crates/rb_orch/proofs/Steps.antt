-- One step of the recursions over places and draws, where the steps left are counted down from a
-- number.
use Rattle.std.proofs.Common.{◌≡◌, ℕ, ◌+◌, ◌-◌, ◌/◌, ◌%◌, ◌<◌, zero, suc, refl, List, [], ◌∷◌, ◌++◌, length, get_or, ap, sym, ◌∙◌, append_assoc, arith}
use Rattle.std.specs.List.{remove}
use Rattle.std.proofs.Math.Nat.{mod-lt}
use Rattle.std.proofs.lemmas.List.{get_or_default}
use Rattle.rb_causes.specs.Numbers.{numbers_from}
use Rattle.rb_orch.specs.Drawing.{next_draw}
use Rattle.rb_orch.specs.Picking.{turn, drawn}

-- an item that is first of what is left goes behind what is done
pub pushed_more : {A : Type 0} (done done' left left' whole : List A) (x : A) → done' ≡ done ++ x
    ∷ [] → left ≡ x ∷ left' → done ++ left ≡ whole → done' ++ left' ≡ whole
pushed_more done done' left left' whole x pushed first all =
    ap (λ d. d ++ left') pushed ∙ append_assoc done (x ∷ []) left' ∙ ap (λ l. done ++ l) (sym first)
    ∙ all

one_less : (n k : ℕ) → k < n → n - k ≡ suc (n - (k + 1))
one_less n k h = omega arith

pub places_more : (n k : ℕ) → k < n → numbers_from k (n - k) ≡ k ∷ numbers_from (k + 1) (n - (k + 1))
places_more n k h = ap (numbers_from k) (one_less n k h)

drawn_more : (n k : ℕ) (left : List ℕ) (x : ℕ) → k < n → drawn (n - k) left x
    ≡ get_or left (turn (next_draw x) left) 0
    ∷ drawn (n - (k + 1)) (remove left (turn (next_draw x) left)) (next_draw x)
drawn_more n k left x h = ap (λ m. drawn m left x) (one_less n k h)

-- one draw: x' follows x, and y is what stood at its turn among those left
pub drawn_first : (n k : ℕ) (left left' : List ℕ) (x x' size y : ℕ) → k < n → x' ≡ next_draw x
    → size ≡ length left → (x' / 65536) % size < length left → y
    ≡ get_or left ((x' / 65536) % size) y → left' ≡ remove left ((x' / 65536) % size)
    → drawn (n - k) left x ≡ y ∷ drawn (n - (k + 1)) left' x'
drawn_first n k left left' x x' size y more follows sized within taken rest =
    let m = n - (k + 1) in
    let at : ℕ = (x' / 65536) % size in
    let step : ℕ → ℕ → List ℕ = λ a b. get_or left ((a / 65536) % b) 0
    ∷ drawn m (remove left ((a / 65536) % b)) a in
    let same : step x' size ≡ step (next_draw x) (length left) =
    ap (λ a. step a size) follows ∙ ap (λ b. step (next_draw x) b) sized in
    let item : get_or left at 0 ≡ y = get_or_default left at 0 y within ∙ sym taken in
    drawn_more n k left x more ∙ sym same ∙ ap (λ v. v ∷ drawn m (remove left at) x') item
    ∙ ap (λ l. y ∷ drawn m l x') (sym rest)

pub length_places : (start n : ℕ) → length (numbers_from start n) ≡ n
length_places start zero = refl
length_places start (suc n) = ap suc (length_places (start + 1) n)

-- the turn is a place among those left
pub turn_within : (y size : ℕ) (left : List ℕ) → size ≡ length left → 0 < size
    → y % size < length left
turn_within y size left e some = let below : y % size < size = mod-lt y some in
    omega (arith, e, below)
