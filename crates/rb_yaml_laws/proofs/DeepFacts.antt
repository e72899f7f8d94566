-- Rows that are too deep: the fuel never runs out.
use Rattle.std.proofs.Common.{unwrap_or, ◌≡◌, ◌≤◌, ◌<◌, ℕ, zero, suc, Bool, true, false, List, [], ◌∷◌, length, drop, refl, ap, length-drop, arith}
use Rattle.rb_yaml.specs.Faults.{LineFault}
use Rattle.rb_yaml.specs.Rows.{Row}
use Rattle.rb_yaml.specs.Signs.{begins_item}
use Rattle.rb_yaml.specs.Line.{behind_item}
use Rattle.rb_yaml.specs.Deep.{deep_turn, deep_turns}
use Rattle.rb_yaml_laws.proofs.BlankFacts.{past_le}

some_text : (text : List ℕ) → begins_item text ≡ true → 1 ≤ length text
some_text [] h = absurd (cc)
some_text (b ∷ bs) h = omega arith

-- behind the sign of an item less is left
pub behind_shorter : (row : Row) → begins_item row.text ≡ true → length (behind_item row).text < length row.text
behind_shorter row h =
    let some = some_text row.text h in
    let n = length-drop 1 row.text in
    let p = past_le (drop 1 row.text) in
    omega (arith, some, n, p)

deep_one : (t : Bool) (a b : LineFault) (f g : ℕ) (row : Row) (rows : List Row) → begins_item row.text ≡ t →
    (t ≡ true → deep_turns a f (behind_item row) rows ≡ deep_turns b g (behind_item row) rows) →
    unwrap_or (deep_turn row rows) (deep_turns a f (behind_item row) rows) ≡ unwrap_or (deep_turn row rows) (deep_turns b g (behind_item row) rows)
deep_one true a b f g row rows h same = ap (unwrap_or (deep_turn row rows)) (same refl)
deep_one false a b f g row rows h same = rw h refl

-- any two fuels over the length of the row give the same fault, whatever is answered without fuel
pub deep_fuel : (a b : LineFault) (f g : ℕ) (row : Row) (rows : List Row) → length row.text < f → length row.text < g →
    deep_turns a f row rows ≡ deep_turns b g row rows
unfolding deep_turns
deep_fuel a b zero g row rows l m = absurd (omega (arith, l))
deep_fuel a b (suc f) zero row rows l m = absurd (omega (arith, m))
deep_fuel a b (suc f) (suc g) row rows l m =
    deep_one (begins_item row.text) a b f g row rows refl (λ h. deep_fuel a b f g (behind_item row) rows (less f h l) (less g h m))
  where
    less : (n : ℕ) → begins_item row.text ≡ true → length row.text < suc n → length (behind_item row).text < n
    less n h k = let s = behind_shorter row h in omega (arith, s, k)
