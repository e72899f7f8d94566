-- Readings in which nothing is wrong, so that each look found nothing.
use Rattle.std.proofs.Common.{◌≡◌, ℕ, Bool, true, false, cond, nat_eq, List, Option, Some, None, Result, Ok, Err, refl}
use Rattle.rb_causes.specs.Texts.{has_text}
use Rattle.rb_yaml.specs.Faults.{LineFlaw, LineFault, either, fault_with, beside, flaw_or}
use Rattle.rb_yaml.specs.Rows.{Row, is_tabbed, tab_flaw}
use Rattle.rb_yaml.specs.Line.{indent_flaw, place_flaw}
use Rattle.rb_yaml.specs.Entries.{new_key_flaw}

pub none_if : {E : Type 0} (t : Bool) (x : E) → cond t (Some x) None ≡ None → t ≡ false
none_if true x h = absurd (cc)
none_if false x h = refl

pub none_unless : {E : Type 0} (t : Bool) (x : E) → cond t None (Some x) ≡ None → t ≡ true
none_unless true x h = refl
none_unless false x h = absurd (cc)

pub either_none : (a b : Option LineFlaw) → either a b ≡ None → (a ≡ None) × (b ≡ None)
either_none None b h = (refl, h)
either_none (Some x) b h = absurd (cc)

pub flaw_none : {A : Type 0} (o : Option LineFlaw) (line : ℕ) (read : Result A LineFault) (v : A) →
    flaw_or o line read ≡ Ok v → (o ≡ None) × (read ≡ Ok v)
flaw_none None line read v h = (refl, h)
flaw_none (Some x) line read v h = absurd (cc)

pub with_none : (line : ℕ) (o : Option LineFlaw) → fault_with line o ≡ None → o ≡ None
with_none line None h = refl
with_none line (Some x) h = absurd (cc)

pub beside_none : {A : Type 0} (line : ℕ) (o : Option LineFlaw) (read : Result A LineFault) (v : A) →
    beside (fault_with line o) read ≡ Ok v → (o ≡ None) × (read ≡ Ok v)
beside_none line None read v h = (refl, h)
beside_none line (Some x) read v h = absurd (cc)

pub place_none : (column : ℕ) (row : Row) → place_flaw column row ≡ None →
    (is_tabbed row ≡ false) × (nat_eq row.indent column ≡ true)
place_none column row h =
    let two = either_none (tab_flaw row) (indent_flaw column row) h in
    (none_if (is_tabbed row) _ two.0, none_unless (nat_eq row.indent column) _ two.1)

-- a key in which nothing is wrong
pub record NewKey (seen : List (List ℕ)) (read : Result (List ℕ) LineFlaw) : Type 0 where
  pub key : List ℕ
  pub is : read ≡ Ok key
  pub fresh : has_text seen key ≡ false

pub new_key_none : (seen : List (List ℕ)) (read : Result (List ℕ) LineFlaw) →
    new_key_flaw seen read ≡ None → NewKey seen read
new_key_none seen (Ok key) h = record { key = key; is = refl; fresh = none_if (has_text seen key) _ h }
new_key_none seen (Err flaw) h = absurd (cc)
