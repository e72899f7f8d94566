-- Readings one after the other.
use Rattle.std.proofs.Common.{◌≡◌, Option, Some, None, Result, Ok, Err, refl, ap, ◌∙◌}
use Rattle.rb_yaml.specs.Faults.{◌>>=◌}

pub record Bound {A B E : Type 0} (read : Result A E) (f : A → Result B E) (y : B) : Type 0 where
  pub x : A
  pub first : read ≡ Ok x
  pub then_ : f x ≡ Ok y

-- what a chain of two readings gives, each gives
pub bound : {A B E : Type 0} (read : Result A E) (f : A → Result B E) (y : B) → (read >>= f) ≡ Ok y → Bound read f y
bound (Ok x) f y e = record { x = x; first = refl; then_ = e }
bound (Err g) f y e = absurd (cc)

pub bind : {A B E : Type 0} (read : Result A E) (f : A → Result B E) (x : A) (y : B) → read ≡ Ok x → f x ≡ Ok y → (read >>= f) ≡ Ok y
bind read f x y h k = ap (λ r. r >>= f) h ∙ k

-- a reading that only goes on where nothing is found
pub only_none : {E A F : Type 0} (run : Option E → Result A F) (o : Option E) (v : A) → ((x : E) → run (Some x) ≡ Ok v → ⊥) → run o ≡ Ok v → (o ≡ None) × (run None ≡ Ok v)
only_none run None v never e = (refl, e)
only_none run (Some x) v never e = absurd (never x e)
