-- A reading of rows beside the reading of those before a line: the steps of which both are made.
use Rattle.std.proofs.Common.{◌≡◌, ◌⊎◌, inl, inr, ◌≤◌, ◌<◌, ℕ, Bool, true, false, cond, nat_eq, nat_lt, ◌&&◌, ◌||◌, List, [], ◌∷◌, ◌++◌, Option, Some, None, Result, Ok, Err, refl, sym, ap, ◌∙◌, append_assoc, arith}
use Rattle.std.proofs.lemmas.Bool.Decides.{nat_tests}
use Rattle.rb_yaml.specs.Faults.{LineFlaw, LineFault, ◌>>=◌, rank, goes_before, earlier, fault_at, fault_with, sooner_fault, beside, flaw_or}
use Rattle.rb_yaml.specs.Rows.{Row}
use Rattle.rb_yaml_laws.specs.Open.{OpenFrom, HasOpenQuote}

-- the reading tells no fault before this line
abbrev pub Reaches : {A : Type 0} → ℕ → Result A LineFault → Type 0
Reaches L (Ok v) = Unit {0}
Reaches L (Err f) = L ≤ f.line

-- there is a value, or else so it is
abbrev pub Goes : {A : Type 0} → Result A LineFault → Type 0 → Type 0
Goes (Ok v) else_ = Unit {0}
Goes (Err f) else_ = else_

abbrev pub Before : ℕ → Row → Type 0
Before L row = row.number < L

abbrev pub From : ℕ → Row → Type 0
From L row = L ≤ row.number

-- a quote in the text or on one of the rows stays open, and rows are left that may close it
abbrev pub Open : List ℕ → List Row → List Row → Type 0
Open text front back = (OpenFrom text front ⊎ HasOpenQuote front) × (back ≡ [] → ⊥)

abbrev pub OpenIn : List Row → List Row → Type 0
OpenIn front back = HasOpenQuote front × (back ≡ [] → ⊥)

pub goes_weak : {A : Type 0} (O P : Type 0) (r : Result A LineFault) → (O → P) → Goes r O → Goes r P
goes_weak O P (Ok v) f h = tt
goes_weak O P (Err e) f h = f h

pub sure : {A : Type 0} (O : Type 0) (r : Result A LineFault) → Goes r ⊥ → Goes r O
sure O (Ok v) h = tt
sure O (Err e) h = absurd h

pub reaches_first : {A B : Type 0} (L : ℕ) (r : Result A LineFault) (f : A → Result B LineFault) → Reaches L (r >>= f) → Reaches L r
reaches_first L (Ok x) f h = tt
reaches_first L (Err e) f h = h

pub by_if : {A : Type 0} (O : Type 0) (L : ℕ) (t : Bool) (a b c d : Result A LineFault) → (t ≡ true → Reaches L a → Goes c O) → (t ≡ false → Reaches L b → Goes d O) →
    Reaches L (cond t a b) → Goes (cond t c d) O
by_if O L true a b c d f g h = f refl h
by_if O L false a b c d f g h = g refl h

pub by_flaw : {A : Type 0} (O : Type 0) (L : ℕ) (o : Option LineFlaw) (n : ℕ) (a b : Result A LineFault) → n < L → (o ≡ None → Reaches L a → Goes b O) →
    Reaches L (flaw_or o n a) → Goes (flaw_or o n b) O
by_flaw O L None n a b l f h = f refl h
by_flaw O L (Some x) n a b l f h = absurd (omega (arith, l, h))

-- ---- the first of two faults

line_by : (t : Bool) (f g : LineFault) → nat_lt g.line f.line || nat_eq g.line f.line && t ≡ true → g.line ≤ f.line
line_by t f g h = grind (arith, nat_tests)

line_not : (t : Bool) (f g : LineFault) → (nat_lt g.line f.line || nat_eq g.line f.line && t) ≡ false → f.line ≤ g.line
line_not t f g h = grind (arith, nat_tests)

earlier_by : (t : Bool) (f g : LineFault) → goes_before g f ≡ t → ((earlier f g).line ≤ f.line) × ((earlier f g).line ≤ g.line)
earlier_by true f g h = rw h (line_by (nat_lt (rank g.flaw) (rank f.flaw)) f g h, omega arith)
earlier_by false f g h = rw h (omega arith, line_not (nat_lt (rank g.flaw) (rank f.flaw)) f g h)

pub earlier_le : (f g : LineFault) → ((earlier f g).line ≤ f.line) × ((earlier f g).line ≤ g.line)
earlier_le f g = earlier_by (goes_before g f) f g refl

pub first_le : {A : Type 0} (f : LineFault) (r : Result A LineFault) → (sooner_fault f r).line ≤ f.line
first_le f (Ok x) = omega arith
first_le f (Err g) = (earlier_le f g).0

pub by_beside : {A : Type 0} (O : Type 0) (L : ℕ) (o : Option LineFlaw) (n : ℕ) (a b : Result A LineFault) → n < L → (o ≡ None → Reaches L a → Goes b O) →
    Reaches L (beside (fault_with n o) a) → Goes (beside (fault_with n o) b) O
by_beside O L None n a b l f h = f refl h
by_beside O L (Some x) n a b l f h = let e = first_le (fault_at n x) a in absurd (omega (arith, l, h, e))

-- one reading, and then what always gives a value
pub by_last : {A B : Type 0} (O : Type 0) (L : ℕ) (a : Result A LineFault) (b : Result B LineFault) {C D : Type 0} (f : A → Result C LineFault) (g : B → Result D LineFault) →
    (Reaches L a → Goes b O) → ((y : B) → Goes (g y) O) → Reaches L (a >>= f) → Goes (b >>= g) O
by_last O L a (Ok y) f g h k r = k y
by_last O L a (Err e) f g h k r = h (reaches_first L a f r)

-- the same reading, and then two
pub by_same : {A C D : Type 0} (O : Type 0) (L : ℕ) (a : Result A LineFault) (f : A → Result C LineFault) (g : A → Result D LineFault) →
    (Reaches L a → Goes a ⊥) → ((y : A) → Reaches L (f y) → Goes (g y) O) → Reaches L (a >>= f) → Goes (a >>= g) O
by_same O L (Ok y) f g h k r = k y r
by_same O L (Err e) f g h k r = absurd (h r)

-- ---- where a quote stays open

pub open_suffix : (front tail text : List ℕ) (rows : List Row) → text ≡ front ++ tail → OpenFrom tail rows → OpenFrom text rows
open_suffix front tail text rows e q = record {
  front = front ++ q.front;
  inside = q.inside;
  said = q.said;
  is = e ∙ ap (λ xs. front ++ xs) q.is ∙ sym (append_assoc front q.front (39 ∷ q.inside));
  unclosed = q.unclosed;
  behind = q.behind;
}

pub open_further : (front tail text : List ℕ) (rows back : List Row) → text ≡ front ++ tail → Open tail rows back → Open text rows back
open_further front tail text rows back e (inl q, l) = (inl (open_suffix front tail text rows e q), l)
open_further front tail text rows back e (inr q, l) = (inr q, l)

pub open_on : (before : List Row) (head : Row) (behind rows : List Row) → rows ≡ before ++ head ∷ behind → OpenFrom head.text behind ⊎ HasOpenQuote behind → HasOpenQuote rows
open_on before head behind rows e (inl q) = record { before = before; head = head; behind = behind; all = e; quote = q }
open_on before head behind rows e (inr q) = record {
  before = before ++ head ∷ q.before;
  head = q.head;
  behind = q.behind;
  all = e ∙ ap (λ xs. before ++ head ∷ xs) q.all ∙ sym (append_assoc before (head ∷ q.before) (q.head ∷ q.behind));
  quote = q.quote;
}

pub open_in : (before : List Row) (head : Row) (behind rows back : List Row) → rows ≡ before ++ head ∷ behind → Open head.text behind back → OpenIn rows back
open_in before head behind rows back e (q, l) = (open_on before head behind rows e q, l)

pub open_behind : (text : List ℕ) (rows back : List Row) → OpenIn rows back → Open text rows back
open_behind text rows back (q, l) = (inr q, l)

-- rows that are left, of which some come before others
pub open_back : {Q : Type 0} (less back : List Row) → (back ≡ [] → less ≡ []) → Q × (less ≡ [] → ⊥) → Q × (back ≡ [] → ⊥)
open_back less back f (q, l) = (q, λ e. l (f e))
