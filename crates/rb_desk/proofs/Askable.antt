-- `can_ask` holds exactly where a call may be made.
use Rattle.std.proofs.Common.{◌≡◌, ◌∙◌, ℕ, zero, suc, ◌<◌, ℤ, pos, int_le, List, [], ◌∷◌, length, Bool, true, false, T, nat_eq, nat_lt, ap, refl, sym, subst, arith}
use Rattle.std.specs.Prelude.{Contains, slice_index_or}
use Rattle.std.specs.List.{list_any}
use Rattle.std.proofs.lemmas.Map.Views.{Contains-from_any}
use Rattle.std.proofs.lemmas.Bool.{and_parts, and_from, or_right, eqb-true, or_left, lt-ltb}
use Rattle.rb_causes.specs.Moments.{IsMoment}
use Rattle.rb_log.specs.Legal.{MayAsk, rights_of}
use Rattle.rb_log.specs.LogState.{LogState}
use Rattle.rb_log.specs.Sums.{numbers_below, same_open}
use Rattle.rb_log.specs.declared.call.Call.{Call}
use Rattle.rb_log.specs.declared.call.Call.TheVariants as call
use Rattle.rb_log.specs.declared.task.OpenLeaf.{OpenLeaf}
use Rattle.rb_log.proofs.Numbers.{below_length, below_at}
use Rattle.rb_marks.specs.Results.{same_leaf}
use Rattle.rb_marks.specs.declared.mark.Leaf.{Leaf}
use Rattle.rb_desk.specs.MayAsk.{is_moment, is_same_claim, can_ask}
use Rattle.rb_desk.proofs.Stepping.{same_number}

-- ---- moments

holds : (b : Bool) → b ≡ true → T b
holds true h = tt
holds false h = absurd (grind (arith, h))

held : (b : Bool) → T b → b ≡ true
held true h = refl
held false h = absurd h

pub moment_is : (at : ℤ) → is_moment at ≡ true → IsMoment at
moment_is at h = (
  record { le = holds (int_le (pos 0) at) ((and_parts (int_le (pos 0) at) _ h).0) },
  record { le = holds (int_le at (pos 7258118399)) ((and_parts (int_le (pos 0) at) _ h).1) },
)

pub is_moment_too : (at : ℤ) → IsMoment at → is_moment at ≡ true
is_moment_too at h =
    and_from (int_le (pos 0) at) (int_le at (pos 7258118399)) (held (int_le (pos 0) at) h.0.le)
    (held (int_le at (pos 7258118399)) h.1.le)

-- ---- members

member : {A : Type 0} (p : A → Bool) (x : A) (xs : List A) (k : ℕ) → k < length xs
    → slice_index_or xs k x ≡ x → p x ≡ true → list_any p xs ≡ true
member p x [] k low is h = absurd (omega (arith, low))
member p x (y ∷ ys) zero low is h = or_left (p y) (list_any p ys) (ap p is ∙ h)
member p x (y ∷ ys) (suc k) low is h =
    or_right (p y) (list_any p ys) (member p x ys k (omega (arith, low)) is h)

-- what is among them is found
pub any_has : {A : Type 0} (eq : A → A → Bool) → ((x : A) → eq x x ≡ true) → (x : A) (xs : List A)
    → Contains xs x → list_any (eq x) xs ≡ true
any_has eq same x xs h = member (eq x) x xs h.0 h.1 h.2 (same x)

abbrev leaf_of : ℕ → ℕ → Leaf
leaf_of n s = record { node = n; slot = s }

abbrev claim_of : ℕ → Leaf → ℕ → OpenLeaf
claim_of n leaf w = record { execution = n; leaf = leaf; worker = w }

same_leaf_is : (n m s t : ℕ) → n ≡ m → s ≡ t → leaf_of n s ≡ leaf_of m t
same_leaf_is n m s t e f = rw (e, f) refl

same_claim_is : (a b : ℕ) (l m : Leaf) (w v : ℕ) → a ≡ b → l ≡ m → w ≡ v
    → claim_of a l w ≡ claim_of b m v
same_claim_is a b l m w v e f g = rw (e, f, g) refl

same_claim : (x y : OpenLeaf) → is_same_claim x y ≡ true → x ≡ y
same_claim x y h =
    let lower : same_open x y ≡ true = (and_parts (same_open x y) _ h).0 in
    let leaf : same_leaf x.leaf y.leaf ≡ true = (and_parts (nat_eq x.execution y.execution) _ lower).1 in
    same_claim_is x.execution y.execution x.leaf y.leaf x.worker y.worker
    (eqb-true _ _ ((and_parts (nat_eq x.execution y.execution) _ lower).0))
    (same_leaf_is x.leaf.node y.leaf.node x.leaf.slot y.leaf.slot
    (eqb-true _ _ ((and_parts (nat_eq x.leaf.node y.leaf.node) _ leaf).0))
    (eqb-true _ _ ((and_parts (nat_eq x.leaf.node y.leaf.node) _ leaf).1)))
    (eqb-true _ _ ((and_parts (same_open x y) _ h).1))

own_claim : (x : OpenLeaf) → is_same_claim x x ≡ true
own_claim x =
    and_from (same_open x x) (nat_eq x.worker x.worker)
    (and_from (nat_eq x.execution x.execution) _ (same_number x.execution)
    (and_from (nat_eq x.leaf.node x.leaf.node) _ (same_number x.leaf.node) (same_number x.leaf.slot)))
    (same_number x.worker)

-- ---- the numbers of workers

pub worker_is : (n w : ℕ) → nat_lt w n ≡ true → Contains (numbers_below n) w
worker_is n w h =
    let low : w < n = grind (arith, h) in
    (w, omega (arith, below_length n, low), below_at n w w low)

pub is_worker : (n w : ℕ) → Contains (numbers_below n) w → nat_lt w n ≡ true
is_worker n w h =
    let low : h.0 < n = omega (arith, below_length n, h.1) in
    let e : h.0 ≡ w = sym (below_at n h.0 w low) ∙ h.2 in
    lt-ltb w n (subst (λ k. k < n) e low)

-- ---- calls

pub may : (s : LogState) (c : Call) → can_ask s c ≡ true → MayAsk (rights_of s) c
may s (call.ImportZone name rule at) h = moment_is at h
may s (call.ImportNodes project body at) h = moment_is at h
may s (call.ImportPolicy caller checked name body at) h =
    (moment_is at ((and_parts (is_moment at) _ h).0), (and_parts (is_moment at) _ h).1)
may s (call.ImportJobs caller checked project body at) h =
    (moment_is at ((and_parts (is_moment at) _ h).0), (and_parts (is_moment at) _ h).1)
may s (call.Run caller ask at) h =
    (moment_is at ((and_parts (is_moment at) _ h).0), (and_parts (is_moment at) _ h).1)
may s (call.Abort caller execution at) h =
    (moment_is at ((and_parts (is_moment at) _ h).0), (and_parts (is_moment at) _ h).1)
may s (call.Tick at) h = moment_is at h
may s (call.Claim worker at) h = (
  moment_is at ((and_parts (is_moment at) _ h).0),
  worker_is s.workers worker ((and_parts (is_moment at) _ h).1),
)
may s (call.Report done at) h = (
  moment_is at ((and_parts (is_moment at) _ h).0),
  Contains-from_any same_claim done.claimed s.leaves ((and_parts (is_moment at) _ h).1),
)
may s (call.CloseDoor door at) h = (
  moment_is at ((and_parts (is_moment at) _ h).0),
  Contains-from_any eqb-true door s.doors ((and_parts (is_moment at) _ h).1),
)
may s (call.Look caller look) h = h
may s call.Save h = tt

pub only : (s : LogState) (c : Call) → MayAsk (rights_of s) c → can_ask s c ≡ true
only s (call.ImportZone name rule at) h = is_moment_too at h
only s (call.ImportNodes project body at) h = is_moment_too at h
only s (call.ImportPolicy caller checked name body at) h =
    and_from (is_moment at) _ (is_moment_too at h.0) h.1
only s (call.ImportJobs caller checked project body at) h =
    and_from (is_moment at) _ (is_moment_too at h.0) h.1
only s (call.Run caller ask at) h = and_from (is_moment at) _ (is_moment_too at h.0) h.1
only s (call.Abort caller execution at) h =
    and_from (is_moment at) _ (is_moment_too at h.0) h.1
only s (call.Tick at) h = is_moment_too at h
only s (call.Claim worker at) h =
    and_from (is_moment at) _ (is_moment_too at h.0) (is_worker s.workers worker h.1)
only s (call.Report done at) h =
    and_from (is_moment at) _ (is_moment_too at h.0)
    (any_has is_same_claim own_claim done.claimed s.leaves h.1)
only s (call.CloseDoor door at) h =
    and_from (is_moment at) _ (is_moment_too at h.0) (any_has nat_eq same_number door s.doors h.1)
only s (call.Look caller look) h = h
only s call.Save h = refl
