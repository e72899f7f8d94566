-- A run has at most two marks for each leaf and two more: each leaf begins once.
use Rattle.std.proofs.Common.{◌≡◌, ◌∙◌, ◌<◌, ◌≤◌, ◌+◌, ◌*◌, ℕ, suc, List, [], ◌∷◌, ◌++◌, length, count_by, Bool, true, false, cond, ◌&&◌, ◌||◌, ◌⊎◌, nat_eq, eqb, Option, Some, None, option_map, unwrap_or, inl, inr, append_assoc, append-nil, ap, sym, subst, refl, arith, if◌then◌else◌}
use Rattle.std.specs.List.{list_any, IsDistinct, AllByRecursion}
use Rattle.std.proofs.Math.Nat.{mul-le-mul_right}
use Rattle.std.proofs.lemmas.Bool.{eqb-true, and_parts, or_parts, not-true, false_from_ne_true, false≢true}
use Rattle.std.proofs.lemmas.List.Sums.{sum_by_push}
use Rattle.std.proofs.lemmas.Map.Steps.{length-le_from_distinct_below}
use Rattle.rb_marks.specs.View.{Branch, branches_of}
use Rattle.rb_marks.specs.Units.{Outline, is_node_first, node_units, step_units, units_of, unit_steps, steps_hold, is_of, begins_unit, unit_has_begun}
use Rattle.rb_marks.specs.Sound.{IsSound}
use Rattle.rb_marks.specs.First.{first_startable, is_barred, is_begin_of, opens, open_begin, MayFollow, LegalAfter, IsLegal, is_lost, stops, status_of}
use Rattle.rb_marks.specs.FlowState.{is_abort, reserve_for}
use Rattle.rb_marks.specs.declared.mark.Leaf.{Leaf}
use Rattle.rb_marks.specs.declared.mark.Mark.{Mark}
use Rattle.rb_marks.specs.declared.mark.Mark.TheVariants.{Begin, End, Abort, Lost, Withdraw}
use Rattle.rb_marks.specs.declared.mark.Status.{Status}
use Rattle.rb_marks.specs.declared.mark.Status.TheVariants.{Running, Incomplete}
use Rattle.rb_marks.specs.declared.units.WorkUnit.{WorkUnit}
use Rattle.rb_marks.proofs.Barring.{barred_not_opened, stays}
use Rattle.rb_marks.proofs.Counts.{any_here, any_left, any_more, count_cons, count_same, none_narrower}
use Rattle.rb_marks.proofs.Growing.{same_leaf_refl, withdraw_leaves_open}
use Rattle.rb_marks.proofs.Once.{first_not_begun, next_is_of}
use Rattle.rb_marks.proofs.Places.{step_place}
use Rattle.rb_marks.proofs.Reserve.{reserve_begin, reserve_end, reserve_abort, reserve_lost}
use Rattle.rb_marks.proofs.Waits.{Has, first_gives, first_goes_on}
use Rattle.rb_marks.proofs.Withdrawing.{bars_its_node}
use Rattle.rb_log.specs.Rows.{leaf_number, leaf_at}
use Rattle.rb_log.proofs.RowLaws.{leaf_is_kept}
use Rattle.rb_log.proofs.SlotLaws.{slots_are_bounded}

-- ---- a leaf that may start is one of the plan

unit_below : (step n : ℕ) (tiers : List ℕ) (u : WorkUnit) → Has (node_units step n tiers) u
    → u.node < n + length tiers
unit_below step n [] u h = absurd h
unit_below step n (t ∷ ts) u (inl e) =
    let same : n ≡ u.node = ap (λ v. v.node) e in omega (arith, same)
unit_below step n (t ∷ ts) u (inr h) =
    let r = unit_below step (n + 1) ts u h in omega (arith, r)

node_below : (whole : Bool) (tiers : List ℕ) (steps : List Branch) (u : WorkUnit)
    → Has (cond whole (node_units 0 0 tiers) (step_units tiers 0 steps)) u → u.node < length tiers
node_below true tiers steps u h = let r = unit_below 0 0 tiers u h in omega (arith, r)
node_below false tiers steps u h =
    let r = unit_below u.step 0 tiers u (step_place tiers 0 steps u h) in omega (arith, r)

pub first_below : (p : Outline) (marks : List Mark) (leaf : Leaf)
    → first_startable p marks ≡ Some leaf
    → leaf.node < length p.tiers
first_below p marks leaf h =
    let w = first_gives p (units_of p) marks (units_of p) leaf h in
    let of = and_parts (nat_eq leaf.node w.0.node)
    (steps_hold (branches_of (unit_steps p w.0)) leaf.slot)
    (next_is_of p marks w.0 leaf w.2.next) in
    let below = node_below (is_node_first p.strategy) p.tiers p.steps w.0 w.1 in
    let same : leaf.node ≡ w.0.node = eqb-true leaf.node w.0.node of.0 in
    omega (arith, below, same)

-- how many leaves a plan has
abbrev pub leaves_of : Outline → ℕ
leaves_of p = length p.tiers * p.slots

number_below : (node slot nodes slots : ℕ) → node < nodes → slot < slots
    → node * slots + slot < nodes * slots
number_below node slot nodes slots h k =
    let more : suc node * slots ≤ nodes * slots = mul-le-mul_right slots h in omega (arith, k, more)

-- ---- each leaf begins once, and a withdrawn node has one that never does

abbrev is_begin : Mark → Bool
is_begin (Begin leaf) = true
is_begin (End leaf ending) = false
is_begin Abort = false
is_begin Lost = false
is_begin (Withdraw node) = false

abbrev is_withdrawal : Mark → Bool
is_withdrawal (Begin leaf) = false
is_withdrawal (End leaf ending) = false
is_withdrawal Abort = false
is_withdrawal Lost = false
is_withdrawal (Withdraw node) = true

-- how many have begun, and how many nodes were withdrawn
abbrev pub begins : List Mark → ℕ
begins marks = count_by is_begin marks

abbrev pub withdrawals : List Mark → ℕ
withdrawals marks = count_by is_withdrawal marks

-- a unit of the leaf is barred, so that it never begins
record IsShut (p : Outline) (past : List Mark) (leaf : Leaf) : Type 0 where
  unit : WorkUnit
  has : Has (units_of p) unit
  of : is_of p unit leaf ≡ true
  barred : is_barred p (units_of p) past unit ≡ true

-- it has begun, or never does
abbrev IsSpent : Outline → List Mark → Leaf → Type 0
IsSpent p past leaf = (list_any (is_begin_of leaf) past ≡ true) ⊎ IsShut p past leaf

-- The numbers of leaves that are spent, once each, and each that of a leaf.
record AreSpent (p : Outline) (past : List Mark) (numbers : List ℕ) : Type 0 where
  distinct : IsDistinct eqb numbers
  below : (q : ℕ) → list_any (eqb q) numbers ≡ true → q < leaves_of p
  spent : (leaf : Leaf) → leaf.slot < p.slots
      → list_any (eqb (leaf_number p.slots leaf)) numbers ≡ true → IsSpent p past leaf

all_apart : (n : ℕ) (numbers : List ℕ) → list_any (eqb n) numbers ≡ false
    → AllByRecursion (λ m. eqb n m ≡ false) numbers
all_apart n [] h = tt
all_apart n (m ∷ ms) h = let k = or_parts (eqb n m) (list_any (eqb n) ms) h in
    (k.0, all_apart n ms k.1)

below_one : (b : Bool) (q n most : ℕ) (numbers : List ℕ) → eqb q n ≡ b → n < most
    → (list_any (eqb q) numbers ≡ true → q < most) → (b || list_any (eqb q) numbers) ≡ true
    → q < most
below_one true q n most numbers is h k e =
    let same : q ≡ n = eqb-true q n is in omega (arith, same, h)
below_one false q n most numbers is h k e = k e

-- two leaves of one number are one leaf
number_same : (slots : ℕ) (a b : Leaf) → a.slot < slots → b.slot < slots
    → eqb (leaf_number slots a) (leaf_number slots b) ≡ true → a ≡ b
number_same slots a b h k is =
    sym (leaf_is_kept slots a h)
    ∙ ap (leaf_at slots) (eqb-true (leaf_number slots a) (leaf_number slots b) is)
    ∙ leaf_is_kept slots b k

-- what is spent stays so
spent_more : (p : Outline) → IsSound p → (past : List Mark) (m : Mark) (leaf : Leaf)
    → MayFollow p past m → IsSpent p past leaf → IsSpent p (past ++ m ∷ []) leaf
spent_more p sound past m leaf f (inl begun) = inl (any_left (is_begin_of leaf) past m begun)
spent_more p sound past m leaf f (inr shut) = inr (record {
  unit = shut.unit;
  has = shut.has;
  of = shut.of;
  barred = stays p sound shut.unit shut.has past (m ∷ []) (f, tt) shut.barred;
})

-- and is not the leaf that may start
not_spent : (p : Outline) → IsSound p → (past : List Mark) (leaf : Leaf)
    → first_startable p past ≡ Some leaf → IsSpent p past leaf → ⊥
not_spent p sound past leaf first (inl begun) =
    false≢true (sym (first_not_begun p past leaf first) ∙ begun)
not_spent p sound past leaf first (inr shut) =
    let after = past ++ Begin leaf ∷ [] in
    let still = stays p sound shut.unit shut.has past (Begin leaf ∷ []) (first, tt) shut.barred in
    false≢true (sym (barred_not_opened p shut.unit after still)
    ∙ any_here (begins_unit p shut.unit) past (Begin leaf) shut.of)

one_or_more : (b : Bool) (q n : ℕ) (numbers : List ℕ) (P : Type 0) → eqb q n ≡ b
    → (b ≡ true → P) → (list_any (eqb q) numbers ≡ true → P)
    → (b || list_any (eqb q) numbers) ≡ true → P
one_or_more true q n numbers P is h k e = h refl
one_or_more false q n numbers P is h k e = k e

-- one more leaf: the one that may start, behind a mark by which it is spent
spent_one : (p : Outline) (past : List Mark) (numbers : List ℕ) (m : Mark) (leaf : Leaf)
    → IsSound p → MayFollow p past m → first_startable p past ≡ Some leaf
    → IsSpent p (past ++ m ∷ []) leaf → AreSpent p past numbers
    → AreSpent p (past ++ m ∷ []) (leaf_number p.slots leaf ∷ numbers)
unfolding IsDistinct
spent_one p past numbers m leaf sound f first is h =
    let n : ℕ = leaf_number p.slots leaf in
    let slot = slots_are_bounded p past leaf sound first in
    let fresh : list_any (eqb n) numbers ≡ false =
    false_from_ne_true (list_any (eqb n) numbers)
    (λ e. not_spent p sound past leaf first (h.spent leaf slot e)) in
    record {
      distinct = (all_apart n numbers fresh, h.distinct);
      below = λ q e. below_one (eqb q n) q n (leaves_of p) numbers refl
          (number_below leaf.node leaf.slot (length p.tiers) p.slots (first_below p past leaf first)
          slot) (h.below q) e;
      spent = λ other k e.
          one_or_more (eqb (leaf_number p.slots other) n) (leaf_number p.slots other) n numbers
          (IsSpent p (past ++ m ∷ []) other) refl
          (λ same. subst (IsSpent p (past ++ m ∷ []))
          (sym (number_same p.slots other leaf k slot same)) is)
          (λ old. spent_more p sound past m other f (h.spent other k old)) e;
    }

spent_other : (p : Outline) (past : List Mark) (numbers : List ℕ) (m : Mark) → IsSound p
    → MayFollow p past m → AreSpent p past numbers → AreSpent p (past ++ m ∷ []) numbers
spent_other p past numbers m sound f h = record {
  distinct = h.distinct;
  below = h.below;
  spent = λ leaf k e. spent_more p sound past m leaf f (h.spent leaf k e);
}

-- ---- the leaf that a withdrawal keeps from beginning

-- the leaf that might have started, which opens its unit
pub record WouldOpen (p : Outline) (past : List Mark) (node : ℕ) : Type 0 where
  pub leaf : Leaf
  pub first : first_startable p past ≡ Some leaf
  pub on_node : leaf.node ≡ node
  pub opens : opens p past leaf ≡ true

pub would_by : (p : Outline) (past : List Mark) (node : ℕ) (o : Option Leaf)
    → first_startable p past ≡ o
    → unwrap_or (option_map (λ leaf. nat_eq leaf.node node && opens p past leaf) o) false ≡ true
    → WouldOpen p past node
would_by p past node None is h = absurd (false≢true h)
would_by p past node (Some leaf) is h =
    let parts = and_parts (nat_eq leaf.node node) (opens p past leaf) h in
    record {
      leaf = leaf;
      first = is;
      on_node = eqb-true leaf.node node parts.0;
      opens = parts.1;
    }

none_has : {X : Type 0} (test : X → Bool) (xs : List X) (x : X) → Has xs x
    → list_any test xs ≡ false → test x ≡ false
none_has test [] x has e = absurd has
none_has test (y ∷ ys) x (inl same) e =
    ap test (sym same) ∙ (or_parts (test y) (list_any test ys) e).0
none_has test (y ∷ ys) x (inr later) e =
    none_has test ys x later (or_parts (test y) (list_any test ys) e).1

after_true : (a b : Bool) → a ≡ true → (a && b) ≡ false → b ≡ false
after_true true b h e = e
after_true false b h e = absurd (false≢true h)

shut_by : (p : Outline) (past : List Mark) (node : ℕ) (w : WouldOpen p past node)
    → IsShut p (past ++ Withdraw node ∷ []) w.leaf
shut_by p past node w =
    let v = first_gives p (units_of p) past (units_of p) w.leaf w.first in
    let of = next_is_of p past v.0 w.leaf v.2.next in
    let test : WorkUnit → Bool = λ u. is_of p u w.leaf && unit_has_begun p past u in
    let unopened = after_true (is_of p v.0 w.leaf) (unit_has_begun p past v.0) of
    (none_has test (units_of p) v.0 v.1 (not-true (list_any test (units_of p)) w.opens)) in
    let unit_node : v.0.node ≡ node =
    sym (eqb-true w.leaf.node v.0.node
    (and_parts (nat_eq w.leaf.node v.0.node)
    (steps_hold (branches_of (unit_steps p v.0)) w.leaf.slot) of).0) ∙ w.on_node in
    record {
      unit = v.0;
      has = v.1;
      of = of;
      barred = subst (λ n. is_barred p (units_of p) (past ++ Withdraw n ∷ []) v.0 ≡ true) unit_node
          (bars_its_node p past v.0 unopened);
    }

spent_few : (p : Outline) (past ms : List Mark) (numbers : List ℕ) → IsSound p
    → LegalAfter p past ms → AreSpent p past numbers
    → begins ms + withdrawals ms + length numbers ≤ leaves_of p
spent_few p past [] numbers sound l h =
    let few = length-le_from_distinct_below numbers (leaves_of p) h.distinct h.below in
    omega (arith, few)
spent_few p past (Begin leaf ∷ ms) numbers sound l h =
    let k = spent_few p (past ++ Begin leaf ∷ []) ms (leaf_number p.slots leaf ∷ numbers) sound l.1
    (spent_one p past numbers (Begin leaf) leaf sound l.0 l.0
    (inl (any_here (is_begin_of leaf) past (Begin leaf) (same_leaf_refl leaf))) h) in
    omega (arith, k, count_cons is_begin (Begin leaf) ms, count_cons is_withdrawal (Begin leaf) ms)
spent_few p past (End leaf ending ∷ ms) numbers sound l h =
    let k = spent_few p (past ++ End leaf ending ∷ []) ms numbers sound l.1
    (spent_other p past numbers (End leaf ending) sound l.0 h) in
    omega (
      arith,
      k,
      count_cons is_begin (End leaf ending) ms,
      count_cons is_withdrawal (End leaf ending) ms,
    )
spent_few p past (Abort ∷ ms) numbers sound l h =
    let k = spent_few p (past ++ Abort ∷ []) ms numbers sound l.1
    (spent_other p past numbers Abort sound l.0 h) in
    omega (arith, k, count_cons is_begin Abort ms, count_cons is_withdrawal Abort ms)
spent_few p past (Lost ∷ ms) numbers sound l h =
    let k = spent_few p (past ++ Lost ∷ []) ms numbers sound l.1
    (spent_other p past numbers Lost sound l.0 h) in
    omega (arith, k, count_cons is_begin Lost ms, count_cons is_withdrawal Lost ms)
spent_few p past (Withdraw node ∷ ms) numbers sound l h =
    let w = would_by p past node (first_startable p past) refl l.0 in
    let k = spent_few p (past ++ Withdraw node ∷ []) ms (leaf_number p.slots w.leaf ∷ numbers) sound
    l.1 (spent_one p past numbers (Withdraw node) w.leaf sound l.0 w.first
    (inr (shut_by p past node w)) h) in
    omega (
      arith,
      k,
      count_cons is_begin (Withdraw node) ms,
      count_cons is_withdrawal (Withdraw node) ms,
    )

none_spent : (p : Outline) → AreSpent p [] []
unfolding IsDistinct
none_spent p = record {
  distinct = tt;
  below = λ q e. absurd (false≢true e);
  spent = λ leaf k e. absurd (false≢true e);
}

pub few_begins : (p : Outline) (ms : List Mark) → IsSound p → IsLegal p ms
    → begins ms + withdrawals ms ≤ leaves_of p
few_begins p ms sound l =
    let k = spent_few p [] ms [] sound l (none_spent p) in omega (arith, k)

-- ---- and ends at most once, and is stopped at most twice

pub push_begin : (past : List Mark) (m : Mark)
    → begins (past ++ m ∷ []) ≡ begins past + cond (is_begin m) 1 0
push_begin past m = sum_by_push (λ x. cond (is_begin x) 1 0) past m

push_withdrawal : (past : List Mark) (m : Mark)
    → withdrawals (past ++ m ∷ []) ≡ withdrawals past + cond (is_withdrawal m) 1 0
push_withdrawal past m = sum_by_push (λ x. cond (is_withdrawal x) 1 0) past m

pub length_push : (past : List Mark) (m : Mark) → length (past ++ m ∷ []) ≡ length past + 1
length_push [] m = refl
length_push (x ∷ past) m = let h = length_push past m in omega (arith, h)

-- the places in reserve for what is no withdrawal
abbrev reserve : List Mark → ℕ
reserve past = reserve_for [] past

abbrev Keeps : List Mark → Type 0
Keeps past = length past + reserve past ≤ 2 * begins past + withdrawals past + 2

-- a withdrawal leaves them
reserve_stays : (past : List Mark) (node : ℕ) → reserve (past ++ Withdraw node ∷ []) ≡ reserve past
reserve_stays past node =
    let more = past ++ Withdraw node ∷ [] in
    let opened = count_same (open_begin more) (open_begin past) (withdraw_leaves_open past node)
    past in
    let pushed = sum_by_push (λ x. cond (open_begin more x) 1 0) past (Withdraw node) in
    rw (any_more is_abort past (Withdraw node) refl, any_more is_lost past (Withdraw node) refl)
    (omega (arith, opened, pushed))

pub lost_stops : (m : Mark) → is_lost m ≡ true → stops m ≡ true
lost_stops (Begin leaf) h = h
lost_stops (End leaf ending) h = h
lost_stops Abort h = refl
lost_stops Lost h = refl
lost_stops (Withdraw node) h = h

if_running : (b : Bool) (other : Status) → (if b then Incomplete else other) ≡ Running → b ≡ false
if_running true other h = absurd (grind (arith, h))
if_running false other h = refl

not_lost : (p : Outline) (past : List Mark) → status_of p past ≡ Running
    → list_any is_lost past ≡ false
not_lost p past h = if_running (list_any is_lost past) _ h

keeps_more : (p : Outline) (past : List Mark) (m : Mark) → MayFollow p past m → Keeps past
    → Keeps (past ++ m ∷ [])
keeps_more p past (Begin leaf) f h =
    omega (
      arith,
      h,
      reserve_begin [] past leaf,
      push_begin past (Begin leaf),
      push_withdrawal past (Begin leaf),
      length_push past (Begin leaf),
    )
keeps_more p past (End leaf ending) f h =
    omega (
      arith,
      h,
      reserve_end [] past leaf ending f.0,
      push_begin past (End leaf ending),
      push_withdrawal past (End leaf ending),
      length_push past (End leaf ending),
    )
keeps_more p past Abort f h =
    omega (
      arith,
      h,
      reserve_abort [] past f.1,
      push_begin past Abort,
      push_withdrawal past Abort,
      length_push past Abort,
    )
keeps_more p past Lost f h =
    omega (
      arith,
      h,
      reserve_lost [] past (not_lost p past f),
      push_begin past Lost,
      push_withdrawal past Lost,
      length_push past Lost,
    )
keeps_more p past (Withdraw node) f h =
    omega (
      arith,
      h,
      reserve_stays past node,
      push_begin past (Withdraw node),
      push_withdrawal past (Withdraw node),
      length_push past (Withdraw node),
    )

keeps_after : (p : Outline) (past ms : List Mark) → LegalAfter p past ms → Keeps past
    → Keeps (past ++ ms)
keeps_after p past [] l h = subst Keeps (sym (append-nil past)) h
keeps_after p past (m ∷ ms) l h =
    subst Keeps (append_assoc past (m ∷ []) ms)
    (keeps_after p (past ++ m ∷ []) ms l.1 (keeps_more p past m l.0 h))

keeps : (p : Outline) (ms : List Mark) → IsLegal p ms → Keeps ms
keeps p ms l = keeps_after p [] ms l (lit_keeps)
  where
    lit_keeps : Keeps []
    lit_keeps = omega arith

-- ---- so there is room for one more mark that may come

abort_stops : (m : Mark) → is_abort m ≡ true → stops m ≡ true
abort_stops (Begin leaf) h = h
abort_stops (End leaf ending) h = h
abort_stops Abort h = refl
abort_stops Lost h = refl
abort_stops (Withdraw node) h = h

counted : (a l : Bool) (n : ℕ) → a ≡ false → l ≡ false
    → 2 ≤ (if a then 0 else 1) + (if l then 0 else 1) + 0 + n
counted true l n h k = absurd (grind (arith, h))
counted false true n h k = absurd (grind (arith, k))
counted false false n h k = omega arith

counted_one : (a l : Bool) (n : ℕ) → l ≡ false
    → 1 ≤ (if a then 0 else 1) + (if l then 0 else 1) + 0 + n
counted_one a true n k = absurd (grind (arith, k))
counted_one true false n k = omega arith
counted_one false false n k = omega arith

two_left : (ms : List Mark) → list_any stops ms ≡ false → 2 ≤ reserve ms
two_left ms h =
    counted (list_any is_abort ms) (list_any is_lost ms) _
    (none_narrower is_abort stops abort_stops ms h)
    (none_narrower is_lost stops lost_stops ms h)

one_left : (ms : List Mark) → list_any is_lost ms ≡ false → 1 ≤ reserve ms
one_left ms h = counted_one (list_any is_abort ms) (list_any is_lost ms) _ h

-- a mark that is no loss may come where two for each leaf are not there yet
pub room_for : (p : Outline) (ms : List Mark) (m : Mark) → IsSound p → IsLegal p ms
    → MayFollow p ms m → is_lost m ≡ false → length ms + 1 ≤ 2 * leaves_of p + 1
room_for p ms (Begin leaf) sound l f h =
    let few = few_begins p ms sound l in
    let two = two_left ms (first_goes_on p ms leaf f) in
    omega (arith, few, two, keeps p ms l)
room_for p ms (End leaf ending) sound l f h =
    let few = few_begins p ms sound l in
    let more = one_left (ms ++ End leaf ending ∷ [])
    (any_more is_lost ms (End leaf ending) refl ∙ f.1) in
    omega (arith, few, more, reserve_end [] ms leaf ending f.0, keeps p ms l)
room_for p ms Abort sound l f h =
    let few = few_begins p ms sound l in
    let two = two_left ms f.1 in
    omega (arith, few, two, keeps p ms l)
room_for p ms Lost sound l f h = absurd (grind (arith, h))
room_for p ms (Withdraw node) sound l f h =
    let w = would_by p ms node (first_startable p ms) refl f in
    let few = few_begins p ms sound l in
    let two = two_left ms (first_goes_on p ms w.leaf w.first) in
    omega (arith, few, two, keeps p ms l)
