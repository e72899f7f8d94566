-- Where the unit of a leaf stands, and what a mark makes of the table of the leaves.
use Rattle.std.proofs.Common.{◌≡◌, ℕ, ◌+◌, ◌*◌, ◌<◌, ◌≤◌, Bool, true, false, ◌||◌, inl, inr, nat_eq, zero, suc, Some, None, cond, if◌then◌else◌, List, [], ◌∷◌, ◌++◌, take, drop, length, get_or, set, add-one, sym, ap, ◌∙◌, subst, arith, refl}
use Rattle.std.specs.List.{list_any}
use Rattle.std.proofs.Math.Path.{fun_ext}
use Rattle.std.proofs.lemmas.Bool.{and_parts, or_cases, or_left, eqb-true, cases_Bool, cases_lt, false≢true, both_ways, and_from, eq-eqb}
use Rattle.std.proofs.lemmas.List.{get_or-take, get_or-drop, get_or_past, get_or_append_left, get_or-append-add, get_or-set_same, get_or-set_other, length-append, length-set, length-take}
use Rattle.std.proofs.lemmas.Nat.{mul-add-lt, same_from_place}
use Rattle.rb_causes.specs.declared.ending.Ending.{Ending}
use Rattle.rb_marks.specs.View.{Branch, branches_of}
use Rattle.rb_marks.specs.Results.{of_ending, same_leaf, result_of_mark, leaf_result, slot_result}
use Rattle.rb_marks.specs.Units.{Outline, is_node_first, node_units, step_units, units_of, unit_steps, is_slot, act_holds, steps_hold, is_of}
use Rattle.rb_marks.specs.Sound.{IsSound, numbered}
use Rattle.rb_marks.specs.First.{is_begin_of, stops, MayFollow, LegalAfter, IsLegal}
use Rattle.rb_marks.specs.declared.mark.Leaf.{Leaf}
use Rattle.rb_marks.specs.declared.mark.Mark.{Mark}
use Rattle.rb_marks.specs.declared.mark.Mark.TheVariants.{Begin, End, Abort, Lost, Withdraw}
use Rattle.rb_marks.specs.declared.mark.StepResult.{StepResult}
use Rattle.rb_marks.specs.declared.mark.StepResult.TheVariants.{Undone}
use Rattle.rb_marks.specs.declared.units.WorkUnit.{WorkUnit}
use Rattle.rb_marks.proofs.Counts.{or_true, or_false}
use Rattle.rb_marks.proofs.Growing.{same_leaf_true, unended_more, end_more}
use Rattle.rb_marks.proofs.Numbering.{steps_within, one_step}
use Rattle.rb_marks.proofs.Once.{next_is_of}
use Rattle.rb_marks.proofs.Places.{has_either, node_place}
use Rattle.rb_marks.proofs.Waits.{Has, first_gives}
use Rattle.rb_flow.specs.declared.leaves.Leaves.{Leaves}
use Rattle.rb_flow.specs.Tally.{group_count}
use Rattle.rb_flow.specs.Leaves.{IsLeaves, node_results, result_in}
use Rattle.rb_flow.specs.Kept.{first_holding, slot_group}

held_here : (holds : Bool) (bs : List Branch) (b : Branch) (n k : ℕ)
    → (act_holds b.0 k || is_slot b.1 k) ≡ holds
    → (holds ≡ false → steps_hold (branches_of (take 1 (drop n bs))) k ≡ true)
    → steps_hold (branches_of (take 1 (drop (cond holds 0 (n + 1)) (b ∷ bs)))) k ≡ true
held_here true bs b n k e f = or_false (act_holds b.0 k || is_slot b.1 k) ∙ e
held_here false bs b n k e f = rw add-one (f refl)

-- the first step that holds a slot holds it, where one does
first_holds : (bs : List Branch) (s k : ℕ)
    → steps_hold (branches_of (take 1 (drop s bs))) k ≡ true
    → steps_hold (branches_of (take 1 (drop (first_holding bs k) bs))) k ≡ true
first_holds [] zero k e = e
first_holds [] (suc s) k e = e
first_holds (b ∷ bs) zero k e =
    held_here (act_holds b.0 k || is_slot b.1 k) bs b (first_holding bs k) k refl
    (λ none. absurd (false≢true
    (sym (or_false (act_holds b.0 k || is_slot b.1 k) ∙ none) ∙ e)))
first_holds (b ∷ bs) (suc s) k e =
    held_here (act_holds b.0 k || is_slot b.1 k) bs b (first_holding bs k) k refl
    (λ none. first_holds bs s k e)

-- it is the step of the unit
step_is_first : (bs : List Branch) (slots s k : ℕ) → numbered (branches_of bs) 0 ≡ Some slots
    → steps_hold (branches_of (take 1 (drop s bs))) k ≡ true → first_holding bs k ≡ s
step_is_first bs slots s k number e =
    one_step bs 0 slots number (first_holding bs k) s k (first_holds bs s k e) e

node_units_size : (step n : ℕ) (tiers : List ℕ) → length (node_units step n tiers) ≡ length tiers
node_units_size step n [] = refl
node_units_size step n (t ∷ ts) = ap suc (node_units_size step (n + 1) ts)

step_units_size : (tiers : List ℕ) (s : ℕ) (bs : List Branch)
    → length (step_units tiers s bs) ≡ length bs * length tiers
step_units_size tiers s [] = omega arith
step_units_size tiers s (b ∷ bs) =
    length-append (node_units s 0 tiers) (step_units tiers (s + 1) bs)
    ∙ rw (node_units_size s 0 tiers, step_units_size tiers (s + 1) bs) (omega arith)

node_within : (step n : ℕ) (tiers : List ℕ) (u : WorkUnit) → Has (node_units step n tiers) u
    → u.node < n + length tiers
node_within step n [] u h = absurd h
node_within step n (t ∷ ts) u (inl e) = let here : n ≡ u.node = ap (λ v. v.node) e in
    omega (arith, here)
node_within step n (t ∷ ts) u (inr h) = omega (arith, node_within step (n + 1) ts u h)

-- the unit of a node stands at its number
node_at : (step n : ℕ) (tiers : List ℕ) (u d : WorkUnit) (k : ℕ)
    → Has (node_units step n tiers) u → u.node ≡ n + k → get_or (node_units step n tiers) k d ≡ u
node_at step n [] u d k h e = absurd h
node_at step n (t ∷ ts) u d zero (inl a) e = a
node_at step n (t ∷ ts) u d (suc k) (inl a) e = let here : n ≡ u.node = ap (λ v. v.node) a in
    absurd (omega (arith, here, e))
node_at step n (t ∷ ts) u d zero (inr h) e =
    absurd (omega (arith, (node_place step (n + 1) ts u h).1, e))
node_at step n (t ∷ ts) u d (suc k) (inr h) e =
    node_at step (n + 1) ts u d k h (omega (arith, e))

-- a unit at its place: in this group, of so many groups with so many nodes each
record IsPlace (units : List WorkUnit) (at groups nodes : ℕ) (u : WorkUnit) : Type 0 where
  pub node : u.node < nodes
  pub group : at < groups
  pub is : (d : WorkUnit) → get_or units (at * nodes + u.node) d ≡ u

node_is_place : (tiers : List ℕ) (u : WorkUnit) → Has (node_units 0 0 tiers) u
    → IsPlace (node_units 0 0 tiers) 0 1 (length tiers) u
node_is_place tiers u h =
    record {
      node = omega (arith, node_within 0 0 tiers u h);
      group = omega arith;
      is = λ d. node_at 0 0 tiers u d (0 * length tiers + u.node) h (omega arith);
    }

first_place : (tiers : List ℕ) (s : ℕ) (rest : List WorkUnit) (groups : ℕ) (u : WorkUnit)
    → Has (node_units s 0 tiers) u
    → IsPlace (node_units s 0 tiers ++ rest) 0 (suc groups) (length tiers) u
first_place tiers s rest groups u h =
    let size = node_units_size s 0 tiers in
    let node : u.node < length tiers = omega (arith, node_within s 0 tiers u h) in
    record {
      node = node;
      group = omega arith;
      is = λ d. get_or_append_left (node_units s 0 tiers) rest d (0 * length tiers + u.node)
          (omega (arith, size, node))
          ∙ node_at s 0 tiers u d (0 * length tiers + u.node) h (omega arith);
    }

later_place : (tiers : List ℕ) (s : ℕ) (rest : List WorkUnit) (group groups : ℕ) (u : WorkUnit)
    → IsPlace rest group groups (length tiers) u
    → IsPlace (node_units s 0 tiers ++ rest) (suc group) (suc groups) (length tiers) u
later_place tiers s rest group groups u place =
    let size = node_units_size s 0 tiers in
    let at : suc group * length tiers + u.node
    ≡ length (node_units s 0 tiers) + (group * length tiers + u.node)
    = rw size (omega arith) in
    record {
      node = place.node;
      group = omega (arith, place.group);
      is = λ d. ap (λ i. get_or (node_units s 0 tiers ++ rest) i d) at
          ∙ get_or-append-add (node_units s 0 tiers) rest (group * length tiers + u.node) d
          ∙ place.is d;
    }

step_from : (tiers : List ℕ) (s : ℕ) (bs : List Branch) (u : WorkUnit)
    → Has (step_units tiers s bs) u → s ≤ u.step
step_from tiers s [] u h = absurd h
step_from tiers s (b ∷ bs) u h =
    elim (has_either (node_units s 0 tiers) (step_units tiers (s + 1) bs) u h) [
      | inl here ↦ omega (arith, (node_place s 0 tiers u here).0)
      | inr later ↦ omega (arith, step_from tiers (s + 1) bs u later)
    ]

step_is_place : (tiers : List ℕ) (s : ℕ) (bs : List Branch) (k : ℕ) (u : WorkUnit)
    → Has (step_units tiers s bs) u → u.step ≡ s + k
    → IsPlace (step_units tiers s bs) k (length bs) (length tiers) u
step_is_place tiers s [] k u h e = absurd h
step_is_place tiers s (b ∷ bs) zero u h e =
    elim (has_either (node_units s 0 tiers) (step_units tiers (s + 1) bs) u h) [
      | inl here ↦ first_place tiers s (step_units tiers (s + 1) bs) (length bs) u here
      | inr later ↦ absurd (omega (arith, step_from tiers (s + 1) bs u later, e))
    ]
step_is_place tiers s (b ∷ bs) (suc k) u h e =
    elim (has_either (node_units s 0 tiers) (step_units tiers (s + 1) bs) u h) [
      | inl here ↦ absurd (omega (arith, (node_place s 0 tiers u here).0, e))
      | inr later ↦ later_place tiers s (step_units tiers (s + 1) bs) k (length bs) u
          (step_is_place tiers (s + 1) bs k u later (omega (arith, e)))
    ]

place_by : (whole : Bool) (tiers : List ℕ) (steps : List Branch) (slots k : ℕ) (u : WorkUnit)
    → numbered (branches_of steps) 0 ≡ Some slots
    → Has (cond whole (node_units 0 0 tiers) (step_units tiers 0 steps)) u
    → steps_hold (branches_of (cond whole steps (take 1 (drop u.step steps)))) k ≡ true
    → IsPlace (cond whole (node_units 0 0 tiers) (step_units tiers 0 steps))
    (cond whole 0 (first_holding steps k)) (cond whole 1 (length steps)) (length tiers) u
place_by true tiers steps slots k u number h e = node_is_place tiers u h
place_by false tiers steps slots k u number h e =
    let same = step_is_first steps slots u.step k number e in
    step_is_place tiers 0 steps (first_holding steps k) u h (omega (arith, same))

held_by_all : (bs : List Branch) (s k : ℕ)
    → steps_hold (branches_of (take 1 (drop s bs))) k ≡ true → steps_hold (branches_of bs) k ≡ true
held_by_all [] zero k e = e
held_by_all [] (suc s) k e = e
held_by_all (b ∷ bs) zero k e =
    or_left (act_holds b.0 k || is_slot b.1 k) (steps_hold (branches_of bs) k)
    (sym (or_false (act_holds b.0 k || is_slot b.1 k)) ∙ e)
held_by_all (b ∷ bs) (suc s) k e =
    ap (λ v. (act_holds b.0 k || is_slot b.1 k) || v) (held_by_all bs s k e)
    ∙ or_true (act_holds b.0 k || is_slot b.1 k)

slot_within : (whole : Bool) (steps : List Branch) (slots s k : ℕ)
    → numbered (branches_of steps) 0 ≡ Some slots
    → steps_hold (branches_of (cond whole steps (take 1 (drop s steps)))) k ≡ true → k < slots
slot_within true steps slots s k number e =
    ((steps_within (branches_of steps) 0 slots number).bounds k e).1
slot_within false steps slots s k number e =
    ((steps_within (branches_of steps) 0 slots number).bounds k (held_by_all steps s k e)).1

units_size_by : (whole : Bool) (tiers : List ℕ) (steps : List Branch)
    → length (cond whole (node_units 0 0 tiers) (step_units tiers 0 steps))
    ≡ cond whole 1 (length steps) * length tiers
units_size_by true tiers steps = node_units_size 0 0 tiers ∙ omega arith
units_size_by false tiers steps = step_units_size tiers 0 steps

-- a plan has a unit for each group and node
pub units_size : (p : Outline) → length (units_of p) ≡ group_count p * length p.tiers
units_size p = units_size_by (is_node_first p.strategy) p.tiers p.steps

-- the unit of a leaf, and where it stands
pub record IsUnitAt (p : Outline) (leaf : Leaf) (u : WorkUnit) : Type 0 where
  pub node : leaf.node < length p.tiers
  pub group : slot_group p leaf.slot < group_count p
  pub slot : leaf.slot < p.slots
  pub place : slot_group p leaf.slot * length p.tiers + leaf.node < length (units_of p)
  pub is : (d : WorkUnit)
      → get_or (units_of p) (slot_group p leaf.slot * length p.tiers + leaf.node) d ≡ u

at_place : (p : Outline) (leaf : Leaf) (u : WorkUnit) → leaf.slot < p.slots → u.node ≡ leaf.node
    → IsPlace (units_of p) (slot_group p leaf.slot) (group_count p) (length p.tiers) u
    → IsUnitAt p leaf u
at_place p leaf u slot same place =
    let group = slot_group p leaf.slot in
    let node : leaf.node < length p.tiers = omega (arith, place.node, same) in
    let below = mul-add-lt group (length p.tiers) leaf.node (group_count p) place.group node in
    record {
      node = node;
      group = place.group;
      slot = slot;
      place = rw (units_size p) (omega (arith, below));
      is = subst (λ n. (d : WorkUnit) → get_or (units_of p) (group * length p.tiers + n) d ≡ u)
          same place.is;
    }

-- the unit that has a leaf stands at its place
pub unit_is_at : (p : Outline) (u : WorkUnit) (leaf : Leaf) → IsSound p → Has (units_of p) u
    → is_of p u leaf ≡ true → IsUnitAt p leaf u
unit_is_at p u leaf sound h e =
    let parts = and_parts (nat_eq leaf.node u.node)
    (steps_hold (branches_of (unit_steps p u)) leaf.slot) e in
    let whole = is_node_first p.strategy in
    at_place p leaf u (slot_within whole p.steps p.slots u.step leaf.slot sound.slots parts.1)
    (sym (eqb-true leaf.node u.node parts.0))
    (place_by whole p.tiers p.steps p.slots leaf.slot u sound.slots h parts.1)

begin_has_unit : (p : Outline) (past : List Mark) (leaf : Leaf) (m : Mark) → MayFollow p past m
    → is_begin_of leaf m ≡ true
    → (u : WorkUnit) × Has (units_of p) u × (is_of p u leaf ≡ true)
begin_has_unit p past leaf (Begin at) f e =
    let w = first_gives p (units_of p) past (units_of p) at f in (
      w.0,
      w.1,
      subst (λ x. is_of p w.0 x ≡ true) (same_leaf_true at leaf e)
          (next_is_of p past w.0 at w.2.next),
    )
begin_has_unit p past leaf (End at ending) f e = absurd (false≢true e)
begin_has_unit p past leaf Abort f e = absurd (false≢true e)
begin_has_unit p past leaf Lost f e = absurd (false≢true e)
begin_has_unit p past leaf (Withdraw node) f e = absurd (false≢true e)

-- a leaf that has begun in a legal list was the first startable one, and so is of a unit
begun_after : (p : Outline) (past ms : List Mark) (leaf : Leaf) → LegalAfter p past ms
    → list_any (is_begin_of leaf) ms ≡ true
    → (u : WorkUnit) × Has (units_of p) u × (is_of p u leaf ≡ true)
begun_after p past [] leaf l e = absurd (false≢true e)
begun_after p past (m ∷ ms) leaf l e =
    elim (or_cases (is_begin_of leaf m) (list_any (is_begin_of leaf) ms) e) [
      | inl here ↦ begin_has_unit p past leaf m l.0 here
      | inr later ↦ begun_after p (past ++ m ∷ []) ms leaf l.1 later
    ]

pub open_has_unit : (p : Outline) (hs : List Mark) (leaf : Leaf) → IsLegal p hs
    → list_any (is_begin_of leaf) hs ≡ true
    → (u : WorkUnit) × Has (units_of p) u × (is_of p u leaf ≡ true)
open_has_unit p hs leaf l e = begun_after p [] hs leaf l e

leaves_left : (p : Outline) (hs : List Mark) (m : Mark) (l : Leaves)
    → ((leaf : Leaf) → result_of_mark leaf m ≡ None) → IsLeaves p hs l → IsLeaves p (hs ++ m ∷ []) l
leaves_left p hs m l none is =
    record {
      slots = is.slots;
      size = is.size;
      rows = λ node h slot.
          let leaf : Leaf = record { node = node; slot = slot } in
          is.rows node h slot ∙ sym (unended_more hs m leaf (none leaf));
    }

-- a mark that is no End leaves the table
pub leaves_begin : (p : Outline) (hs : List Mark) (leaf : Leaf) (l : Leaves) → IsLeaves p hs l
    → IsLeaves p (hs ++ Begin leaf ∷ []) l
leaves_begin p hs leaf l is = leaves_left p hs (Begin leaf) l (λ at. refl) is

stop_ends_none : (m : Mark) (leaf : Leaf) → stops m ≡ true → result_of_mark leaf m ≡ None
stop_ends_none (Begin at) leaf e = refl
stop_ends_none (End at ending) leaf e = absurd (false≢true e)
stop_ends_none Abort leaf e = refl
stop_ends_none Lost leaf e = refl
stop_ends_none (Withdraw node) leaf e = refl

pub leaves_withdraw : (p : Outline) (hs : List Mark) (node : ℕ) (l : Leaves) → IsLeaves p hs l
    → IsLeaves p (hs ++ Withdraw node ∷ []) l
leaves_withdraw p hs node l is = leaves_left p hs (Withdraw node) l (λ at. refl) is

-- nor does an abort or a loss change it
pub leaves_stop : (p : Outline) (hs : List Mark) (m : Mark) (l : Leaves) → stops m ≡ true
    → IsLeaves p hs l → IsLeaves p (hs ++ m ∷ []) l
leaves_stop p hs m l e is = leaves_left p hs m l (λ leaf. stop_ends_none m leaf e) is

-- a row reads the table in its own slots alone
in_row : (slots node slot : ℕ) (all : List StepResult) → slot < slots
    → result_in (node_results slots node all) slot ≡ get_or all (node * slots + slot) Undone
in_row slots node slot all h =
    get_or-take slots (drop (node * slots) all) slot Undone h
    ∙ get_or-drop (node * slots) all slot Undone

past_row : (slots node slot : ℕ) (all : List StepResult) → slots ≤ slot
    → result_in (node_results slots node all) slot ≡ Undone
past_row slots node slot all h =
    get_or_past (node_results slots node all) slot Undone
    (omega (arith, length-take {A = StepResult}))

row_set : (slots node slot : ℕ) (all : List StepResult) (r : StepResult) → slot < slots
    → node * slots + slot < length all
    → result_in (node_results slots node (set all (node * slots + slot) r)) slot ≡ r
row_set slots node slot all r h size =
    in_row slots node slot (set all (node * slots + slot) r) h
    ∙ get_or-set_same all (node * slots + slot) r Undone size

other_place : (slots : ℕ) (leaf at : Leaf) → leaf.slot < slots → at.slot < slots
    → same_leaf leaf at ≡ false
    → at.node * slots + at.slot ≡ leaf.node * slots + leaf.slot → ⊥
other_place slots leaf at h less other e =
    let same = same_from_place at.node at.slot leaf.node leaf.slot slots less h e in
    both_ways (same_leaf leaf at) other
    (and_from (nat_eq leaf.node at.node) (nat_eq leaf.slot at.slot)
    (eq-eqb leaf.node at.node (sym same.0)) (eq-eqb leaf.slot at.slot (sym same.1)))

-- a write leaves what the rows say of other leaves
row_left : (slots : ℕ) (leaf at : Leaf) (all : List StepResult) (r : StepResult)
    → leaf.slot < slots → same_leaf leaf at ≡ false
    → result_in (node_results slots at.node (set all (leaf.node * slots + leaf.slot) r)) at.slot
    ≡ result_in (node_results slots at.node all) at.slot
row_left slots leaf at all r h other = elim (cases_lt at.slot slots) [
  | inl less ↦ in_row slots at.node at.slot (set all (leaf.node * slots + leaf.slot) r) less
      ∙ get_or-set_other all (leaf.node * slots + leaf.slot) (at.node * slots + at.slot) r Undone
      (other_place slots leaf at h less other)
      ∙ sym (in_row slots at.node at.slot all less)
  | inr past ↦ past_row slots at.node at.slot (set all (leaf.node * slots + leaf.slot) r) past
      ∙ sym (past_row slots at.node at.slot all past)
]

other_end : (leaf at : Leaf) (ending : Ending) → same_leaf leaf at ≡ false
    → result_of_mark at (End leaf ending) ≡ None
other_end leaf at ending e = ap (λ b. if b then Some (of_ending ending) else None) e

-- the row of a leaf after its End, and the rows of all others
leaf_after : (slots : ℕ) (hs : List Mark) (leaf at : Leaf) (ending : Ending)
    (all : List StepResult) → leaf.slot < slots → leaf.node * slots + leaf.slot < length all
    → leaf_result hs leaf ≡ Undone
    → result_in (node_results slots at.node all) at.slot ≡ leaf_result hs at
    → result_in (node_results slots at.node
    (set all (leaf.node * slots + leaf.slot) (of_ending ending))) at.slot
    ≡ leaf_result (hs ++ End leaf ending ∷ []) at
leaf_after slots hs leaf at ending all h size undone is = elim (cases_Bool (same_leaf leaf at)) [
  | inl same ↦ subst (λ x. result_in (node_results slots x.node
      (set all (leaf.node * slots + leaf.slot) (of_ending ending))) x.slot
      ≡ leaf_result (hs ++ End leaf ending ∷ []) x) (same_leaf_true leaf at same)
      (row_set slots leaf.node leaf.slot all (of_ending ending) h size
      ∙ sym (end_more hs leaf ending undone))
  | inr other ↦ row_left slots leaf at all (of_ending ending) h other ∙ is
      ∙ sym (unended_more hs (End leaf ending) at (other_end leaf at ending other))
]

-- the End of a leaf of which nothing has become is written at its place
pub leaves_end : (p : Outline) (hs : List Mark) (leaf : Leaf) (ending : Ending) (old new : Leaves)
    → IsLeaves p hs old → leaf.node < length p.tiers → leaf.slot < p.slots
    → leaf_result hs leaf ≡ Undone → new.slots ≡ old.slots
    → new.results.items
    ≡ set old.results.items (leaf.node * old.slots + leaf.slot) (of_ending ending)
    → IsLeaves p (hs ++ End leaf ending ∷ []) new
leaves_end p hs leaf ending old new is node slot undone slots results =
    let all = old.results.items in
    let place = leaf.node * old.slots + leaf.slot in
    let below : leaf.slot < old.slots = omega (arith, is.slots, slot) in
    let size : place < length all =
    rw (is.size, ← is.slots) (omega (
      arith,
      mul-add-lt leaf.node old.slots leaf.slot (length p.tiers) node below,
    )) in
    record {
      slots = slots ∙ is.slots;
      size = ap length results ∙ length-set all place (of_ending ending) ∙ is.size;
      rows = λ n h s.
          let at : Leaf = record { node = n; slot = s } in
          ap (λ k. result_in (node_results k n new.results.items) s) slots
          ∙ ap (λ xs. result_in (node_results old.slots n xs) s) results
          ∙ leaf_after old.slots hs leaf at ending all below size undone (is.rows n h s);
    }

-- the row of the leaf, once its End is written
pub row_ended : (p : Outline) (hs : List Mark) (leaf : Leaf) (ending : Ending) (l : Leaves)
    → IsLeaves p hs l → leaf.node < length p.tiers → leaf.slot < p.slots
    → leaf_result hs leaf ≡ Undone
    → result_in (node_results l.slots leaf.node
    (set l.results.items (leaf.node * l.slots + leaf.slot) (of_ending ending)))
    ≡ slot_result (hs ++ End leaf ending ∷ []) leaf.node
row_ended p hs leaf ending l is node slot undone =
    let below : leaf.slot < l.slots = omega (arith, is.slots, slot) in
    let size : leaf.node * l.slots + leaf.slot < length l.results.items =
    rw (is.size, ← is.slots) (omega (
      arith,
      mul-add-lt leaf.node l.slots leaf.slot (length p.tiers) node below,
    )) in
    fun_ext (λ s. leaf_after l.slots hs leaf (record { node = leaf.node; slot = s }) ending
    l.results.items below size undone (is.rows leaf.node node s))

-- a row says what the marks say
pub row_says : (p : Outline) (hs : List Mark) (l : Leaves) (node : ℕ) → IsLeaves p hs l
    → node < length p.tiers
    → result_in (node_results l.slots node l.results.items) ≡ slot_result hs node
row_says p hs l node is h = fun_ext (λ slot. is.rows node h slot)
