-- A leaf that may start has a slot of the plan.
use Rattle.std.proofs.Common.{◌≡◌, ℕ, zero, suc, List, [], ◌∷◌, take, drop, Bool, true, false, ◌||◌, nat_eq, refl, arith, if◌then◌else◌}
use Rattle.std.proofs.lemmas.Bool.{and_parts, or_right}
use Rattle.rb_marks.specs.View.{Branch, branches_of}
use Rattle.rb_marks.specs.Units.{units_of, unit_steps, is_node_first, act_holds, is_slot, steps_hold}
use Rattle.rb_marks.proofs.Numbering.{steps_within}
use Rattle.rb_marks.proofs.Once.{next_is_of}
use Rattle.rb_marks.proofs.Waits.{first_gives}
use Rattle.rb_log.specs.Laws.{SlotsAreBounded}

or_more : (a b : Bool) → (a || false) ≡ true → (a || b) ≡ true
or_more true b h = refl
or_more false b h = absurd (grind (arith, h))

at_one : (bs : List Branch) (s k : ℕ) → steps_hold (branches_of (take 1 (drop s bs))) k ≡ true
    → steps_hold (branches_of bs) k ≡ true
at_one [] zero k h = h
at_one [] (suc s) k h = h
at_one (b ∷ bs) zero k h = or_more (act_holds b.0 k || is_slot b.1 k)
    (steps_hold (branches_of bs) k) h
at_one (b ∷ bs) (suc s) k h = or_right (act_holds b.0 k || is_slot b.1 k)
    (steps_hold (branches_of bs) k) (at_one bs s k h)

unit_held : (whole : Bool) (steps : List Branch) (s k : ℕ)
    → steps_hold (branches_of (if whole then steps else take 1 (drop s steps))) k ≡ true
    → steps_hold (branches_of steps) k ≡ true
unit_held true steps s k h = h
unit_held false steps s k h = at_one steps s k h

pub slots_are_bounded : SlotsAreBounded
slots_are_bounded p marks leaf sound h =
    let w = first_gives p (units_of p) marks (units_of p) leaf h in
    let parts = and_parts (nat_eq leaf.node w.0.node)
    (steps_hold (branches_of (unit_steps p w.0)) leaf.slot)
    (next_is_of p marks w.0 leaf w.2.next) in
    ((steps_within (branches_of p.steps) 0 p.slots sound.slots).bounds leaf.slot
    (unit_held (is_node_first p.strategy) p.steps w.0.step leaf.slot parts.1)).1
