-- How far the units have come, with one more mark.
use Rattle.std.proofs.Common.{◌≡◌, ℕ, ◌<◌, Bool, true, false, Some, None, option_and_then, List, [], ◌∷◌, ◌++◌, length, get_or, set, zero, suc, sym, ap, ◌∙◌, subst, arith, refl, inl, inr, length-set}
use Rattle.std.proofs.lemmas.Bool.{cases_eq}
use Rattle.std.proofs.lemmas.List.{get_or-set_same, get_or-set_other, get_or_default}
use Rattle.rb_marks.specs.View.{Branch}
use Rattle.rb_marks.specs.Results.{slot_result, step_result, after}
use Rattle.rb_marks.specs.Units.{Outline, units_of, unit_steps, is_settled}
use Rattle.rb_marks.specs.declared.mark.Mark.{Mark}
use Rattle.rb_marks.specs.declared.mark.StepResult.{StepResult}
use Rattle.rb_marks.specs.declared.mark.StepResult.TheVariants.{Undone, Good, Bad}
use Rattle.rb_marks.specs.declared.plan.Strategy.TheVariants.{Sequential}
use Rattle.rb_marks.specs.declared.units.WorkUnit.{WorkUnit}
use Rattle.rb_marks.proofs.Keeping.{Keeps, unit_kept}
use Rattle.rb_marks.proofs.Waits.{Has}
use Rattle.rb_flow.specs.declared.cursor.Cursor.{Cursor}
use Rattle.rb_flow.specs.Cursors.{goes_on, passed, HasPassed, AreCursors}
use Rattle.rb_flow.proofs.Passing.{passed_first}
use Rattle.rb_flow.proofs.UnitPlaces.{has_there}

-- a sequence of one step is settled where the step is
alone : (s t : StepResult) (keepgoing : Bool)
    → Keeps (after s keepgoing Good Bad) (after t keepgoing Good Bad) → Keeps s t
alone Undone t keepgoing k e = absurd (let x : false ≡ true = e in cc)
alone Good Undone keepgoing k e = absurd (let x : Undone ≡ Good = k refl in cc)
alone Good Good keepgoing k e = refl
alone Good Bad true k e = absurd (let x : Bad ≡ Good = k refl in cc)
alone Good Bad false k e = absurd (let x : Bad ≡ Good = k refl in cc)
alone Bad Undone true k e = absurd (let x : Undone ≡ Bad = k refl in cc)
alone Bad Undone false k e = absurd (let x : Undone ≡ Bad = k refl in cc)
alone Bad Good true k e = absurd (let x : Good ≡ Bad = k refl in cc)
alone Bad Good false k e = absurd (let x : Good ≡ Bad = k refl in cc)
alone Bad Bad keepgoing k e = refl

-- a plan of this one step
abbrev one_step : Bool → Branch → Outline
one_step keepgoing b = record {
  strategy = Sequential;
  tiers = [];
  keepgoing = keepgoing;
  steps = b ∷ [];
  slots = 0;
  keep_nodes = true;
  bound = 0;
}

-- a step that is settled stays
step_kept : (hs ms : List Mark) (node : ℕ) (keepgoing : Bool) (b : Branch)
    → Keeps (step_result (slot_result hs node) keepgoing b.0 b.1 b.2)
    (step_result (slot_result (hs ++ ms) node) keepgoing b.0 b.1 b.2)
step_kept hs ms node keepgoing b =
    alone (step_result (slot_result hs node) keepgoing b.0 b.1 b.2)
    (step_result (slot_result (hs ++ ms) node) keepgoing b.0 b.1 b.2) keepgoing
    (unit_kept (one_step keepgoing b) hs ms (record { step = 0; node = node; tier = 0 }))

going_settled : (s : StepResult) (keepgoing bad now : Bool) → goes_on s keepgoing bad ≡ Some now
    → is_settled s ≡ true
going_settled Undone keepgoing bad now e = absurd (let x : None ≡ Some now = e in cc)
going_settled Good keepgoing bad now e = refl
going_settled Bad keepgoing bad now e = refl

passed_stays : (hs ms : List Mark) (node : ℕ) (keepgoing bad now : Bool) (steps : List Branch)
    (at : ℕ) → passed (slot_result hs node) keepgoing bad steps at ≡ Some now
    → passed (slot_result (hs ++ ms) node) keepgoing bad steps at ≡ Some now
passed_stays hs ms node keepgoing bad now [] zero e = e
passed_stays hs ms node keepgoing bad now [] (suc n) e =
    absurd (let x : None ≡ Some now = e in cc)
passed_stays hs ms node keepgoing bad now (b ∷ bs) zero e = e
passed_stays hs ms node keepgoing bad now (b ∷ bs) (suc n) e =
    let s = step_result (slot_result hs node) keepgoing b.0 b.1 b.2 in
    let first = passed_first (λ was. passed (slot_result hs node) keepgoing was bs n)
    (goes_on s keepgoing bad) now e in
    let same = step_kept hs ms node keepgoing b (going_settled s keepgoing bad first.0 first.1) in
    ap (λ r. option_and_then (λ was. passed (slot_result (hs ++ ms) node) keepgoing was bs n)
    (goes_on r keepgoing bad)) same
    ∙ ap (option_and_then (λ was. passed (slot_result (hs ++ ms) node) keepgoing was bs n)) first.1
    ∙ passed_stays hs ms node keepgoing first.0 now bs n first.2

-- each unit has come as far, whatever marks come
pub cursors_stay : (p : Outline) (hs : List Mark) (m : Mark) (cursors : List Cursor)
    → AreCursors p (slot_result hs) cursors → AreCursors p (slot_result (hs ++ m ∷ [])) cursors
cursors_stay p hs m cursors are = record {
  size = are.size;
  each = λ i u c h e there.
      passed_stays hs (m ∷ []) u.node p.keepgoing false c.bad (unit_steps p u) c.at
      (are.each i u c h e there);
}

-- the unit at this place has come further
pub cursors_set : (p : Outline) (command : ℕ → ℕ → StepResult) (cursors : List Cursor) (i : ℕ)
    (u : WorkUnit) (c : Cursor) → AreCursors p command cursors → i < length (units_of p)
    → get_or (units_of p) i u ≡ u → HasPassed p (command u.node) u c
    → AreCursors p command (set cursors i c)
cursors_set p command cursors i u c are within at has = record {
  size = length-set cursors i c ∙ are.size;
  each = λ j v d h e there.
      elim (cases_eq j i) [
        | inl same ↦
            let here : get_or (units_of p) i v ≡ v = ap (λ k. get_or (units_of p) k v) (sym same) ∙ e in
            let unit : u ≡ v = sym at ∙ get_or_default (units_of p) i u v within ∙ here in
            let cursor : c ≡ d =
            sym (get_or-set_same cursors i c d (omega (arith, within, are.size)))
            ∙ ap (λ k. get_or (set cursors i c) k d) (sym same) ∙ there in
            subst (λ w. HasPassed p (command w.node) w d) unit
            (subst (λ x. HasPassed p (command u.node) u x) cursor has)
        | inr other ↦ are.each j v d h e (sym (get_or-set_other cursors i j c d other) ∙ there)
      ];
}

-- what has become of the slots is told in other words
pub cursors_by : (p : Outline) (f g : ℕ → ℕ → StepResult) (cursors : List Cursor)
    → ((u : WorkUnit) → Has (units_of p) u → f u.node ≡ g u.node)
    → AreCursors p f cursors → AreCursors p g cursors
cursors_by p f g cursors same are = record {
  size = are.size;
  each = λ i u c h e there.
      subst (λ command. HasPassed p command u c)
      (same u (subst (Has (units_of p)) e (has_there (units_of p) i u h)))
      (are.each i u c h e there);
}
