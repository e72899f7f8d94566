-- What is kept before the first mark.
use Rattle.std.proofs.Common.{◌≡◌, ℕ, ◌*◌, true, false, List, [], ◌∷◌, length, map, get_or, replicate, sym, ap, ◌∙◌, subst, refl}
use Rattle.std.proofs.lemmas.List.{length-map, length-replicate, get_or-replicate}
use Rattle.std.specs.List.{list_all}
use Rattle.rb_marks.specs.Sound.{IsSound}
use Rattle.rb_marks.specs.Units.{Outline, units_of}
use Rattle.rb_marks.specs.declared.mark.StepResult.{StepResult}
use Rattle.rb_marks.specs.declared.units.WorkUnit.{WorkUnit}
use Rattle.rb_marks.proofs.Opening.{unopened_undone}
use Rattle.rb_marks.proofs.Waits.{Has}
use Rattle.rb_flow.specs.declared.unit_state.UnitState.{UnitState}
use Rattle.rb_flow.specs.Tally.{is_idle, group_count}
use Rattle.rb_flow.specs.Kept.{state_of, idle_state}
use Rattle.rb_flow.specs.declared.cursor.Cursor.{Cursor}
use Rattle.rb_flow.specs.Cursors.{first_cursor, HasPassed, AreCursors}
use Rattle.rb_flow.proofs.Table.{units_size}
use Rattle.rb_flow.proofs.UnitPlaces.{map_same}

pub all_idle : (us : List WorkUnit) → list_all is_idle (map idle_state us) ≡ true
all_idle [] = refl
all_idle (u ∷ us) = all_idle us

idle_is : (p : Outline) → IsSound p → (u : WorkUnit) → Has (units_of p) u
    → idle_state u ≡ state_of p [] u
idle_is p sound u has =
    let with_outcome : StepResult → UnitState =
    λ r. record { unit = u; outcome = r; opened = false; running = false; withdrawn = false } in
    ap with_outcome (sym (unopened_undone p sound [] tt u has refl))

-- before the first mark each unit is idle
pub idle_states_are : (p : Outline) → IsSound p → map idle_state (units_of p)
    ≡ map (state_of p []) (units_of p)
idle_states_are p sound = map_same idle_state (state_of p []) (units_of p) (idle_is p sound)

-- there are as many as the groups have nodes
pub idle_size : (p : Outline) (states : List UnitState) → states ≡ map idle_state (units_of p)
    → length states ≡ group_count p * length p.tiers
idle_size p states e = ap length e ∙ length-map (units_of p) idle_state ∙ units_size p

-- before the first mark no unit has passed a step
pub no_cursors : (p : Outline) (command : ℕ → ℕ → StepResult) (cursors : List Cursor)
    → cursors ≡ replicate (length (units_of p)) first_cursor
    → AreCursors p command cursors
no_cursors p command cursors e = record {
  size = ap length e ∙ length-replicate (length (units_of p)) first_cursor;
  each = λ i u c h at there.
      let same : first_cursor ≡ c =
      sym (get_or-replicate (length (units_of p)) i first_cursor c h) ∙ ap (λ cs. get_or cs i c) (sym e)
      ∙ there in
      subst (HasPassed p (command u.node) u) same refl;
}
