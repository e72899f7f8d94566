-- How far the sequence of a unit has come.
use Rattle.std.specs.Prelude.{◌≡◌, ℕ, ◌<◌, Bool, true, false, Option, Some, None, option_and_then, List, [], ◌∷◌, length, get_or, zero, suc, if◌then◌else◌}
use Rattle.rb_marks.specs.Results.{step_result}
use Rattle.rb_marks.specs.View.{Branch}
use Rattle.rb_marks.specs.Units.{Outline, units_of, unit_steps}
use Rattle.rb_marks.specs.declared.mark.StepResult.{StepResult}
use Rattle.rb_marks.specs.declared.mark.StepResult.TheVariants.{Undone, Good, Bad}
use Rattle.rb_marks.specs.declared.units.WorkUnit.{WorkUnit}
use Rattle.rb_flow.specs.declared.cursor.Cursor.{Cursor}

-- before the first step
abbrev pub first_cursor : Cursor
first_cursor = record { at = 0; bad = false }

-- whether a step was bad, behind one that lets its sequence go on
abbrev pub goes_on : StepResult → Bool → Bool → Option Bool
goes_on Undone keepgoing bad = None
goes_on Good keepgoing bad = Some bad
goes_on Bad keepgoing bad = if keepgoing then Some true else None

-- whether a step was bad, behind so many first steps; None where one of them does not let the
-- sequence go on
abbrev pub passed : (ℕ → StepResult) → Bool → Bool → List Branch → ℕ → Option Bool
passed command keepgoing bad steps zero = Some bad
passed command keepgoing bad [] (suc n) = None
passed command keepgoing bad (b ∷ bs) (suc n) =
    option_and_then (λ was_bad. passed command keepgoing was_bad bs n)
    (goes_on (step_result command keepgoing b.0 b.1 b.2) keepgoing bad)

-- the unit has come as far as the cursor
abbrev pub HasPassed : Outline → (ℕ → StepResult) → WorkUnit → Cursor → Type 0
HasPassed p command u c = passed command p.keepgoing false (unit_steps p u) c.at ≡ Some c.bad

-- each unit has come as far as its cursor
pub record AreCursors (p : Outline) (command : ℕ → ℕ → StepResult) (cursors : List Cursor)
    : Type 0 where
  pub size : length cursors ≡ length (units_of p)
  pub each : (i : ℕ) (u : WorkUnit) (c : Cursor) → i < length (units_of p) →
      get_or (units_of p) i u ≡ u → get_or cursors i c ≡ c → HasPassed p (command u.node) u c
