-- The table of what has become of each leaf.
use Rattle.std.specs.Prelude.{◌≡◌, ℕ, ◌*◌, ◌<◌, List, length, take, drop, get_or}
use Rattle.rb_marks.specs.Results.{slot_result}
use Rattle.rb_marks.specs.Units.{Outline}
use Rattle.rb_marks.specs.declared.mark.Mark.{Mark}
use Rattle.rb_marks.specs.declared.mark.StepResult.{StepResult}
use Rattle.rb_marks.specs.declared.mark.StepResult.TheVariants.{Undone}
use Rattle.rb_flow.specs.declared.leaves.Leaves.{Leaves}

-- the results of a node, one for each slot
abbrev pub node_results : ℕ → ℕ → List StepResult → List StepResult
node_results slots node results = take slots (drop (node * slots) results)

-- what a row says of a slot: behind its end nothing has become of any
abbrev pub result_in : List StepResult → ℕ → StepResult
result_in row slot = get_or row slot Undone

-- the table says of each leaf what the marks say
pub record IsLeaves (p : Outline) (marks : List Mark) (l : Leaves) : Type 0 where
  pub slots : l.slots ≡ p.slots
  pub size : length l.results.items ≡ length p.tiers * p.slots
  pub rows : (node : ℕ) → node < length p.tiers → (slot : ℕ) →
      result_in (node_results l.slots node l.results.items) slot ≡ slot_result marks node slot
