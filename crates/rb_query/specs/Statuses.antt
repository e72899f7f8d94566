-- The statuses of executions and the results of steps, as they are told and asked for.
use Rattle.std.specs.Prelude.{ℕ, List, [], ◌∷◌, find, codes, Option, bytes_eq}
use Rattle.rb_marks.specs.declared.mark.Status.{Status}
use Rattle.rb_marks.specs.declared.mark.Status.TheVariants.{Running, Succeeded, Failed, Aborted, Incomplete}
use Rattle.rb_marks.specs.declared.mark.StepResult.{StepResult}
use Rattle.rb_marks.specs.declared.mark.StepResult.TheVariants.{Undone, Good, Bad}

abbrev pub status_text : Status → List ℕ
status_text Running = codes "running"
status_text Succeeded = codes "succeeded"
status_text Failed = codes "failed"
status_text Aborted = codes "aborted"
status_text Incomplete = codes "incomplete"

abbrev pub statuses : List Status
statuses = Running ∷ Succeeded ∷ Failed ∷ Aborted ∷ Incomplete ∷ []

-- the status that is told so
abbrev pub status_named : List ℕ → Option Status
status_named text = find (λ status. bytes_eq text (status_text status)) statuses

abbrev pub step_text : StepResult → List ℕ
step_text Undone = codes "undone"
step_text Good = codes "ok"
step_text Bad = codes "bad"
