-- What the lines of a drill file say, or the first line that breaks a rule.
use Rattle.std.specs.Prelude.{◌≡◌, ◌<◌, ℕ, ◌+◌, ◌^◌, Bool, true, false, not, ◌&&◌, bytes_eq, nat_lt, Option, Some, None, is_some, Result, Ok, Err, List, [], ◌∷◌, ◌++◌, length, if◌then◌else◌, find, All}
use Rattle.std.specs.List.{list_all}
use Rattle.rb_causes.specs.Texts.{has_text, differ}
use Rattle.rb_top.specs.Lines.{read_lines}
use Rattle.rb_top.specs.declared.reading.ScriptErr.{ScriptErr}
use Rattle.rb_top.specs.declared.reading.ScriptErr.TheVariants.{Fault, NoMemory}
use Rattle.rb_top.specs.declared.script.DrillJob.{DrillJob}
use Rattle.rb_top.specs.declared.script.DrillLine.{DrillLine}
use Rattle.rb_top.specs.declared.script.DrillLine.TheVariants.{Skip, Node, Access, Job, Step, Run}
use Rattle.rb_top.specs.declared.script.Script.{Script}
use Rattle.rb_top.specs.declared.script.ScriptFault.{ScriptFault}
use Rattle.rb_top.specs.declared.script.ScriptFault.TheVariants.{TooLarge, NotRead}

-- the job of this id: ids differ, so it is the only one
abbrev pub job_at : List DrillJob → List ℕ → Option DrillJob
job_at jobs id = find (λ j. bytes_eq j.id id) jobs

abbrev pub has_step : DrillJob → Bool
has_step j = nat_lt 0 (length j.steps)

abbrev pub has_steps : Option DrillJob → Bool
has_steps None = false
has_steps (Some j) = has_step j

-- each run is of a job that has a step
abbrev pub RunsHaveSteps : Script → Type 0
RunsHaveSteps s = All (λ r. has_steps (job_at s.jobs r.job) ≡ true) s.runs

-- the jobs with one step more at the last
abbrev pub with_step : List DrillJob → List (List ℕ) → List DrillJob
with_step [] words = []
with_step (j ∷ []) words = record j { steps = j.steps ++ words ∷ [] } ∷ []
with_step (j ∷ k ∷ js) words = j ∷ with_step (k ∷ js) words

-- The line may stand behind what was read: names of nodes and ids of jobs are new, the names in
-- it are known, a job's nodes differ, a step has a job above it, and a job that is run has a
-- step.
abbrev pub may_come : Script → DrillLine → Bool
may_come s Skip = true
may_come s (Node name) = not (has_text s.nodes name)
may_come s (Access a) = has_text s.nodes a.node
may_come s (Job id nodes) =
    not (is_some (job_at s.jobs id)) && differ nodes && list_all (has_text s.nodes) nodes
may_come s (Step words) = nat_lt 0 (length s.jobs)
may_come s (Run r) = has_steps (job_at s.jobs r.job)

abbrev pub with_line : Script → DrillLine → Script
with_line s Skip = s
with_line s (Node name) = record s { nodes = s.nodes ++ name ∷ [] }
with_line s (Access a) = record s { access = s.access ++ a ∷ [] }
with_line s (Job id nodes) =
    record s { jobs = s.jobs ++ record { id = id; nodes = nodes; steps = [] } ∷ [] }
with_line s (Step words) = record s { jobs = with_step s.jobs words }
with_line s (Run r) = record s { runs = s.runs ++ r ∷ [] }

-- The script with these lines, numbered from n, or the fault of the first that breaks a rule.
-- What is no line is None.
abbrev pub script_after : Script → ℕ → List (Option DrillLine) → Result Script ScriptFault
script_after s n [] = Ok s
script_after s n (None ∷ lines) = Err (NotRead n)
script_after s n (Some line ∷ lines) =
    if may_come s line then script_after (with_line s line) (n + 1) lines else Err (NotRead n)

abbrev pub empty_script : Script
empty_script = record { nodes = []; access = []; jobs = []; runs = [] }

-- the file's script, or its fault: a file over 1,048,576 bytes is not looked at
abbrev pub script_of : List ℕ → Result Script ScriptFault
script_of bytes =
    if nat_lt (2 ^ 20) (length bytes) then Err TooLarge
    else script_after empty_script 1 (read_lines bytes)

-- 32 bits number the nodes and the steps of a job
abbrev pub is_numbered_job : DrillJob → Bool
is_numbered_job j = nat_lt (length j.nodes) (2 ^ 32) && nat_lt (length j.steps) (2 ^ 32)

-- and the access lines of a script: so it is of each script that was read, since a file has at most
-- 1,048,576 bytes
pub record IsNumbered (s : Script) : Type 0 where
  pub access : length s.access < 2 ^ 32
  pub jobs : list_all is_numbered_job s.jobs ≡ true

-- what the reader answers is this: want of memory says nothing
abbrev pub GivesScript : Result Script ScriptErr → Result Script ScriptFault → Type 0
GivesScript (Ok s) reading = reading ≡ Ok s
GivesScript (Err (Fault fault)) reading = reading ≡ Err fault
GivesScript (Err NoMemory) reading = Unit {0}
