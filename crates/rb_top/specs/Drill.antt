-- What a drill of a script does.
use Rattle.std.specs.Prelude.{◌≡◌, ℕ, zero, suc, ◌+◌, ◌*◌, Bool, true, false, Option, Some, None, List, [], ◌∷◌, ◌++◌, length, Contains, if◌then◌else◌, slice_index_or}
use Rattle.rb_causes.specs.declared.ending.Ending.{Ending}
use Rattle.rb_acl.specs.declared.policy.Policies.{Policies}
use Rattle.rb_acl.specs.Deciding.{is_allowed}
use Rattle.rb_marks.specs.First.{first_startable, status_of}
use Rattle.rb_marks.specs.Tree.{slot}
use Rattle.rb_marks.specs.Units.{Outline}
use Rattle.rb_marks.specs.View.{Branch}
use Rattle.rb_marks.specs.declared.mark.Leaf.{Leaf}
use Rattle.rb_marks.specs.declared.mark.Mark.{Mark}
use Rattle.rb_marks.specs.declared.mark.Mark.TheVariants.{Begin, End}
use Rattle.rb_marks.specs.declared.mark.Status.{Status}
use Rattle.rb_marks.specs.declared.mark.Status.TheVariants.{Running, Succeeded, Failed, Aborted, Incomplete}
use Rattle.rb_marks.specs.declared.plan.Strategy.TheVariants.{NodeFirst}
use Rattle.rb_top.specs.Access.{on_node, script_policies, node_decisions, job_targets}
use Rattle.rb_top.specs.Output.{run_line, drop_line, denial_line, start_line, end_line, over_line}
use Rattle.rb_top.specs.Play.{Play, Over, Print, Run, Start, Transcript, transcript}
use Rattle.rb_top.specs.Reading.{job_at}
use Rattle.rb_top.specs.Texts.{spaced}
use Rattle.rb_top.specs.declared.access.NodeDecision.{NodeDecision}
use Rattle.rb_top.specs.declared.script.DrillJob.{DrillJob}
use Rattle.rb_top.specs.declared.script.DrillRun.{DrillRun}
use Rattle.rb_top.specs.declared.script.Script.{Script}

-- commands without handlers, numbered from n
abbrev pub branches_from : ℕ → List (List (List ℕ)) → List Branch
branches_from n [] = []
branches_from n (step ∷ steps) = (slot n, None, false) ∷ branches_from (n + 1) steps

abbrev pub zeros : List (List ℕ) → List ℕ
zeros [] = []
zeros (x ∷ xs) = 0 ∷ zeros xs

-- one node at a time, and nothing goes on after a failure
abbrev pub drill_plan : List (List ℕ) → DrillJob → Outline
drill_plan nodes job = record {
  strategy = NodeFirst;
  tiers = zeros nodes;
  keepgoing = false;
  steps = branches_from 0 job.steps;
  slots = length job.steps;
  keep_nodes = false;
  bound = 1;
}

-- the start of a leaf: its slot is the number of its step from 0
abbrev pub start_of : List ℕ → List (List ℕ) → DrillJob → Leaf → Start
start_of user nodes job leaf = record {
  user = user;
  node = slice_index_or nodes leaf.node [];
  step = leaf.slot + 1;
  words = slice_index_or job.steps leaf.slot [];
}

abbrev pub first_line : Start → List ℕ
first_line start = start_line start.node start.step (spaced start.words)

abbrev pub last_line : Start → Ending → List ℕ
last_line start ending = end_line start.node start.step ending

-- the marks of a leaf that was started and has ended so
abbrev pub marks_with : List Mark → Leaf → Ending → List Mark
marks_with marks leaf ending = marks ++ Begin leaf ∷ End leaf ending ∷ []

-- a start with its two lines, and then what follows its ending
abbrev pub starts : Start → (Ending → Play) → Play
starts start next =
    Print (first_line start) (Run start (λ ending. Print (last_line start ending) (next ending)))

-- one start where there is one, and then what follows it; else what follows all
abbrev pub next_start : Option Leaf → (Leaf → Start) → List Mark → (List Mark → Play) → (List Mark
    → Play) → Play
next_start None start marks more next = next marks
next_start (Some leaf) start marks more next =
    starts (start leaf) (λ ending. more (marks_with marks leaf ending))

-- at most so many starts from these marks on, each that of the first startable leaf, and then
-- what follows all
abbrev pub executed : ℕ → List ℕ → List (List ℕ) → DrillJob → List Mark → (List Mark → Play) → Play
executed zero user nodes job marks next = next marks
executed (suc fuel) user nodes job marks next =
    next_start (first_startable (drill_plan nodes job) marks) (start_of user nodes job) marks
    (λ more. executed fuel user nodes job more next) next

abbrev pub is_success : Status → Bool
is_success Succeeded = true
is_success Running = false
is_success Failed = false
is_success Aborted = false
is_success Incomplete = false

-- each leaf is started once at most, so there are at most as many starts as leaves
abbrev pub accepted : ℕ → List ℕ → List (List ℕ) → DrillJob → Play → Play
accepted k user nodes job next =
    executed (length nodes * length job.steps) user nodes job []
    (λ marks. Print (over_line k (is_success (status_of (drill_plan nodes job) marks))) next)

-- a line for each node that the user may not run
abbrev pub drops : ℕ → List NodeDecision → Play → Play
drops k [] next = next
drops k (d ∷ ds) next =
    if is_allowed d.decision then drops k ds next
    else Print (drop_line k d.node d.decision) (drops k ds next)

-- the refusal's line, which speaks of the job's first node
abbrev pub refused : ℕ → List NodeDecision → Play → Play
refused k [] next = next
refused k (d ∷ ds) next = Print (denial_line k d.node d.decision) next

-- refused where the user may run none of the job's nodes
abbrev pub authorized : ℕ → List ℕ → DrillJob → List NodeDecision → List (List ℕ) → Play → Play
authorized k user job decisions [] next = refused k decisions next
authorized k user job decisions (node ∷ nodes) next =
    drops k decisions (accepted k user (node ∷ nodes) job next)

-- one run, of a job that there is
abbrev pub one_run : Policies → ℕ → DrillRun → Option DrillJob → Play → Play
one_run policies k r None next = next
one_run policies k r (Some job) next =
    Print (run_line k r.user r.job)
    (authorized k r.user job (node_decisions policies r.user job.nodes)
    (job_targets policies r.user job) next)

-- the runs from number k on
abbrev pub all_runs : Policies → List DrillJob → ℕ → List DrillRun → Play → Play
all_runs policies jobs k [] next = next
all_runs policies jobs k (r ∷ rs) next =
    one_run policies k r (job_at jobs r.job) (all_runs policies jobs (k + 1) rs next)

-- what a drill of the script does
abbrev pub play_of : Script → Play
play_of s = all_runs (script_policies s) s.jobs 1 s.runs Over

-- what it prints and starts, where the programs end so
abbrev pub drill : Script → List Ending → Transcript
drill s endings = transcript (play_of s) endings

-- A start that the access lines allow: of a node that they let its user run, with the words of
-- that step of a job of the script that has the node and that the user runs.
pub record IsAllowedStart (s : Script) (a : Start) : Type 0 where
  pub allowed : is_allowed (on_node s a.user a.node) ≡ true
  pub job : DrillJob
  pub listed : job_at s.jobs job.id ≡ Some job
  pub run : Contains s.runs (record { user = a.user; job = job.id })
  pub node : Contains job.nodes a.node
  pub before : List (List (List ℕ))
  pub behind : List (List (List ℕ))
  pub words : job.steps ≡ before ++ a.words ∷ behind
  pub step : a.step ≡ length before + 1
