-- What a verdict means beyond the rules that make it.
use Rattle.std.specs.Prelude.{◌≡◌, ◌<◌, ◌≤◌, ◌⊎◌, ◌↔◌, ℕ, ◌+◌, ◌*◌, false, true, List, length, map, Contains, Some, is_some, Ok, Err}
use Rattle.rb_acl.specs.declared.policy.Caller.{Caller}
use Rattle.rb_acl.specs.Deciding.{is_allowed}
use Rattle.rb_job.specs.declared.job.JobAct.{JobAct}
use Rattle.rb_job.specs.declared.job.JobAct.TheVariants.{Exec, Script, Refer}
use Rattle.rb_job.specs.declared.job.JobStep.{JobStep}
use Rattle.rb_job.specs.declared.job.Orchestrator.{Orchestrator}
use Rattle.rb_job.specs.declared.job.Orchestrator.TheVariants.{Subset}
use Rattle.rb_causes.specs.Texts.{differ}
use Rattle.rb_marks.specs.Sound.{IsSound}
use Rattle.rb_marks.specs.declared.mark.Leaf.{Leaf}
use Rattle.rb_node.specs.declared.node.Node.{Node}
use Rattle.rb_plan.specs.Acceptance.{Acceptance}
use Rattle.rb_plan.specs.Holds.{Reaches, IsChosen, RuleHolds}
use Rattle.rb_plan.specs.Inlined.{Site, command_at}
use Rattle.rb_plan.specs.Resolved.{Path}
use Rattle.rb_plan.specs.Refusals.{refusal_number}
use Rattle.rb_plan.specs.Sound.{IsSoundWorld, HasSoundLeaves, IsLeafOf}
use Rattle.rb_plan.specs.Verdict.{Asked, may_run, may_run_on, verdict_of}
use Rattle.rb_plan.specs.Words.{prefix_words, command_words, words_at}
use Rattle.rb_plan.specs.Worlds.{job_found}
use Rattle.rb_plan.specs.declared.world.World.{World}
use Rattle.rb_plan.specs.declared.world.Project.{Project}
use Rattle.rb_plan.specs.declared.world.HeldJob.{HeldJob}
use Rattle.rb_plan.specs.declared.world.RunAsk.{RunAsk}
use Rattle.rb_plan.specs.declared.accepted.Command.{Command}
use Rattle.rb_plan.specs.declared.refusal.Refusal.{Refusal}
use Rattle.rb_plan.specs.declared.refusal.Refusal.TheVariants.{NoJob}

-- the job that is asked for is held where it says
abbrev pub IsAsked : Asked → Type 0
IsAsked a = job_found a.world a.ask.job ≡ Some a.found

-- it is refused so, and accepted so
abbrev pub RunIsRefused : Asked → Refusal → Type 0
RunIsRefused a refusal = verdict_of a.world a.caller a.ask a.draw ≡ Err refusal

abbrev pub RunIsAccepted : Asked → Acceptance → Type 0
RunIsAccepted a accepted = verdict_of a.world a.caller a.ask a.draw ≡ Ok accepted

-- NoJob comes exactly where no project holds a job of the id
abbrev pub NoJobIsExact : Type 0
NoJobIsExact = (world : World) (caller : Caller) (ask : RunAsk) (draw : ℕ) →
    (verdict_of world caller ask draw ≡ Err NoJob)
    ↔ ((project : Project) (held : HeldJob) → Contains world.projects project
    → Contains project.jobs held → held.id ≡ ask.job → ⊥)

-- the rule of the refusal that is told holds
abbrev pub RefusalHolds : Type 0
RefusalHolds =
    (a : Asked) (refusal : Refusal) → IsAsked a → RunIsRefused a refusal → RuleHolds a refusal

-- and no rule that is looked at before it does
abbrev pub NoEarlierHolds : Type 0
NoEarlierHolds = (a : Asked) (refusal earlier : Refusal) → IsAsked a → RunIsRefused a refusal
    → refusal_number earlier < refusal_number refusal → RuleHolds a earlier → ⊥

-- where a run is accepted, no rule of refusal holds
abbrev pub NoneHoldsOfAccepted : Type 0
NoneHoldsOfAccepted = (a : Asked) (accepted : Acceptance) (refusal : Refusal) → IsAsked a
    → RunIsAccepted a accepted → RuleHolds a refusal → ⊥

-- a run that no rule refuses is accepted
abbrev pub UnrefusedIsAccepted : Type 0
UnrefusedIsAccepted = (a : Asked) → IsAsked a → ((refusal : Refusal) → RuleHolds a refusal → ⊥)
    → (accepted : Acceptance) × RunIsAccepted a accepted

-- in a sound world the plan can be run, and its leaves have words
abbrev pub AcceptedIsSound : Type 0
AcceptedIsSound = (a : Asked) (accepted : Acceptance) → IsSoundWorld a.world → IsAsked a
    → RunIsAccepted a accepted → IsSound accepted.plan × HasSoundLeaves accepted

-- there are at most 100,000 leaves
abbrev pub LeavesAreFew : Type 0
LeavesAreFew = (a : Asked) (accepted : Acceptance) → IsAsked a → RunIsAccepted a accepted
    → length accepted.nodes * accepted.plan.slots ≤ 100000

-- there are at most 1,000 commands
abbrev pub CommandsAreFew : Type 0
CommandsAreFew = (a : Asked) (accepted : Acceptance) → IsAsked a → RunIsAccepted a accepted
    → length accepted.commands ≤ 1000

-- each node of an accepted run is one that is selected and that the caller may run
abbrev pub NodesMayBeRun : Type 0
NodesMayBeRun = (a : Asked) (accepted : Acceptance) (node : Node) → IsAsked a
    → RunIsAccepted a accepted → Contains accepted.nodes node
    → IsChosen a node × (is_allowed (may_run_on a node) ≡ true)

-- in a sound world they differ
abbrev pub NodesDiffer : Type 0
NodesDiffer = (a : Asked) (accepted : Acceptance) → IsSoundWorld a.world → IsAsked a
    → RunIsAccepted a accepted → differ (map (λ node. node.name) accepted.nodes) ≡ true

-- each dropped node is one that is selected and that the caller may not run
abbrev pub DroppedMayNotBeRun : Type 0
DroppedMayNotBeRun = (a : Asked) (accepted : Acceptance) → IsAsked a → RunIsAccepted a accepted
    → (nodes : List Node)
    × (accepted.dropped
    ≡ map (λ node. record { node = node.name; decision = may_run_on a node }) nodes)
    × ((node : Node)
    → Contains nodes node ↔ (IsChosen a node × (is_allowed (may_run_on a node) ≡ false)))

abbrev pub IsSubset : Orchestrator → Type 0
IsSubset orchestrator = (count : ℕ) × (orchestrator ≡ Subset count)

-- without a subset each selected node that may be run is one of the run
abbrev pub EachNodeIsRun : Type 0
EachNodeIsRun = (a : Asked) (accepted : Acceptance) (node : Node) → IsAsked a
    → RunIsAccepted a accepted
    → (IsSubset a.found.held.job.orchestrator → ⊥) → IsChosen a node
    → is_allowed (may_run_on a node) ≡ true → Contains accepted.nodes node

-- each job to which a path of references leads may be run by the caller, and no path is longer than
-- eight
abbrev pub ReferencesMayBeRun : Type 0
ReferencesMayBeRun = (a : Asked) (accepted : Acceptance) (path : Path) (end : Site) → IsAsked a
    → RunIsAccepted a accepted → Reaches a path end
    → (is_allowed (may_run a end.held) ≡ true) × (length path ≤ 8)

-- a job's step does this, or is handled so
abbrev pub Does : HeldJob → JobAct → Type 0
Does held act = (s : JobStep) × Contains held.job.steps s × ((s.act ≡ act) ⊎ (s.handler ≡ Some act))

-- each command is what a job does to which some path of references leads, with that job's names and
-- values
abbrev pub CommandsAreReached : Type 0
CommandsAreReached = (a : Asked) (accepted : Acceptance) (command : Command) → IsAsked a
    → RunIsAccepted a accepted → Contains accepted.commands command
    → (path : Path) × (end : Site) × Reaches a path end × Does end.held command.act
    × (command ≡ command_at end command.act)

-- how many words an act has before anything is put in
abbrev pub act_length : JobAct → ℕ
act_length (Exec words) = length words
act_length (Script text args) = 4 + length args
act_length (Refer group name args) = 0

-- what is put in makes no more words and no fewer
abbrev pub WordsStayApart : Type 0
WordsStayApart =
    (project : List ℕ) (node : Node) (command : Command) (execution : ℕ) (user : List ℕ) →
    length (command_words project node command execution user)
    ≡ length (prefix_words node) + act_length command.act

-- a leaf of an acceptance with sound leaves has words
abbrev pub LeafHasWords : Type 0
LeafHasWords = (accepted : Acceptance) (leaf : Leaf) (execution : ℕ) (user : List ℕ) →
    HasSoundLeaves accepted → IsLeafOf accepted leaf
    → is_some (words_at accepted leaf execution user) ≡ true
