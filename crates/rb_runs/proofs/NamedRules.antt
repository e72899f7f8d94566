-- The decisions of a verdict name rules of the policies.
use Rattle.std.proofs.Common.{◌≡◌, ◌≤◌, ℕ, zero, suc, List, [], ◌∷◌, length, map, codes, Bool, true, false, Option, Some, None, Result, Ok, Err, ap, sym, subst, refl, arith, if◌then◌else◌}
use Rattle.rb_acl.specs.Applying.{question_of}
use Rattle.rb_acl.specs.Deciding.{is_allowed}
use Rattle.rb_acl.specs.Naming.{IsNamed}
use Rattle.rb_acl.specs.declared.policy.Caller.{Caller}
use Rattle.rb_acl.specs.declared.policy.Context.TheVariants.{Project}
use Rattle.rb_acl.specs.declared.policy.Decision.{Decision}
use Rattle.rb_acl.specs.declared.policy.Policies.{Policies}
use Rattle.rb_node.specs.declared.node.Node.{Node}
use Rattle.rb_plan.specs.Acceptance.{Acceptance}
use Rattle.rb_plan.specs.Access.{Access, node_decision, node_run, job_resource, node_resource}
use Rattle.rb_plan.specs.Holds.{RuleHolds}
use Rattle.rb_plan.specs.Laws.{RefusalHolds}
use Rattle.rb_plan.specs.Sound.{IsSoundWorld}
use Rattle.rb_plan.specs.Verdict.{Asked, may_run, may_run_on, access_of, verdict_of, verdict_on}
use Rattle.rb_plan.specs.Worlds.{Found, job_found}
use Rattle.rb_plan.specs.declared.refusal.Refusal.{Refusal}
use Rattle.rb_plan.specs.declared.refusal.Refusal.TheVariants.{NoJob, JobDenied, BadReference, ReferenceDenied, Disabled, AlreadyRunning, BadOption, NoNodeSelected, NoNodeAllowed, TooLarge}
use Rattle.rb_plan.specs.declared.world.HeldJob.{HeldJob}
use Rattle.rb_plan.specs.declared.world.RunAsk.{RunAsk}
use Rattle.rb_plan.specs.declared.world.World.{World}
use Rattle.rb_tables.proofs.Rights.{decision_is_named}
use Rattle.rb_runs.specs.Asking.{AreNamed, MayBegin}
use Rattle.rb_runs.specs.Refusing.{HasNamedDecision}
use Rattle.rb_runs.specs.RunLaws.{RunLaws}

-- that on running a job
job_is_named : (a : Asked) (held : HeldJob) → IsNamed a.world.policies (may_run a held)
job_is_named a held =
    decision_is_named a.world.policies
    (question_of a.caller (Project a.found.project.name) (job_resource held) (codes "run"))

either_named : (policies : Policies) (b : Bool) (x y : Decision) → IsNamed policies x
    → IsNamed policies y → IsNamed policies (if b then x else y)
either_named policies true x y h k = h
either_named policies false x y h k = k

-- and that on running a node
pub run_is_named : (access : Access) (node : Node) → IsNamed access.policies (node_run access node)
run_is_named access node =
    let named : (action : List ℕ) → IsNamed access.policies (node_decision access action node) =
    λ action. decision_is_named access.policies
    (question_of access.caller access.here (node_resource node) action) in
    either_named access.policies (is_allowed (node_decision access (codes "read") node))
    (node_decision access (codes "run") node) (node_decision access (codes "read") node)
    (named (codes "run")) (named (codes "read"))

node_is_named : (a : Asked) (node : Node) → IsNamed a.world.policies (may_run_on a node)
node_is_named a node = run_is_named (access_of a) node

-- ---- a refusal

holds_named : (a : Asked) (r : Refusal) → RuleHolds a r → HasNamedDecision a.world.policies r
holds_named a (JobDenied decision) h =
    subst (IsNamed a.world.policies) (sym h.0) (job_is_named a a.found.held)
holds_named a (ReferenceDenied path decision) h =
    subst (IsNamed a.world.policies) (sym h.3) (job_is_named a h.0.held)
holds_named a (NoNodeAllowed name decision) h =
    subst (IsNamed a.world.policies) (sym h.0.3) (node_is_named a h.0.0)
holds_named a NoJob h = tt
holds_named a (BadReference path cause) h = tt
holds_named a Disabled h = tt
holds_named a (AlreadyRunning execution) h = tt
holds_named a (BadOption path fault) h = tt
holds_named a NoNodeSelected h = tt
holds_named a (TooLarge leaves) h = tt

-- the refusal that is told, and another one where none is
abbrev refusal_or : Result Acceptance Refusal → Refusal → Refusal
refusal_or (Ok accepted) other = other
refusal_or (Err refusal) other = refusal

refused_by : RefusalHolds → (world : World) (caller : Caller) (ask : RunAsk) (draw : ℕ)
    (refusal : Refusal) (found : Option Found) → job_found world ask.job ≡ found
    → verdict_of world caller ask draw ≡ Err refusal
    → verdict_on world caller ask draw found ≡ Err refusal
    → HasNamedDecision world.policies refusal
refused_by law world caller ask draw refusal None is told h =
    subst (HasNamedDecision world.policies) (ap (λ r. refusal_or r refusal) h) tt
refused_by law world caller ask draw refusal (Some found) is told h =
    let a : Asked =
    record { world = world; caller = caller; ask = ask; draw = draw; found = found } in
    holds_named a refusal (law a refusal is told)

-- a decision that the refusal of a verdict holds names a rule
pub refusal_is_named : RefusalHolds → (world : World) (caller : Caller) (ask : RunAsk) (draw : ℕ)
    (refusal : Refusal) → verdict_of world caller ask draw ≡ Err refusal
    → HasNamedDecision world.policies refusal
refusal_is_named law world caller ask draw refusal h =
    refused_by law world caller ask draw refusal (job_found world ask.job) refl h h

-- ---- an acceptance

all_named : (policies : Policies) (decide : Node → Decision)
    → ((node : Node) → IsNamed policies (decide node)) → (nodes : List Node)
    → AreNamed policies (map (λ node. record { node = node.name; decision = decide node }) nodes)
all_named policies decide named [] k d h = absurd (omega (arith, h))
all_named policies decide named (node ∷ nodes) zero d h = named node
all_named policies decide named (node ∷ nodes) (suc k) d h =
    all_named policies decide named nodes k d (omega (arith, h))

-- What is accepted can begin, with no more commands than a run may have.
pub record CanBegin (policies : Policies) (accepted : Acceptance) : Type 0 where
  pub may : MayBegin policies accepted
  pub most : length accepted.commands ≤ 1000

accepted_by : RunLaws → (world : World) (caller : Caller) (ask : RunAsk) (draw : ℕ)
    (accepted : Acceptance) (found : Option Found) → IsSoundWorld world
    → job_found world ask.job ≡ found → verdict_of world caller ask draw ≡ Ok accepted
    → verdict_on world caller ask draw found ≡ Ok accepted → CanBegin world.policies accepted
accepted_by laws world caller ask draw accepted None sound is told h =
    absurd (grind (arith, h))
accepted_by laws world caller ask draw accepted (Some found) sound is told h =
    let a : Asked =
    record { world = world; caller = caller; ask = ask; draw = draw; found = found } in
    let runs = laws.accepted a accepted sound is told in
    let dropped = laws.drops a accepted is told in
    record {
      may = record {
        sound = runs.0;
        commands = runs.1.commands;
        nodes = runs.1.nodes;
        few = laws.few a accepted is told;
        named = subst (AreNamed world.policies) (sym dropped.1)
            (all_named world.policies (may_run_on a) (node_is_named a) dropped.0);
      };
      most = laws.commands a accepted is told;
    }

-- so can what is accepted in a sound world
pub can_begin : RunLaws → (world : World) (caller : Caller) (ask : RunAsk) (draw : ℕ)
    (accepted : Acceptance) → IsSoundWorld world
    → verdict_of world caller ask draw ≡ Ok accepted → CanBegin world.policies accepted
can_begin laws world caller ask draw accepted sound h =
    accepted_by laws world caller ask draw accepted (job_found world ask.job) sound refl h h
