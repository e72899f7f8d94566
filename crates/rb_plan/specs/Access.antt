-- Who may do what with a job and with a node.
use Rattle.std.specs.Prelude.{ℕ, List, [], ◌∷◌, ◌++◌, map, zip, codes, if◌then◌else◌}
use Rattle.rb_causes.specs.declared.items.Prop.{Prop}
use Rattle.rb_acl.specs.Applying.{question_of}
use Rattle.rb_acl.specs.Deciding.{decision_of, is_allowed}
use Rattle.rb_acl.specs.declared.policy.Policies.{Policies}
use Rattle.rb_acl.specs.declared.policy.Caller.{Caller}
use Rattle.rb_acl.specs.declared.policy.Context.{Context}
use Rattle.rb_acl.specs.declared.policy.Resource.{Resource}
use Rattle.rb_acl.specs.declared.policy.Decision.{Decision}
use Rattle.rb_node.specs.declared.node.Node.{Node}
use Rattle.rb_plan.specs.declared.world.HeldJob.{HeldJob}

abbrev pub property : List ℕ → List ℕ → Prop
property key text = record { key = key; text = text }

-- a job shows its name, its group and its id
abbrev pub job_props : HeldJob → List Prop
job_props held =
    property (codes "name") held.job.name
    ∷ property (codes "group") held.job.group
    ∷ property (codes "uuid") held.id
    ∷ []

abbrev pub job_resource : HeldJob → Resource
job_resource held =
    record { type_name = codes "job"; props = job_props held; tags = [] }

-- a node shows its attributes, its name under both its names, and its tags
abbrev pub node_props : Node → List Prop
node_props node =
    node.attrs
    ++ property (codes "nodename") node.name
    ∷ property (codes "name") node.name
    ∷ []

abbrev pub node_resource : Node → Resource
node_resource node =
    record { type_name = codes "node"; props = node_props node; tags = node.tags }

-- who asks, where, and by which policies it is decided
pub record Access : Type 0 where
  pub policies : Policies
  pub caller : Caller
  pub here : Context

-- the decision on an action on a resource
abbrev pub decision_on : Access → List ℕ → Resource → Decision
decision_on access action resource =
    decision_of access.policies (question_of access.caller access.here resource action)

-- the decision on an action on a job
abbrev pub job_decision : Access → List ℕ → HeldJob → Decision
job_decision access action held = decision_on access action (job_resource held)

-- whether a job may be run
abbrev pub job_run : Access → HeldJob → Decision
job_run access held = job_decision access (codes "run") held

-- the decision on an action on a node
abbrev pub node_decision : Access → List ℕ → Node → Decision
node_decision access action node = decision_on access action (node_resource node)

-- the action on which a node is refused, or `run`: it is to be read before it is run
abbrev pub run_action : Access → Node → List ℕ
run_action access node =
    if is_allowed (node_decision access (codes "read") node) then codes "run" else codes "read"

-- the decision on `run` where the one on `read` allows, else that one
abbrev pub run_of : Decision → Decision → Decision
run_of read run = if is_allowed read then run else read

-- whether a node may be run on: the decision on `read` where that does not allow, else the one on
-- `run`
abbrev pub node_run : Access → Node → Decision
node_run access node =
    run_of (node_decision access (codes "read") node) (node_decision access (codes "run") node)

-- the same for each of many nodes
abbrev pub run_of_each : List Decision → List Decision → List Decision
run_of_each reads runs = map (λ (read, run). run_of read run) (zip reads runs)
