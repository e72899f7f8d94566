-- The access lines of a drill file as policies, and whom they let run what.
use Rattle.std.specs.Prelude.{ℕ, ◌+◌, Bool, not, List, [], ◌∷◌, map, filter, codes, if◌then◌else◌}
use Rattle.rb_acl.specs.declared.policy.ByRule.TheVariants.{User}
use Rattle.rb_acl.specs.declared.policy.Caller.{Caller}
use Rattle.rb_acl.specs.declared.policy.Context.{Context}
use Rattle.rb_acl.specs.declared.policy.Context.TheVariants as context
use Rattle.rb_acl.specs.declared.policy.Decision.{Decision}
use Rattle.rb_acl.specs.declared.policy.Policies.{Policies}
use Rattle.rb_acl.specs.declared.policy.Policy.{Policy}
use Rattle.rb_acl.specs.declared.policy.Resource.{Resource}
use Rattle.rb_acl.specs.declared.policy.Rule.{Rule}
use Rattle.rb_acl.specs.declared.policy.Scope.TheVariants as scope
use Rattle.rb_acl.specs.declared.policy.Test.TheVariants.{Equals}
use Rattle.rb_acl.specs.declared.policy.TypeRules.{TypeRules}
use Rattle.rb_text.specs.declared.value.Value.TheVariants.{Plain}
use Rattle.rb_acl.specs.Deciding.{decision_of, is_allowed}
use Rattle.rb_acl.specs.Applying.{question_of}
use Rattle.rb_top.specs.declared.access.NodeDecision.{NodeDecision}
use Rattle.rb_top.specs.declared.script.AccessLine.{AccessLine}
use Rattle.rb_top.specs.declared.script.DrillJob.{DrillJob}
use Rattle.rb_top.specs.declared.script.Script.{Script}

-- the action `run`, or none
abbrev pub run_if : Bool → List (List ℕ)
run_if holds = if holds then codes "run" ∷ [] else []

-- one rule, for one node
abbrev pub rule_of : AccessLine → Rule
rule_of line = record {
  allow = run_if (not line.denies);
  deny = run_if line.denies;
  tests = Equals (codes "nodename") (line.node ∷ []) ∷ [];
}

abbrev pub types_of : AccessLine → TypeRules
types_of line = record { name = codes "node"; rules = rule_of line ∷ [] }

-- The line with the number `place`, from 1, as a policy document: for one user and one node, and
-- the action `run`.
abbrev pub line_policy : ℕ → AccessLine → Policy
line_policy place line = record {
  file = [];
  place = place;
  scope = scope.Project (Plain (codes "drill"));
  by = User (Plain line.user) ∷ [];
  types = types_of line ∷ [];
}

-- numbered from n
abbrev pub line_policies : ℕ → List AccessLine → List Policy
line_policies n [] = []
line_policies n (line ∷ lines) = line_policy n line ∷ line_policies (n + 1) lines

abbrev pub policies_of : List AccessLine → Policies
policies_of lines = record { docs = line_policies 1 lines }

abbrev pub script_policies : Script → Policies
script_policies s = policies_of s.access

abbrev pub caller_of : List ℕ → Caller
caller_of user = record { user = user; groups = [] }

abbrev pub the_context : Context
the_context = context.Project (codes "drill")

abbrev pub resource_of : List ℕ → Resource
resource_of node = record {
  type_name = codes "node";
  props = record { key = codes "nodename"; text = node } ∷ [];
  tags = [];
}

-- the decision of these policies on running a node
abbrev pub run_decision : Policies → List ℕ → List ℕ → Decision
run_decision policies user node =
    decision_of policies (question_of (caller_of user) the_context (resource_of node) (codes "run"))

-- the decision of a script's access lines
abbrev pub on_node : Script → List ℕ → List ℕ → Decision
on_node s user node = run_decision (script_policies s) user node

-- the decision on each of some nodes
abbrev pub node_decisions : Policies → List ℕ → List (List ℕ) → List NodeDecision
node_decisions policies user nodes =
    map (λ node. record { node = node; decision = run_decision policies user node }) nodes

-- the nodes that decisions allow
abbrev pub allowed_of : List NodeDecision → List (List ℕ)
allowed_of decisions = map (λ d. d.node) (filter (λ d. is_allowed d.decision) decisions)

-- the nodes of a job that the user may run, in the job's order
abbrev pub job_targets : Policies → List ℕ → DrillJob → List (List ℕ)
job_targets policies user job =
    filter (λ node. is_allowed (run_decision policies user node)) job.nodes
