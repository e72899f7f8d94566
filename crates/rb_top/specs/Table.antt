-- What a table of the access lines tells of each user on each node.
use Rattle.std.specs.Prelude.{◌≡◌, ℕ, Bool, List, map, Option, Some, None, if◌then◌else◌}
use Rattle.std.specs.BTreeMap.{get_by_text}
use Rattle.rb_acl.specs.declared.policy.Clause.{Clause}
use Rattle.rb_acl.specs.declared.policy.Decision.{Decision}
use Rattle.rb_acl.specs.declared.policy.Decision.TheVariants.{Allowed, Denied, NoneAllows}
use Rattle.rb_acl.specs.declared.policy.Policies.{Policies}
use Rattle.rb_top.specs.Access.{run_decision}
use Rattle.rb_top.specs.declared.access.NodeDecision.{NodeDecision}
use Rattle.rb_top.specs.declared.access_table.AccessTable.{AccessTable}
use Rattle.rb_top.specs.declared.access_table.NodeRulings.{NodeRulings}

-- the one clause of the document of the line that stands behind as many others
abbrev pub clause_of : ℕ → Clause
clause_of place = record { doc = place; type_index = 0; rule = 0 }

-- the decision with one line more, behind those that gave this one: the first that denies decides,
-- else the first that allows
abbrev pub ruled : Bool → ℕ → Decision → Decision
ruled denies place (Denied clause) = Denied clause
ruled denies place (Allowed clause) = if denies then Denied (clause_of place) else Allowed clause
ruled denies place NoneAllows =
    if denies then Denied (clause_of place) else Allowed (clause_of place)

abbrev pub or_none : Option Decision → Decision
or_none (Some decision) = decision
or_none None = NoneAllows

-- what the lines of one user say of a node
abbrev pub ruling_on : NodeRulings → List ℕ → Decision
ruling_on rulings node = or_none (get_by_text rulings.nodes node)

abbrev pub ruling_of : Option NodeRulings → List ℕ → Decision
ruling_of (Some rulings) node = ruling_on rulings node
ruling_of None node = NoneAllows

-- what the table says of a user on a node
abbrev pub told : AccessTable → List ℕ → List ℕ → Decision
told table user node = ruling_of (get_by_text table.users user) node

-- and on each of some nodes
abbrev pub told_on : AccessTable → List ℕ → List (List ℕ) → List NodeDecision
told_on table user nodes = map (λ node. record { node = node; decision = told table user node }) nodes

-- the table tells the decisions of these policies
abbrev pub Tells : Policies → AccessTable → Type 0
Tells policies table =
    (user node : List ℕ) → told table user node ≡ run_decision policies user node
