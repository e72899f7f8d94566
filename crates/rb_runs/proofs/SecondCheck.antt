-- The second check of a leaf that may start.
use Rattle.std.proofs.Common.{◌≡◌, ◌∙◌, ℕ, List, [], ◌∷◌, map, Bool, true, false, not, ◌&&◌, ◌||◌, cond, Option, Some, None, is_some, slice_get, option_to_list, ap, sym, refl, arith, if◌then◌else◌}
use Rattle.rb_causes.specs.declared.row.Row.{Row}
use Rattle.rb_acl.specs.Deciding.{is_allowed}
use Rattle.rb_acl.specs.declared.policy.Decision.{Decision}
use Rattle.rb_marks.specs.First.{first_startable, opens}
use Rattle.rb_marks.specs.declared.mark.Leaf.{Leaf}
use Rattle.rb_node.specs.declared.node.Node.{Node}
use Rattle.rb_plan.specs.Access.{node_run}
use Rattle.rb_plan.specs.Targets.{dropped}
use Rattle.rb_plan.specs.declared.accepted.Dropped.{Dropped}
use Rattle.rb_log.specs.Claims.{refused_again}
use Rattle.rb_log.specs.Executions.{Execution, access_of, executions, is_running}
use Rattle.rb_log.specs.Legal.{IsLegalLog}
use Rattle.rb_log.specs.LogState.{LogState, policies_in_force}
use Rattle.rb_log.specs.Sums.{open_leaves}
use Rattle.rb_tables.specs.LogLaws.{LogLaws}
use Rattle.rb_tables.specs.Running.{has_open_leaf}
use Rattle.rb_tables.proofs.OpenStatus.{runs_told}

-- ---- what may start runs

or_true : (b : Bool) → (b || true) ≡ true
or_true true = refl
or_true false = refl

pub starts_run : LogLaws → (past : List Row) (k : ℕ) (e : Execution) (leaf : Leaf)
    → IsLegalLog past → slice_get (executions past) k ≡ Some e
    → first_startable e.accepted.plan e.marks ≡ Some leaf → is_running e ≡ true
starts_run laws past k e leaf legal get first =
    let opened : Bool = has_open_leaf e.number (open_leaves past) in
    sym (runs_told laws past k e legal get) ∙ ap (λ o. opened || is_some o) first
    ∙ or_true opened

-- ---- the check

-- the decision on a node, and what is told of one
abbrev pub decide : LogState → Execution → Node → Decision
decide s e node = node_run (access_of (policies_in_force s) e) node

abbrev pub told : LogState → Execution → Node → Dropped
told s e node = record { node = node.name; decision = decide s e node }

-- there is one, and the leaf opens its unit
abbrev pub checks : LogState → Execution → Leaf → Bool
checks s e leaf = s.checks && opens e.accepted.plan e.marks leaf

-- what it gives, by these tests
abbrev given : LogState → Execution → Bool → Option Node → List Dropped
given s e b o = if b then dropped (decide s e) (option_to_list o) else []

abbrev given_of : LogState → Execution → Node → Bool → List Dropped
given_of s e node allowed = map (told s e) (cond (not allowed) (node ∷ []) [])

none_given : (b : Bool) → ◌≡◌ {A = List Dropped} (if b then [] else []) []
none_given true = refl
none_given false = refl

module _ (s : LogState) (e : Execution) (leaf : Leaf) where
  pub unchecked : checks s e leaf ≡ false → refused_again s e leaf ≡ []
  unchecked h = ap (λ b. given s e b (slice_get e.accepted.nodes leaf.node)) h

  pub allowed_again : (node : Node) → slice_get e.accepted.nodes leaf.node ≡ Some node
      → is_allowed (decide s e node) ≡ true → refused_again s e leaf ≡ []
  allowed_again node found allowed =
      ap (given s e (checks s e leaf)) found
      ∙ ap (λ b. if checks s e leaf then given_of s e node b else []) allowed
      ∙ none_given (checks s e leaf)

  -- where each node is allowed none is refused
  pub none_again : (o : Option Node) → slice_get e.accepted.nodes leaf.node ≡ o
      → ((node : Node) → slice_get e.accepted.nodes leaf.node ≡ Some node
      → is_allowed (decide s e node) ≡ true) → refused_again s e leaf ≡ []
  none_again None found allowed =
      ap (given s e (checks s e leaf)) found ∙ none_given (checks s e leaf)
  none_again (Some node) found allowed = allowed_again node found (allowed node found)

  pub denied_again : (node : Node) → checks s e leaf ≡ true
      → slice_get e.accepted.nodes leaf.node ≡ Some node
      → is_allowed (decide s e node) ≡ false → refused_again s e leaf ≡ told s e node ∷ []
  denied_again node checked found denied =
      ap (λ b. given s e b (slice_get e.accepted.nodes leaf.node)) checked
      ∙ ap (given s e true) found
      ∙ ap (given_of s e node) denied

-- ---- what was refused

-- The node of the leaf, which opens its unit, is refused with this decision.
pub record IsRefused (s : LogState) (e : Execution) (leaf : Leaf) (decision : Decision) : Type 0 where
  pub node : Node
  pub found : slice_get e.accepted.nodes leaf.node ≡ Some node
  pub opening : opens e.accepted.plan e.marks leaf ≡ true
  pub is : decision ≡ decide s e node
  pub again : refused_again s e leaf ≡ told s e node ∷ []

abbrev decisions : List Dropped → List Decision
decisions ds = map (λ d. d.decision) ds

abbrev head_or : List Decision → Decision → Decision
head_or [] other = other
head_or (d ∷ ds) other = d

module _ (s : LogState) (e : Execution) (leaf : Leaf) (decision : Decision) where
  refused_by : (node : Node) (b : Bool) → is_allowed (decide s e node) ≡ b
      → s.checks ≡ true → opens e.accepted.plan e.marks leaf ≡ true
      → slice_get e.accepted.nodes leaf.node ≡ Some node
      → decisions (given_of s e node b) ≡ decision ∷ [] → IsRefused s e leaf decision
  refused_by node true allowed check opening found h = absurd (grind (arith, h))
  refused_by node false denied check opening found h = record {
    node = node;
    found = found;
    opening = opening;
    is = ap (λ ds. head_or ds decision) (sym h);
    again = denied_again s e leaf node
        (ap (λ b. b && opens e.accepted.plan e.marks leaf) check ∙ opening) found denied;
  }

  refused_in : (o : Option Node) → s.checks ≡ true → opens e.accepted.plan e.marks leaf ≡ true
      → slice_get e.accepted.nodes leaf.node ≡ o
      → decisions (given s e true o) ≡ decision ∷ [] → IsRefused s e leaf decision
  refused_in None check opening found h = absurd (grind (arith, h))
  refused_in (Some node) check opening found h =
      refused_by node (is_allowed (decide s e node)) refl check opening found h

  refused_where : (b c : Bool) → s.checks ≡ b → opens e.accepted.plan e.marks leaf ≡ c
      → decisions (given s e (b && c) (slice_get e.accepted.nodes leaf.node)) ≡ decision ∷ []
      → IsRefused s e leaf decision
  refused_where true true check opening h =
      refused_in (slice_get e.accepted.nodes leaf.node) check opening refl h
  refused_where true false check opening h = absurd (grind (arith, h))
  refused_where false c check opening h = absurd (grind (arith, h))

  pub refused_is : map (λ d. d.decision) (refused_again s e leaf) ≡ decision ∷ []
      → IsRefused s e leaf decision
  refused_is h = refused_where s.checks (opens e.accepted.plan e.marks leaf) refl refl h
