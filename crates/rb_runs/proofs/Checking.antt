-- The second check of a start, as the tables make it.
use Rattle.std.proofs.Common.{◌≡◌, ◌∙◌, ◌<◌, ◌&&◌, ℕ, List, [], ◌∷◌, length, map, Bool, true, false, Contains, Some, None, slice_get, get_or, unwrap_or, ap, sym, subst, refl, arith}
use Rattle.std.proofs.lemmas.List.{length-map}
use Rattle.std.proofs.lemmas.Option.{slice_get-get_or, slice_get_read, slice_get_within}
use Rattle.rb_causes.specs.declared.row.Row.{Row}
use Rattle.rb_acl.specs.Deciding.{is_allowed}
use Rattle.rb_acl.specs.Naming.{IsNamed}
use Rattle.rb_acl.specs.declared.policy.Caller.{Caller}
use Rattle.rb_acl.specs.declared.policy.Context.TheVariants.{Project}
use Rattle.rb_acl.specs.declared.policy.Decision.{Decision}
use Rattle.rb_acl.specs.declared.policy.Policies.{Policies}
use Rattle.rb_marks.specs.First.{opens}
use Rattle.rb_marks.specs.Units.{outline}
use Rattle.rb_node.specs.declared.node.Node.{Node}
use Rattle.rb_plan.specs.Access.{node_run}
use Rattle.rb_plan.specs.declared.world.World.{World}
use Rattle.rb_log.specs.Claims.{refused_again}
use Rattle.rb_log.specs.Executions.{Execution as LoggedExecution, executions}
use Rattle.rb_log.specs.LogState.{log_state, policies_in_force}
use Rattle.rb_log.specs.Withdrawals.{AcceptedMayBeRun}
use Rattle.rb_tables.specs.LogLaws.{LogLaws}
use Rattle.rb_tables.specs.Progress.{IsProgress, IsRunState, HasEnded}
use Rattle.rb_tables.specs.Tables.{IsEntry, IsTabled}
use Rattle.rb_tables.specs.declared.execution.Execution.{Execution}
use Rattle.rb_tables.specs.declared.progress.Progress.TheVariants.{Going, Over}
use Rattle.rb_tables.specs.declared.progress.Results.{Results}
use Rattle.rb_tables.specs.declared.progress.RunState.{RunState}
use Rattle.rb_tables.specs.declared.tables.Tables.{Tables}
use Rattle.rb_tables.proofs.FewLeaves.{has_leaf}
use Rattle.rb_tables.proofs.Saying.{read_is}
use Rattle.rb_runs.specs.Claiming.{IsChecked, IsStart}
use Rattle.rb_runs.specs.declared.claiming.Start.{Start}
use Rattle.rb_runs.proofs.NamedRules.{run_is_named}
use Rattle.rb_runs.proofs.SecondCheck.{IsRefused, allowed_again, checks, decide, denied_again, none_again, starts_run, told, unchecked}

and_false : (b : Bool) → (b && false) ≡ false
and_false true = refl
and_false false = refl

-- what stands at a place is in the list
contained : (nodes : List Node) (place : ℕ) (node : Node) → slice_get nodes place ≡ Some node
    → Contains nodes node
contained nodes place node found =
    let low = slice_get_within nodes place node found in
    (place, low, ap (λ o. unwrap_or o node) (sym (slice_get-get_or nodes place node low) ∙ found))

-- ---- it is told of the one execution

start_is : (past : List Row) (start : Start) (is : IsStart past start) (e : LoggedExecution)
    → slice_get (executions past) start.place ≡ Some e → is.execution ≡ e
start_is past start is e get = ap (λ o. unwrap_or o e) (sym is.found ∙ get)

checked_none : (past : List Row) (start : Start) (is : IsStart past start)
    → refused_again (log_state past) is.execution start.leaf ≡ [] → IsChecked past start None
checked_none past start is h e get =
    ap (λ (x : LoggedExecution). refused_again (log_state past) x start.leaf)
    (sym (start_is past start is e get)) ∙ h

checked_some : (past : List Row) (start : Start) (is : IsStart past start) (decision : Decision)
    → map (λ d. d.decision) (refused_again (log_state past) is.execution start.leaf)
    ≡ decision ∷ [] → IsChecked past start (Some decision)
checked_some past start is decision h e get =
    ap (λ (x : LoggedExecution). map (λ d. d.decision) (refused_again (log_state past) x start.leaf))
    (sym (start_is past start is e get)) ∙ h

module _ (t : Tables) (past : List Row) (tabled : IsTabled t past) (start : Start)
    (is : IsStart past start) (x : Execution) (read : x ≡ get_or t.executions.items start.place x)
  where
    pub entry : IsEntry x is.execution
    entry = read_is t past tabled.says start.place is.execution is.found x read

    policies_are : t.world.policies ≡ policies_in_force (log_state past)
    policies_are = ap (λ (w : World). w.policies) tabled.says.world

    -- one that is over has no leaf that may start
    pub none_over : LogLaws → (r : Results) → x.progress ≡ Over r → IsChecked past start None
    none_over laws r over =
        let ended : HasEnded r is.execution =
        subst (λ p. IsProgress p is.execution) over entry.is.progress in
        let wrong : true ≡ false =
        sym (starts_run laws past start.place is.execution start.leaf tabled.legal is.found is.first)
        ∙ ended.ended in
        absurd (grind (arith, wrong))

    pub run_state : (g : RunState) → x.progress ≡ Going g → IsRunState g is.execution
    run_state g going = subst (λ p. IsProgress p is.execution) going entry.is.progress

    -- the policies are those of its acceptance
    pub none_since : AcceptedMayBeRun → x.policy_number ≡ t.world.policy_number
        → IsChecked past start None
    none_since may_be_run same =
        let number : is.execution.policy_number ≡ (log_state past).policy_number =
        sym (ap (λ (l : LoggedExecution). l.policy_number) entry.is.same) ∙ same
        ∙ ap (λ (w : World). w.policy_number) tabled.says.world in
        checked_none past start is (none_again (log_state past) is.execution start.leaf
        (slice_get is.execution.accepted.nodes start.leaf.node) refl (λ node found.
        may_be_run past start.place is.execution node is.found number
        (contained is.execution.accepted.nodes start.leaf.node node found)))

    -- there is no check
    pub none_without : t.checks ≡ false → IsChecked past start None
    none_without h =
        checked_none past start is (unchecked (log_state past) is.execution start.leaf
        (ap (λ b. b && opens is.execution.accepted.plan is.execution.marks start.leaf)
        (sym tabled.says.checks ∙ h)))

    opening_is : (g : RunState) → x.progress ≡ Going g → (b : Bool)
        → b ≡ opens (outline g.flow.plan) g.flow.marks start.leaf
        → b ≡ opens is.execution.accepted.plan is.execution.marks start.leaf
    opening_is g going b told =
        let flow = (run_state g going).flow in
        told ∙ ap (λ p. opens p g.flow.marks start.leaf) flow.plan
        ∙ ap (λ ms. opens is.execution.accepted.plan ms start.leaf) flow.marks

    -- the unit is open already
    pub none_unopened : (g : RunState) → x.progress ≡ Going g → (b : Bool)
        → b ≡ opens (outline g.flow.plan) g.flow.marks start.leaf → b ≡ false
        → IsChecked past start None
    none_unopened g going b told h =
        checked_none past start is (unchecked (log_state past) is.execution start.leaf
        (ap (λ c. (log_state past).checks && c) (sym (opening_is g going b told) ∙ h)
        ∙ and_false (log_state past).checks))

    pub node_low : LogLaws → (g : RunState) → x.progress ≡ Going g → (nodes : List Node)
        → nodes ≡ g.nodes → start.leaf.node < length nodes
    node_low laws g going nodes are =
        subst (λ ns. start.leaf.node < length ns) (sym (are ∙ (run_state g going).nodes))
        (has_leaf laws past start.place is.execution start.leaf tabled.legal is.found is.first).node

    -- ---- the node of the leaf, and the decision on it

    module _ (laws : LogLaws) (g : RunState) (going : x.progress ≡ Going g) (nodes : List Node)
        (are : nodes ≡ g.nodes) (node : Node) (item : node ≡ get_or nodes start.leaf.node node)
        (project : List ℕ) (named : project ≡ x.project) (decision : Decision)
        (decides : decision ≡ node_run (record {
          policies = t.world.policies;
          caller = x.caller;
          here = Project project;
        }) node) where
      node_found : slice_get is.execution.accepted.nodes start.leaf.node ≡ Some node
      node_found =
          ap (λ ns. slice_get ns start.leaf.node) (sym (are ∙ (run_state g going).nodes))
          ∙ slice_get_read nodes (length nodes) start.leaf.node node refl
          (node_low laws g going nodes are) item

      decision_is : decision ≡ decide (log_state past) is.execution node
      decision_is =
          decides
          ∙ ap (λ (p : Policies). node_run (record {
            policies = p;
            caller = x.caller;
            here = Project project;
          }) node) policies_are
          ∙ ap (λ (c : Caller). node_run (record {
            policies = policies_in_force (log_state past);
            caller = c;
            here = Project project;
          }) node) (ap (λ (l : LoggedExecution). l.caller) entry.is.same)
          ∙ ap (λ (n : List ℕ). node_run (record {
            policies = policies_in_force (log_state past);
            caller = is.execution.caller;
            here = Project n;
          }) node) (named ∙ ap (λ (l : LoggedExecution). l.accepted.project) entry.is.same)

      pub none_allowed : (b : Bool) → b ≡ is_allowed decision → b ≡ true → IsChecked past start None
      none_allowed b told h =
          checked_none past start is (allowed_again (log_state past) is.execution start.leaf node
          node_found (ap is_allowed (sym decision_is) ∙ sym told ∙ h))

      pub some_denied : (b c : Bool) → b ≡ is_allowed decision → b ≡ false → t.checks ≡ true
          → c ≡ opens (outline g.flow.plan) g.flow.marks start.leaf → c ≡ true
          → IsChecked past start (Some decision)
      some_denied b c told h check opened first =
          checked_some past start is decision
          (ap (λ ds. map (λ d. d.decision) ds) (denied_again (log_state past) is.execution start.leaf
          node
          (ap (λ k. k && opens is.execution.accepted.plan is.execution.marks start.leaf)
          (sym tabled.says.checks ∙ check) ∙ sym (opening_is g going c opened) ∙ first)
          node_found (ap is_allowed (sym decision_is) ∙ sym told ∙ h))
          ∙ ap (λ d. d ∷ []) (sym decision_is))

    -- ---- its name, and the clause of the decision

    pub name_low : LogLaws → (names : List (List ℕ)) → names ≡ x.nodes
        → start.leaf.node < length names
    name_low laws names are =
        let low = (has_leaf laws past start.place is.execution start.leaf tabled.legal is.found
        is.first).node in
        let many = ap length (are ∙ entry.is.names) in
        omega (
          arith,
          low,
          many,
          length-map is.execution.accepted.nodes (λ (n : Node). n.name),
        )

    pub name_there : LogLaws → (names : List (List ℕ)) (name : List ℕ) → names ≡ x.nodes
        → name ≡ get_or names start.leaf.node name
        → slice_get (map (λ n. n.name) is.execution.accepted.nodes) start.leaf.node ≡ Some name
    name_there laws names name are item =
        ap (λ ns. slice_get ns start.leaf.node) (sym (are ∙ entry.is.names))
        ∙ slice_get_read names (length names) start.leaf.node name refl (name_low laws names are) item

    pub clause_named : (decision : Decision)
        → IsRefused (log_state past) is.execution start.leaf decision
        → IsNamed t.world.policies decision
    clause_named decision r =
        subst (λ p. IsNamed p decision) (sym policies_are)
        (subst (IsNamed (policies_in_force (log_state past))) (sym r.is)
        (run_is_named (record {
          policies = policies_in_force (log_state past);
          caller = is.execution.caller;
          here = Project is.execution.accepted.project;
        }) r.node))
