-- What a claim gives of the leaf that starts: its task, or the withdrawal of its node.
use Rattle.std.proofs.Common.{◌≡◌, ◌∙◌, ℕ, ℤ, List, [], ◌∷◌, map, false, ◌&&◌, nat_eq, Some, None, option_map, unwrap_or, option_to_list, slice_get, IsTrue, ap, sym, subst, refl, eq-eqb, if◌then◌else◌}
use Rattle.std.proofs.lemmas.Option.{slice_get-map}
use Rattle.rb_causes.specs.declared.row.Row.{Row}
use Rattle.rb_acl.specs.declared.policy.Decision.{Decision}
use Rattle.rb_marks.specs.First.{may_withdraw, opens}
use Rattle.rb_marks.specs.declared.mark.Leaf.{Leaf}
use Rattle.rb_node.specs.declared.node.Node.{Node}
use Rattle.rb_log.specs.Claims.{claim_among, execution_words, leaf_number_in, refused_again, taken, task_of}
use Rattle.rb_log.specs.Executions.{Execution, executions, withdrawn_by, withdrawn_node}
use Rattle.rb_log.specs.Legal.{IsLegalLog}
use Rattle.rb_log.specs.LogState.{log_state, policies_in_force, running_executions}
use Rattle.rb_log.specs.Readings.{decision_text}
use Rattle.rb_log.specs.Rows.{begin_row, withdraw_row}
use Rattle.rb_log.specs.declared.answer.Answer.TheVariants as answer
use Rattle.rb_tables.specs.Changes.{IsBeginEffect, IsEffect, IsWithdrawEffect, answer_of, need_of}
use Rattle.rb_tables.specs.LogLaws.{LogLaws}
use Rattle.rb_tables.specs.Tables.{withdrawn_of}
use Rattle.rb_tables.specs.declared.change.Change.{Change}
use Rattle.rb_tables.specs.declared.change.Outcome.TheVariants.{Task, Withdrawn}
use Rattle.rb_tables.specs.declared.change.TableEffect.TheVariants.{Begin, Withdraw}
use Rattle.rb_tables.specs.declared.change.WithdrawEffect.{WithdrawEffect}
use Rattle.rb_tables.proofs.FewLeaves.{has_leaf}
use Rattle.rb_runs.specs.Claiming.{IsClaim, IsStart}
use Rattle.rb_runs.specs.declared.claiming.Start.{Start}
use Rattle.rb_runs.proofs.Changed.{moved_is}
use Rattle.rb_runs.proofs.SecondCheck.{IsRefused, decide}

-- ---- a withdrawal

-- the name at the place of a node
pub name_is : (nodes : List Node) (k : ℕ) (node : Node) (names : List (List ℕ)) (name : List ℕ)
    → slice_get nodes k ≡ Some node → names ≡ map (λ n. n.name) nodes
    → slice_get names k ≡ Some name → name ≡ node.name
name_is nodes k node names name found are get =
    ap (λ o. unwrap_or o name)
    (sym get ∙ ap (λ ns. slice_get ns k) are ∙ slice_get-map (λ n. n.name) nodes k
    ∙ ap (option_map (λ n. n.name)) found)

-- The change withdraws the node of the leaf, by this decision, and tells its clause.
pub record IsWithdrawal (past : List Row) (start : Start) (e : Execution) (decision : Decision)
    (at : ℤ) (change : Change) : Type 0 where
  pub name : List ℕ
  pub named : slice_get (map (λ n. n.name) e.accepted.nodes) start.leaf.node ≡ Some name
  pub outcome : change.outcome ≡ Withdrawn e.number name decision
  pub row : change.row
      ≡ withdraw_row at e.number start.leaf.node (log_state past).policy_number
  pub effect : WithdrawEffect
  pub does : change.effect ≡ Withdraw effect
  pub place : effect.place ≡ start.place
  pub new : withdrawn_of effect.new ≡ record {
    node = start.leaf.node;
    clause = decision_text (policies_in_force (log_state past)) decision;
  }

module _ (past : List Row) (start : Start) (decision : Decision) (at : ℤ) (worker : ℕ)
    (change : Change) (is : IsStart past start)
    (w : IsWithdrawal past start is.execution decision at change)
    (r : IsRefused (log_state past) is.execution start.leaf decision) where
  abbrev row : Row
  row = withdraw_row at is.execution.number start.leaf.node (log_state past).policy_number

  withdraws_moved : claim_among (log_state past) at worker (running_executions (log_state past))
      ≡ record {
        answer = answer.Withdrawn is.execution.number r.node.name
            (decide (log_state past) is.execution r.node);
        row = Some row;
        need = None;
      }
  withdraws_moved =
      is.gives at worker
      ∙ ap (taken (log_state past) is.execution at worker start.leaf) r.again

  withdrawn_there : withdrawn_of w.effect.new ∷ []
      ≡ withdrawn_by (policies_in_force (log_state past)) row is.execution
  withdrawn_there =
      let e : Execution = is.execution in
      let policies = policies_in_force (log_state past) in
      ap (λ x. x ∷ []) w.new
      ∙ ap (λ d. record { node = start.leaf.node; clause = decision_text policies d } ∷ []) r.is
      ∙ sym (ap (λ b. if b then option_to_list
      (option_map (withdrawn_node policies e start.leaf.node)
      (slice_get e.accepted.nodes start.leaf.node)) else [])
      (eq-eqb e.number e.number refl)
      ∙ ap (λ o. option_to_list (option_map (withdrawn_node policies e start.leaf.node) o)) r.found)

  may : IsTrue (may_withdraw is.execution.accepted.plan is.execution.marks start.leaf.node)
  may =
      let p = is.execution.accepted.plan in
      let marks = is.execution.marks in
      ap (λ o. unwrap_or (option_map
      (λ (l : Leaf). nat_eq l.node start.leaf.node && opens p marks l) o) false) is.first
      ∙ ap (λ b. b && opens p marks start.leaf) (eq-eqb start.leaf.node start.leaf.node refl)
      ∙ r.opening

  withdraws_effect : IsEffect past change.row change.effect
  withdraws_effect =
      let effect : IsWithdrawEffect past row w.effect = record {
        kind = refl;
        bare = refl;
        execution = is.execution;
        at = record {
          found = ap (slice_get (executions past)) w.place ∙ is.found;
          named = refl;
        };
        named = ap (λ x. x.node) w.new;
        new = withdrawn_there;
        may = may;
      } in
      subst (IsEffect past change.row) (sym w.does)
      (subst (λ r. IsWithdrawEffect past r w.effect) (sym w.row) effect)

  pub withdrawal_is_claim : IsClaim past at worker change
  withdrawal_is_claim =
      let e : Execution = is.execution in
      let name : w.name ≡ r.node.name =
      name_is e.accepted.nodes start.leaf.node r.node (map (λ n. n.name) e.accepted.nodes) w.name
      r.found refl w.named in
      record {
        gives = withdraws_moved
            ∙ moved_is change
            (answer.Withdrawn e.number r.node.name (decide (log_state past) e r.node)) row None
            (ap answer_of w.outcome
            ∙ ap (λ n. answer.Withdrawn e.number n decision) name
            ∙ ap (answer.Withdrawn e.number r.node.name) r.is)
            w.row (ap need_of w.does);
        effect = withdraws_effect;
      }

-- ---- a task

-- The change gives the leaf to the worker.
pub record IsBeginning (past : List Row) (start : Start) (e : Execution) (at : ℤ) (worker : ℕ)
    (change : Change) : Type 0 where
  pub outcome : change.outcome
      ≡ Task (record { execution = e.number; leaf = start.leaf; worker = worker })
      (execution_words e start.leaf)
  pub row : change.row ≡ begin_row at e.number (leaf_number_in e start.leaf) worker
  pub does : change.effect ≡ Begin start.place start.leaf worker

pub beginning_is_claim : LogLaws → (past : List Row) (start : Start) (at : ℤ) (worker : ℕ)
    (change : Change) → IsLegalLog past → (is : IsStart past start)
    → refused_again (log_state past) is.execution start.leaf ≡ []
    → IsBeginning past start is.execution at worker change → IsClaim past at worker change
beginning_is_claim laws past start at worker change legal is kept b =
    let e : Execution = is.execution in
    let leaf : Leaf = start.leaf in
    let row : Row = begin_row at e.number (leaf_number_in e leaf) worker in
    let slot = (has_leaf laws past start.place e leaf legal is.found is.first).slot in
    let effect : IsBeginEffect past row start.place leaf worker = record {
      kind = refl;
      bare = refl;
      claimer = refl;
      execution = e;
      at = record { found = is.found; named = refl };
      begun = laws.kept e.accepted.plan.slots leaf slot;
      first = is.first;
    } in
    record {
      gives = is.gives at worker
          ∙ ap (taken (log_state past) e at worker leaf) kept
          ∙ moved_is change (answer.Task (task_of e leaf worker)) row None
          (ap answer_of b.outcome) b.row (ap need_of b.does);
      effect = subst (IsEffect past change.row) (sym b.does)
          (subst (λ r. IsBeginEffect past r start.place leaf worker) (sym b.row) effect);
    }
