-- An execution of which a node is withdrawn.
use Rattle.std.proofs.Common.{◌≡◌, ◌∙◌, ℕ, Vec, [], ◌∷◌, ◌++◌, true, false, map, ap, sym, subst, arith, IsTrue}
use Rattle.std.specs.Global.{Global}
use Rattle.std.proofs.lemmas.List.{map-append}
use Rattle.rb_marks.specs.First.{may_withdraw}
use Rattle.rb_marks.specs.FlowState.{FlowState}
use Rattle.rb_marks.specs.Units.{outline}
use Rattle.rb_marks.specs.declared.mark.Mark.TheVariants.{Withdraw}
use Rattle.rb_log.specs.Executions.{Execution as LoggedExecution, WithdrawnNode as LoggedWithdrawn}
use Rattle.rb_tables.specs.Progress.{HasEnded, IsFlowOf, IsProgress}
use Rattle.rb_tables.specs.Running.{with_mark, with_withdrawal}
use Rattle.rb_tables.specs.Tables.{IsOf, execution_of, withdrawn_of}
use Rattle.rb_tables.specs.declared.execution.Execution.{Execution}
use Rattle.rb_tables.specs.declared.execution.WithdrawnNode.{WithdrawnNode}
use Rattle.rb_tables.specs.declared.progress.Progress.{Progress}
use Rattle.rb_tables.specs.declared.progress.Progress.TheVariants.{Going, Over}
use Rattle.rb_tables.specs.declared.progress.Results.{Results}
use Rattle.rb_tables.proofs.Ended.{starts_run}
use Rattle.rb_tables.proofs.Going.{withdraws_first}

pub ended_in : (p : Progress) (r : Results) (l : LoggedExecution) → IsProgress p l
    → p ≡ Over r → HasEnded r l
ended_in p r l is over = subst (λ q. IsProgress q l) over is

-- ---- a node is withdrawn

pub may_in_flow : (flow : FlowState) (l : LoggedExecution) (node : ℕ) → IsFlowOf flow l
    → IsTrue (may_withdraw l.accepted.plan l.marks node)
    → IsTrue (may_withdraw (outline flow.plan) flow.marks node)
may_in_flow flow l node of may =
    subst (λ p. IsTrue (may_withdraw p flow.marks node)) (sym of.plan)
    (subst (λ ms. IsTrue (may_withdraw l.accepted.plan ms node)) (sym of.marks) may)

-- nothing is withdrawn of what is over
pub none_withdrawn : (r : Results) (l : LoggedExecution) (node : ℕ) → HasEnded r l
    → IsTrue (may_withdraw l.accepted.plan l.marks node) → ⊥
none_withdrawn r l node ended may =
    let first = withdraws_first l node may in
    let wrong : false ≡ true = sym ended.ended ∙ starts_run l first.0 first.1 in
    grind (arith, wrong)

may_from_flow : (flow : FlowState) (l : LoggedExecution) (node : ℕ) → IsFlowOf flow l
    → IsTrue (may_withdraw (outline flow.plan) flow.marks node)
    → IsTrue (may_withdraw l.accepted.plan l.marks node)
may_from_flow flow l node of may =
    subst (λ ms. IsTrue (may_withdraw l.accepted.plan ms node)) of.marks
    (subst (λ p. IsTrue (may_withdraw p flow.marks node)) of.plan may)

-- one that the same is kept for may be withdrawn too
pub may_too : (p : Progress) (k l : LoggedExecution) (node : ℕ) → IsProgress p k
    → IsTrue (may_withdraw k.accepted.plan k.marks node) → IsProgress p l
    → IsTrue (may_withdraw l.accepted.plan l.marks node)
may_too (Going g) k l node of may is =
    may_from_flow g.flow l node is.flow (may_in_flow g.flow k node of.flow may)
may_too (Over r) k l node of may is = absurd (none_withdrawn r k node of may)

other_withdrawn : (p : Progress) (l : LoggedExecution) (w : LoggedWithdrawn)
    → IsProgress p (with_mark l (Withdraw w.node)) → IsProgress p (with_withdrawal l w)
other_withdrawn (Going g) l w h = record {
  flow = record { plan = h.flow.plan; marks = h.flow.marks };
  room = record { empty = h.room.empty; memory = h.room.memory };
  nodes = h.nodes;
  commands = h.commands;
}
other_withdrawn (Over r) l w h = record {
  ended = h.ended;
  status = h.status;
  steps = h.steps;
  results = h.results;
}

-- with one withdrawn node more
pub withdrawn_is : (x : Execution) (p : Progress) (v : Vec WithdrawnNode Global)
    (new : WithdrawnNode) (l : LoggedExecution) → IsOf x l
    → v.items ≡ x.withdrawn.items ++ new ∷ [] → IsProgress p (with_mark l (Withdraw new.node))
    → IsOf (record x { progress = p; withdrawn = v }) (with_withdrawal l (withdrawn_of new))
withdrawn_is x p v new l of is goes_on =
    let nodes = ap (map withdrawn_of) is
    ∙ map-append withdrawn_of x.withdrawn.items (new ∷ []) in record {
      same = ap (λ ws. record (execution_of x l) {
        withdrawn = ws;
        marks = l.marks ++ Withdraw new.node ∷ [];
      }) nodes
          ∙ ap (λ z. with_withdrawal z (withdrawn_of new)) of.same;
      names = of.names;
      progress = other_withdrawn p l (withdrawn_of new) goes_on;
    }
