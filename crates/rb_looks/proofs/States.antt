-- The states of the nodes of an execution.
use Rattle.std.proofs.Common.{◌≡◌, ◌∙◌, subst, get_or, length-append, ◌≤◌, ◌<◌, ◌+◌, ℕ, suc, Bool, true, false, List, [], ◌∷◌, ◌++◌, map, find, drop, length, cond, nat_eq, Option, Some, option_map, slice_get, ap, sym, refl, arith, append-nil, append_assoc}
use Rattle.std.proofs.Math.Numerals.{add-one}
use Rattle.std.proofs.lemmas.List.{drop_all, length-map}
use Rattle.std.proofs.lemmas.Option.{slice_get-map, slice_get_read}
use Rattle.rb_marks.proofs.Waits.{mapped_some}
use Rattle.rb_node.specs.declared.node.Node.{Node}
use Rattle.rb_log.specs.Executions.{Execution as LoggedExecution, WithdrawnNode as LoggedWithdrawn}
use Rattle.rb_log.specs.Looks.{node_states, node_steps, withdrawal_clause}
use Rattle.rb_log.specs.declared.shown.NodeState.{NodeState}
use Rattle.rb_tables.specs.Progress.{HasTiers}
use Rattle.rb_tables.specs.Tables.{IsOf, withdrawn_of}
use Rattle.rb_tables.specs.declared.execution.Execution.{Execution}
use Rattle.rb_tables.specs.declared.execution.WithdrawnNode.{WithdrawnNode}
use Rattle.rb_tables.proofs.Starts.{drop_at}

-- ---- the clause of a withdrawal

clause_by : (b : Bool) (w : WithdrawnNode) (o : Option WithdrawnNode) (q : Option LoggedWithdrawn)
    → option_map (λ w. w.clause) o ≡ option_map (λ w. w.clause) q
    → option_map (λ w. w.clause) (cond b (Some w) o)
    ≡ option_map (λ w. w.clause) (cond b (Some (withdrawn_of w)) q)
clause_by true w o q h = refl
clause_by false w o q h = h

clause_among : (n : ℕ) (ws : List WithdrawnNode)
    → option_map (λ w. w.clause) (find (λ w. nat_eq w.node n) ws)
    ≡ option_map (λ w. w.clause) (find (λ w. nat_eq w.node n) (map withdrawn_of ws))
clause_among n [] = refl
clause_among n (w ∷ ws) =
    clause_by (nat_eq w.node n) w (find (λ w. nat_eq w.node n) ws)
    (find (λ w. nat_eq w.node n) (map withdrawn_of ws)) (clause_among n ws)

-- as the log tells it
pub clause_is : (x : Execution) (l : LoggedExecution) (n : ℕ) → IsOf x l
    → option_map (λ w. w.clause) (find (λ w. nat_eq w.node n) x.withdrawn.items)
    ≡ withdrawal_clause l n
clause_is x l n of =
    clause_among n x.withdrawn.items
    ∙ ap (λ (z : LoggedExecution). withdrawal_clause z n) of.same

-- ---- node after node

abbrev pub state_of : LoggedExecution → ℕ → List ℕ → NodeState
state_of e n name =
    record { clause = withdrawal_clause e n; node = name; steps = node_steps e n }

-- one node more
one_state : (x : Execution) (e : LoggedExecution) (states : List NodeState) (k : ℕ)
    (name : List ℕ) → IsOf x e → slice_get x.nodes k ≡ Some name
    → states ++ node_states e k (drop k e.accepted.nodes) ≡ node_states e 0 e.accepted.nodes
    → (states ++ state_of e k name ∷ []) ++ node_states e (k + 1) (drop (k + 1) e.accepted.nodes)
    ≡ node_states e 0 e.accepted.nodes
one_state x e states k name of get before =
    let nodes : List Node = e.accepted.nodes in
    let m = mapped_some (λ (n : Node). n.name) (slice_get nodes k) name
    (sym (slice_get-map (λ (n : Node). n.name) nodes k)
    ∙ ap (λ ns. slice_get ns k) (sym of.names) ∙ get) in
    append_assoc states (state_of e k name ∷ []) (node_states e (k + 1) (drop (k + 1) nodes))
    ∙ ap (λ n. states ++ state_of e k name ∷ node_states e n (drop n nodes)) (add-one k)
    ∙ ap (λ t. states ++ state_of e k t ∷ node_states e (suc k) (drop (suc k) nodes)) (sym m.2)
    ∙ ap (λ ns. states ++ node_states e k ns) (sym (drop_at nodes k m.0 m.1))
    ∙ before

-- none is left
pub no_state : (x : Execution) (e : LoggedExecution) (states : List NodeState) (k : ℕ)
    → IsOf x e → length x.nodes ≤ k
    → states ++ node_states e k (drop k e.accepted.nodes) ≡ node_states e 0 e.accepted.nodes
    → states ≡ node_states e 0 e.accepted.nodes
no_state x e states k of high before =
    let many = ap length of.names in
    let none : drop k e.accepted.nodes ≡ [] =
    drop_all k e.accepted.nodes
    (omega (arith, high, many, length-map e.accepted.nodes (λ (n : Node). n.name))) in
    sym (append-nil states)
    ∙ ap (λ ns. states ++ node_states e k ns) (sym none)
    ∙ before

nodes_low : (x : Execution) (e : LoggedExecution) (k : ℕ) → IsOf x e → k < length x.nodes
    → k < length e.accepted.nodes
nodes_low x e k of low =
    omega (
      arith,
      low,
      ap length of.names,
      length-map e.accepted.nodes (λ (n : Node). n.name),
    )

pub pushed_many : (states new : List NodeState) (state : NodeState) (k : ℕ)
    → new ≡ states ++ state ∷ [] → length states ≡ k → length new ≡ k + 1
pushed_many states new state k more many =
    omega (arith, ap length more, length-append states (state ∷ []), many)

-- the state of the node that was read is pushed
pub state_pushed : (x : Execution) (e : LoggedExecution) (items : List (List ℕ))
    (states new : List NodeState) (place k : ℕ) (name : List ℕ) (state : NodeState) → IsOf x e
    → HasTiers e → items ≡ x.nodes → k < length items → name ≡ get_or items k name → place ≡ k
    → (place < length e.accepted.plan.tiers → state ≡ state_of e place name)
    → new ≡ states ++ state ∷ []
    → states ++ node_states e k (drop k e.accepted.nodes) ≡ node_states e 0 e.accepted.nodes
    → new ++ node_states e (k + 1) (drop (k + 1) e.accepted.nodes)
    ≡ node_states e 0 e.accepted.nodes
state_pushed x e items states new place k name state of tiers same low get at is more before =
    let there : slice_get x.nodes k ≡ Some name =
    subst (λ ns. slice_get ns k ≡ Some name) same
    (slice_get_read items (length items) k name refl low get) in
    let here : k < length e.accepted.nodes =
    nodes_low x e k of (subst (λ ns. k < length ns) same low) in
    let in_plan : place < length e.accepted.plan.tiers =
    omega (arith, at, here, tiers.nodes) in
    ap (λ ss. ss ++ node_states e (k + 1) (drop (k + 1) e.accepted.nodes))
    (more ∙ ap (λ s. states ++ s ∷ []) (is in_plan ∙ ap (λ n. state_of e n name) at))
    ∙ one_state x e states k name of there before
