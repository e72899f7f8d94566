-- Whether each of many nodes may be run on.
use Rattle.std.proofs.Common.{◌≡◌, ◌∙◌, ◌<◌, ◌+◌, ℕ, List, [], ◌∷◌, ◌++◌, length, not, codes, map, filter, take, get_or, ap, subst, sym, refl}
use Rattle.std.specs.List.{All}
use Rattle.std.proofs.lemmas.List.{get_or-map, length-map, map-append, map_more}
use Rattle.std.proofs.lemmas.List.Elements.{All-nil, All-cons, filter-append}
use Rattle.rb_acl.specs.Deciding.{is_allowed}
use Rattle.rb_acl.specs.declared.policy.Decision.{Decision}
use Rattle.rb_acl.specs.declared.policy.Resource.{Resource}
use Rattle.rb_node.specs.declared.node.Node.{Node}
use Rattle.rb_plan.specs.Sorting.{AreSorted}
use Rattle.rb_plan.specs.Targets.{runnable, dropped}
use Rattle.rb_plan.specs.declared.accepted.Dropped.{Dropped}
use Rattle.rb_plan.specs.declared.sorting.SortedNodes.{SortedNodes}
use Rattle.rb_plan.specs.Access.{Access, decision_on, node_resource, node_run, run_of_each}

-- what nodes show is of nodes' type
pub are_nodes : (ns : List Node)
    → All (λ resource. resource.type_name ≡ codes "node") (map node_resource ns)
are_nodes [] = All-nil (λ (resource : Resource). resource.type_name ≡ codes "node")
are_nodes (n ∷ ns) =
    All-cons (λ (resource : Resource). resource.type_name ≡ codes "node") (node_resource n)
    (map node_resource ns) refl (are_nodes ns)

-- the decisions on `read` and on `run` are put together
pub run_maps : (access : Access) (ns : List Node)
    → run_of_each (map (decision_on access (codes "read")) (map node_resource ns))
    (map (decision_on access (codes "run")) (map node_resource ns)) ≡ map (node_run access) ns
run_maps access [] = refl
run_maps access (n ∷ ns) = ap (λ ds. node_run access n ∷ ds) (run_maps access ns)

-- the decision at a place is that on the node that is shown there
pub decision_at : {X : Type 0} (shown : X → Node) (decide : Node → Decision) (xs : List X)
    (ds : List Decision) (i : ℕ) (x : X) (d : Decision) → i < length xs → x ≡ get_or xs i x
    → ds ≡ map decide (map shown xs) → d ≡ get_or ds i d → d ≡ decide (shown x)
decision_at shown decide xs ds i x d below is all at =
    at ∙ ap (λ ys. get_or ys i d) all
    ∙ get_or-map decide (map shown xs) i (shown x) d
    (subst (λ n. i < n) (sym (length-map xs shown)) below)
    ∙ ap decide (get_or-map shown xs i x (shown x) below ∙ ap shown (sym is))

-- those that may not be run of two lists, one behind the other
dropped_append : (decide : Node → Decision) (ns more : List Node)
    → dropped decide (ns ++ more) ≡ dropped decide ns ++ dropped decide more
dropped_append decide ns more =
    ap (map (λ (node : Node). record { node = node.name; decision = decide node }))
    (filter-append (λ (node : Node). not (is_allowed (decide node))) ns more)
    ∙ map-append (λ (node : Node). record { node = node.name; decision = decide node })
    (filter (λ (node : Node). not (is_allowed (decide node))) ns)
    (filter (λ (node : Node). not (is_allowed (decide node))) more)

-- one node more is sorted
sorted_more : (decide : Node → Decision) (ns : List Node) (n : Node) (before after : SortedNodes)
    → AreSorted decide ns before
    → after.runnable.items ≡ before.runnable.items ++ runnable decide (n ∷ [])
    → after.dropped ≡ before.dropped ++ dropped decide (n ∷ [])
    → AreSorted decide (ns ++ n ∷ []) after
sorted_more decide ns n before after so runs drops = record {
  runnable = runs ∙ ap (λ rs. rs ++ runnable decide (n ∷ [])) so.runnable
      ∙ sym (filter-append (λ (node : Node). is_allowed (decide node)) ns (n ∷ []));
  dropped = drops ∙ ap (λ ds. ds ++ dropped decide (n ∷ [])) so.dropped
      ∙ sym (dropped_append decide ns (n ∷ []));
}

-- so is the next of those that a list shows
pub sorted_next : {X : Type 0} (shown : X → Node) (decide : Node → Decision) (xs : List X) (i : ℕ)
    (x : X) (before after : SortedNodes) → i < length xs → x ≡ get_or xs i x
    → AreSorted decide (map shown (take i xs)) before
    → after.runnable.items ≡ before.runnable.items ++ runnable decide (shown x ∷ [])
    → after.dropped ≡ before.dropped ++ dropped decide (shown x ∷ [])
    → AreSorted decide (map shown (take (i + 1) xs)) after
sorted_next shown decide xs i x before after below is so runs drops =
    subst (λ ns. AreSorted decide ns after)
    (sym (map_more shown xs i x below ∙ ap (λ y. map shown (take i xs) ++ shown y ∷ []) (sym is)))
    (sorted_more decide (map shown (take i xs)) (shown x) before after so runs drops)
