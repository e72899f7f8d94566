-- The rights that the demo's policies give compute, but for the tag of a node.
use Rattle.std.proofs.Common.{◌≡◌, ℕ, Bool, true, false, List, [], ◌∷◌, map, filter, cond, refl}
use Rattle.rb_acl.specs.Deciding.{is_allowed}
use Rattle.rb_causes.specs.Numbers.{numbers_from}
use Rattle.rb_node.specs.declared.node.Node.{Node}
use Rattle.rb_demo.specs.Read.{demo_node}
use Rattle.rb_plan.specs.Access.{node_run}
use Rattle.rb_demo.specs.Numbers.{is_even, draw_at, tag_by, demo_node_name}
use Rattle.rb_demo.specs.Rights.{ann_in, demo_nodes, RightsAreGiven, EvenAreRunnable}

tagged : (groups : List (List ℕ)) (file name : List ℕ) (even : Bool) → is_allowed (node_run (ann_in groups file) (record { name = name; attrs = []; tags = tag_by even ∷ [] })) ≡ even
tagged groups file name true = refl
tagged groups file name false = refl

pub rights_given : RightsAreGiven
rights_given groups file = record {
  ann_jobs = λ held. refl;
  bob_jobs = λ held. refl;
  ann_nodes = λ number. tagged groups file (demo_node_name number) (is_even (draw_at number));
  bob_nodes = λ node. refl;
}

filter_map : (f : Node → Bool) (g : ℕ → Bool) (numbers : List ℕ) → ((number : ℕ) → f (demo_node number) ≡ g number) →
    filter f (map demo_node numbers) ≡ map demo_node (filter g numbers)
filter_map f g [] h = refl
filter_map f g (number ∷ numbers) h = step (f (demo_node number)) (g number) (h number) (filter_map f g numbers h)
  where
    step : (a b : Bool) → a ≡ b → filter f (map demo_node numbers) ≡ map demo_node (filter g numbers) →
        cond a (demo_node number ∷ filter f (map demo_node numbers)) (filter f (map demo_node numbers)) ≡ map demo_node (cond b (number ∷ filter g numbers) (filter g numbers))
    step a b e rest = rw (e, rest) (both b)
      where
        both : (t : Bool) → cond t (demo_node number ∷ map demo_node (filter g numbers)) (map demo_node (filter g numbers)) ≡ map demo_node (cond t (number ∷ filter g numbers) (filter g numbers))
        both true = refl
        both false = refl

filter_none : (nodes : List Node) → filter (λ node. false) nodes ≡ []
filter_none [] = refl
filter_none (node ∷ nodes) = filter_none nodes

pub even_runnable : EvenAreRunnable
even_runnable nodes groups file = (
  filter_map (λ node. is_allowed (node_run (ann_in groups file) node)) (λ number. is_even (draw_at number)) (numbers_from 1 nodes) (rights_given groups file).ann_nodes,
  filter_none (demo_nodes nodes),
)
