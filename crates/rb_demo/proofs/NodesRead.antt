-- The map of all nodes is read as an inventory: no node is faulty, and each is the demo's.
use Rattle.std.proofs.Common.{◌≡◌, ℕ, zero, suc, ◌≤◌, ◌<◌, ◌+◌, ◌^◌, Bool, true, false, append-nil, bytes_eq, List, [], ◌∷◌, ◌++◌, map, length, drop, Some, None, Ok, refl, ap, ◌∙◌, arith}
use Rattle.std.proofs.lemmas.Fmt.{decimal_injective}
use Rattle.std.proofs.lemmas.List.{length-append}
use Rattle.std.proofs.lemmas.Bool.{lt-leb, or_parts}
use Rattle.rb_causes.specs.Texts.{has_text, comma_items}
use Rattle.rb_causes.specs.Numbers.{numbers_from}
use Rattle.rb_node.specs.Tags.{once}
use Rattle.rb_yaml_laws.specs.Laws.{MeantIsRead}
use Rattle.rb_yaml_laws.proofs.DifferFacts.{unlike}
use Rattle.rb_values.specs.Values.{entry_list}
use Rattle.rb_inventory.specs.Inventories.{most_nodes, first_listed_fault, inventory_of, inventory_or}
use Rattle.rb_inventory.specs.Listings.{ListedNode, entry_listing, node_of}
use Rattle.rb_demo.specs.Numbers.{demo_node_name, tag_by, is_even, draw_at}
use Rattle.rb_demo.specs.Trees.{node_tree, node_entries, nodes_doc}
use Rattle.rb_demo.specs.Texts.{demo_nodes_text}
use Rattle.rb_demo.specs.Laws.{NodesAreRead}
use Rattle.rb_demo.proofs.NodesHeld.{nodes_held}
use Rattle.rb_demo.specs.Read.{demo_node, demo_inventory}

abbrev listed : ℕ → ℕ → List ListedNode
listed first count = map entry_listing (entry_list (node_entries first count))

-- ---- names

-- none of these names is that of a node from a number on
abbrev AreBefore : ℕ → List (List ℕ) → Type 0
AreBefore first names = (number : ℕ) → first ≤ number → number < 2 ^ 63 → has_text names (demo_node_name number) ≡ false

names_unlike : (a b : ℕ) → a < b → b < 2 ^ 63 → bytes_eq (demo_node_name a) (demo_node_name b) ≡ false
names_unlike a b less small = unlike _ (demo_node_name a) (demo_node_name b) refl (λ e. omega (arith, less, decimal_injective a b (omega arith) (omega arith) (ap (drop 1) e)))

has_more : (names : List (List ℕ)) (name other : List ℕ) → has_text names other ≡ false → bytes_eq name other ≡ false → has_text (names ++ name ∷ []) other ≡ false
has_more [] name other h k = rw k refl
has_more (n ∷ names) name other h k =
    rw ((or_parts (bytes_eq n other) (has_text names other) h).0) (has_more names name other ((or_parts (bytes_eq n other) (has_text names other) h).1) k)

before_next : (first : ℕ) (names : List (List ℕ)) → AreBefore first names → AreBefore (first + 1) (names ++ demo_node_name first ∷ [])
before_next first names h number from small = has_more names (demo_node_name first) (demo_node_name number) (h number (omega arith) small) (names_unlike first number (omega arith) small)

-- ---- no fault

no_fault : (first count : ℕ) (names : List (List ℕ)) → first + count < 2 ^ 62 → length names + count ≤ 9000 → AreBefore first names → first_listed_fault names (listed first count) ≡ None
unfolding most_nodes
no_fault first zero names small few before = refl
no_fault first (suc count) names small few before =
    rw (lt-leb 10000 (length names) (omega (arith, few)), before first (omega arith) (omega arith))
    (no_fault (first + 1) count (names ++ demo_node_name first ∷ []) (omega arith) (omega (arith, few, length-append names (demo_node_name first ∷ []))) (before_next first names before))

-- ---- the nodes

tag_is : (even : Bool) → once (comma_items (tag_by even)) ≡ tag_by even ∷ []
tag_is true = refl
tag_is false = refl

node_is : (number : ℕ) → node_of (demo_node_name number, Some (node_tree number)) ≡ demo_node number
node_is number = ap (λ tags. record { name = demo_node_name number; attrs = []; tags = tags }) (tag_is (is_even (draw_at number)))

nodes_are : (first count : ℕ) → map node_of (listed first count) ≡ map demo_node (numbers_from first count)
nodes_are first zero = refl
nodes_are first (suc count) = (λ i. node_is first i ∷ nodes_are (first + 1) count i)

-- the document is read as the demo's nodes
pub nodes_read : (nodes : ℕ) → nodes ≤ 1000 → inventory_of (nodes_doc nodes ∷ []) ≡ Ok (demo_inventory nodes)
nodes_read nodes few =
    ap (λ ls. inventory_or (first_listed_fault [] ls) (map node_of ls)) (append-nil (listed 1 nodes))
    ∙ (λ i. inventory_or (no_fault 1 nodes [] (omega arith) (omega arith) (λ number from small. refl) i) (nodes_are 1 nodes i))

pub nodes_are_read_law : MeantIsRead → NodesAreRead
nodes_are_read_law law nodes some few = (law (demo_nodes_text nodes) (nodes_doc nodes ∷ []) (nodes_held nodes some few), nodes_read nodes few)
