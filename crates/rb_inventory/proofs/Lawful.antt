-- The laws of inventories.
use Rattle.std.specs.Option.{option_or}
use Rattle.std.proofs.Common.{◌≡◌, ◌≤◌, ◌<◌, ◌⊎◌, ℕ, suc, ◌+◌, Bool, true, false, not, cond, ◌&&◌, ◌||◌, nat_le, bytes_eq, List, [], ◌∷◌, ◌++◌, length, map, Option, Some, None, is_some, option_map, Ok, Err, refl, ap, sym, ◌∙◌, arith, length-append, inl, inr, ⊎_elim}
use Rattle.std.proofs.lemmas.Bool.{leb-false}
use Rattle.std.proofs.lemmas.Slice.Eq.{bytes_eq-Decides}
use Rattle.std.proofs.lemmas.List.Folds.{list_any-append}
use Rattle.rb_causes.specs.Texts.{differ, has_text}
use Rattle.rb_yaml.specs.Tree.{YamlTree}
use Rattle.rb_node.specs.declared.node.Node.{Node}
use Rattle.rb_inventory.specs.declared.fault.NodeFault.{NodeFault}
use Rattle.rb_inventory.specs.declared.fault.NodeKind.{NodeKind}
use Rattle.rb_inventory.specs.declared.fault.NodeKind.TheVariants.{TooMany, Twice}
use Rattle.rb_inventory.specs.declared.inventory.Inventory.{Inventory}
use Rattle.rb_inventory.specs.Listings.{ListedNode, listings_of, value_flaw, node_of}
use Rattle.rb_inventory.specs.Inventories.{most_nodes, is_repeated, names_of, flaw_behind, first_listed_fault, inventory_or, inventory_of}
use Rattle.rb_inventory.specs.Laws.{NamesDiffer, NodesAreFew, FaultIsListed}

-- ---- what is known of a listing that is not faulty

abbrev told : ListedNode → NodeKind → NodeFault
told l kind = record { node = l.0; kind = kind }

pub passed : {A B : Type 0} (f : A → B) (o : Option A) (r : Option B) → option_or (option_map f o) r ≡ None → (o ≡ None) × (r ≡ None)
passed f None r h = (refl, h)
passed f (Some a) r h = let never : Some (f a) ≡ None = h in cc

three : (a b : Bool) (v : Option NodeKind) → cond a (Some TooMany) (cond b (Some Twice) v) ≡ None → (a ≡ false) × (b ≡ false) × (v ≡ None)
three true b v h = let never : Some TooMany ≡ None = h in cc
three false true v h = let never : Some Twice ≡ None = h in cc
three false false v h = (refl, refl, h)

unseen_by : (v : Option YamlTree) (b : Bool) → value_flaw v ≡ None → (is_some v && b) ≡ false → b ≡ false
unseen_by None b h s = let never : value_flaw None ≡ None = h in cc
unseen_by (Some v) b h s = s

-- what is known of it
pub record IsPassed (names : List (List ℕ)) (l : ListedNode) : Type 0 where
  pub room : nat_le most_nodes (length names) ≡ false
  pub unseen : has_text names l.0 ≡ false
  pub value : value_flaw l.1 ≡ None

is_passed : (names : List (List ℕ)) (l : ListedNode) → flaw_behind names l ≡ None → IsPassed names l
is_passed names l h =
    let parts = three (nat_le most_nodes (length names)) (is_repeated names l) (value_flaw l.1) h in
    record { room = parts.0; unseen = unseen_by l.1 (has_text names l.0) parts.2 parts.1; value = parts.2 }

pub steps : (names : List (List ℕ)) (l : ListedNode) (ls : List ListedNode) → first_listed_fault names (l ∷ ls) ≡ None → IsPassed names l × (first_listed_fault (names ++ l.0 ∷ []) ls ≡ None)
steps names l ls h =
    let parts = passed (λ (kind : NodeKind). told l kind) (flaw_behind names l) (first_listed_fault (names ++ l.0 ∷ []) ls) h in (is_passed names l parts.0, parts.1)

-- ---- names

other_text : (b : Bool) (names : List (List ℕ)) (t x : List ℕ) → bytes_eq t x ≡ b → has_text names t ≡ false → has_text names x ≡ true → b ≡ false
other_text true names t x is h s = let same : t ≡ x = (bytes_eq-Decides t x).0 is in let never : true ≡ false = sym s ∙ ap (has_text names) (sym same) ∙ h in cc
other_text false names t x is h s = refl

still_seen : (names : List (List ℕ)) (t x : List ℕ) → has_text names x ≡ true → has_text (names ++ t ∷ []) x ≡ true
still_seen names t x s = list_any-append (λ n. bytes_eq n x) names (t ∷ []) ∙ ap (λ b. b || (bytes_eq t x || false)) s

or_true : (b : Bool) → (b || true) ≡ true
or_true true = refl
or_true false = refl

pub same_text : (t : List ℕ) → bytes_eq t t ≡ true
same_text t = (bytes_eq-Decides t t).1 refl

now_seen : (names : List (List ℕ)) (t : List ℕ) → has_text (names ++ t ∷ []) t ≡ true
now_seen names t = list_any-append (λ n. bytes_eq n t) names (t ∷ []) ∙ ap (λ b. has_text names t || (b || false)) (same_text t) ∙ or_true (has_text names t)

abbrev listed_names : List ListedNode → List (List ℕ)
listed_names ls = map (λ l. l.0) ls

seen_no_more : (ls : List ListedNode) (names : List (List ℕ)) (x : List ℕ) → first_listed_fault names ls ≡ None → has_text names x ≡ true → has_text (listed_names ls) x ≡ false
seen_no_more [] names x h s = refl
seen_no_more (l ∷ ls) names x h s =
    let parts = steps names l ls h in
    ap (λ b. b || has_text (listed_names ls) x) (other_text (bytes_eq l.0 x) names l.0 x refl parts.0.unseen s)
    ∙ seen_no_more ls (names ++ l.0 ∷ []) x parts.1 (still_seen names l.0 x s)

names_apart : (ls : List ListedNode) (names : List (List ℕ)) → first_listed_fault names ls ≡ None → differ (listed_names ls) ≡ true
names_apart [] names h = refl
names_apart (l ∷ ls) names h =
    let parts = steps names l ls h in
    ap (λ b. not b && differ (listed_names ls)) (seen_no_more ls (names ++ l.0 ∷ []) l.0 parts.1 (now_seen names l.0)) ∙ names_apart ls (names ++ l.0 ∷ []) parts.1

-- ---- the nodes of an inventory are those of its listings

pub record IsRead (docs : List YamlTree) (inventory : Inventory) : Type 0 where
  pub fault : first_listed_fault [] (listings_of docs) ≡ None
  pub nodes : inventory.nodes ≡ map node_of (listings_of docs)

read_by : (o : Option NodeFault) (nodes : List Node) (inventory : Inventory) → inventory_or o nodes ≡ Ok inventory → (o ≡ None) × (inventory.nodes ≡ nodes)
read_by None nodes inventory h = let same : record { nodes = nodes } ≡ inventory = cc in (refl, sym (ap (λ (i : Inventory). i.nodes) same))
read_by (Some fault) nodes inventory h = let never : Err fault ≡ Ok inventory = h in cc

pub is_read : (docs : List YamlTree) (inventory : Inventory) → inventory_of docs ≡ Ok inventory → IsRead docs inventory
is_read docs inventory h =
    let parts = read_by (first_listed_fault [] (listings_of docs)) (map node_of (listings_of docs)) inventory h in record { fault = parts.0; nodes = parts.1 }

node_names : (ls : List ListedNode) → names_of (map node_of ls) ≡ listed_names ls
node_names [] = refl
node_names (l ∷ ls) = ap (λ ns. l.0 ∷ ns) (node_names ls)

pub names_differ_law : NamesDiffer
names_differ_law docs inventory h =
    let read = is_read docs inventory h in
    ap (λ ns. differ (names_of ns)) read.nodes ∙ ap differ (node_names (listings_of docs)) ∙ names_apart (listings_of docs) [] read.fault

-- ---- how many

few_from : (ls : List ListedNode) (names : List (List ℕ)) → first_listed_fault names ls ≡ None → length names ≤ 10000 → length names + length ls ≤ 10000
unfolding most_nodes
few_from [] names h low = omega (arith, low)
few_from (l ∷ ls) names h low =
    let parts = steps names l ls h in
    let room : length names < 10000 = leb-false 10000 (length names) parts.0.room in
    let more : length (names ++ l.0 ∷ []) ≡ length names + 1 = length-append names (l.0 ∷ []) in
    omega (arith, more, few_from ls (names ++ l.0 ∷ []) parts.1 (omega (arith, more, room)))

mapped_length : (ls : List ListedNode) → length (map node_of ls) ≡ length ls
mapped_length [] = refl
mapped_length (l ∷ ls) = ap suc (mapped_length ls)

pub nodes_are_few_law : NodesAreFew
nodes_are_few_law docs inventory h =
    let read = is_read docs inventory h in
    let same : length inventory.nodes ≡ length (listings_of docs) = ap length read.nodes ∙ mapped_length (listings_of docs) in
    omega (arith, same, few_from (listings_of docs) [] read.fault (omega arith))

-- ---- what a refusal names

fault_by : (o : Option NodeKind) (r : Option NodeFault) (l : ListedNode) (f : NodeFault) → option_or (option_map (λ kind. told l kind) o) r ≡ Some f → (l.0 ≡ f.node) ⊎ (r ≡ Some f)
fault_by None r l f h = inr h
fault_by (Some kind) r l f h = let same : told l kind ≡ f = cc in inl (ap (λ (x : NodeFault). x.node) same)

listed_or : (l : ListedNode) (ls : List ListedNode) (f : NodeFault) → (l.0 ≡ f.node) ⊎ (has_text (listed_names ls) f.node ≡ true) → has_text (listed_names (l ∷ ls)) f.node ≡ true
listed_or l ls f (inl h) = ap (λ b. b || has_text (listed_names ls) f.node) ((bytes_eq-Decides l.0 f.node).1 h)
listed_or l ls f (inr h) = ap (λ b. bytes_eq l.0 f.node || b) h ∙ or_true (bytes_eq l.0 f.node)

fault_among : (ls : List ListedNode) (names : List (List ℕ)) (f : NodeFault) → first_listed_fault names ls ≡ Some f → has_text (listed_names ls) f.node ≡ true
fault_among [] names f h = let never : None ≡ Some f = h in cc
fault_among (l ∷ ls) names f h =
    listed_or l ls f (⊎_elim (λ e. inl e) (λ e. inr (fault_among ls (names ++ l.0 ∷ []) f e)) (fault_by (flaw_behind names l) (first_listed_fault (names ++ l.0 ∷ []) ls) l f h))

pub refused_by : (o : Option NodeFault) (nodes : List Node) (f : NodeFault) → inventory_or o nodes ≡ Err f → o ≡ Some f
refused_by None nodes f h = let never : inventory_or None nodes ≡ Err f = h in cc
refused_by (Some fault) nodes f h = let same : fault ≡ f = cc in ap Some same

pub fault_is_listed_law : FaultIsListed
fault_is_listed_law docs f h = fault_among (listings_of docs) [] f (refused_by (first_listed_fault [] (listings_of docs)) (map node_of (listings_of docs)) f h)
