-- Listings, one after the other: their nodes, or the fault of the first that is faulty.
use Rattle.std.specs.Option.{option_or}
use Rattle.std.proofs.Common.{◌≡◌, ◌≤◌, ◌<◌, ◌⊎◌, ℕ, suc, Bool, true, false, cond, nat_le, List, [], ◌∷◌, ◌++◌, length, map, Option, Some, None, option_map, Result, Ok, Err, IfOk, refl, ap, sym, subst, ◌∙◌, inl, inr, arith}
use Rattle.std.proofs.lemmas.List.{map_push}
use Rattle.std.proofs.lemmas.Bool.{le-leb, leb-true}
use Rattle.rb_causes.specs.Causes.{unless}
use Rattle.rb_yaml.specs.Tree.{YamlTree}
use Rattle.rb_node.specs.declared.node.Node.{Node}
use Rattle.rb_inventory.specs.declared.fault.NodeErr.{NodeErr}
use Rattle.rb_inventory.specs.declared.fault.NodeErr.TheVariants as errors
use Rattle.rb_inventory.specs.declared.fault.NodeFault.{NodeFault}
use Rattle.rb_inventory.specs.declared.fault.NodeKind.{NodeKind}
use Rattle.rb_inventory.specs.declared.fault.NodeKind.TheVariants.{TooMany, Twice}
use Rattle.rb_inventory.specs.declared.inventory.Inventory.{Inventory}
use Rattle.rb_inventory.specs.Listings.{ListedNode, listings_of, value_flaw, node_of, node_read}
use Rattle.rb_inventory.specs.Inventories.{most_nodes, is_repeated, names_of, flaw_behind, read_behind, first_listed_fault, inventory_or, inventory_of, FailsInventory}

many : (b : Bool) (names : List (List ℕ)) (l : ListedNode) → nat_le most_nodes (length names) ≡ b → b ≡ true → Some TooMany ≡ flaw_behind names l
many true names l is h = rw is refl
many false names l is h = let never : false ≡ true = h in cc

-- 10,000 nodes stand before
pub too_many : (before : ℕ) (names : List (List ℕ)) (l : ListedNode) → before ≡ length names → 10000 ≤ before → Some TooMany ≡ flaw_behind names l
unfolding most_nodes
too_many before names l is h = many true names l (le-leb 10000 (length names) (subst (λ n. 10000 ≤ n) is h)) refl

few : (b : Bool) (n : ℕ) → nat_le 10000 n ≡ b → n < 10000 → b ≡ false
few true n is h = let over : 10000 ≤ n = leb-true 10000 n is in absurd (omega (arith, h, over))
few false n is h = refl

-- fewer stand before
pub not_many : (before : ℕ) (names : List (List ℕ)) → before ≡ length names → before < 10000 → nat_le most_nodes (length names) ≡ false
unfolding most_nodes
not_many before names is h = few (nat_le 10000 (length names)) (length names) refl (subst (λ n. n < 10000) is h)

pub repeated : (names : List (List ℕ)) (l : ListedNode) (b : Bool) → nat_le most_nodes (length names) ≡ false → b ≡ is_repeated names l → b ≡ true → Some Twice ≡ flaw_behind names l
repeated names l b low is h =
    sym (ap (λ x. cond x (Some TooMany) (cond (is_repeated names l) (Some Twice) (value_flaw l.1))) low ∙ ap (λ x. cond x (Some Twice) (value_flaw l.1)) (sym is ∙ h))

pub by_value : (names : List (List ℕ)) (l : ListedNode) (b : Bool) → nat_le most_nodes (length names) ≡ false → b ≡ is_repeated names l → b ≡ false → value_flaw l.1 ≡ flaw_behind names l
by_value names l b low is h =
    sym (ap (λ x. cond x (Some TooMany) (cond (is_repeated names l) (Some Twice) (value_flaw l.1))) low ∙ ap (λ x. cond x (Some Twice) (value_flaw l.1)) (sym is ∙ h))

pub read_by_value : {E : Type 0} (r : Result (Result Node NodeKind) E) (names : List (List ℕ)) (l : ListedNode) (b : Bool) → nat_le most_nodes (length names) ≡ false → b ≡ is_repeated names l → b ≡ false →
    IfOk r (λ read. read ≡ node_read l) → IfOk r (λ read. read ≡ read_behind names l)
read_by_value r names l b low is h gives = subst (λ (f : Option NodeKind). IfOk r (λ read. read ≡ unless f (node_of l))) (by_value names l b low is h) gives

-- what is read by a flaw is read where there is none, and refused where there is one
pub read_has_no_flaw : {A : Type 0} (flaw : Option NodeKind) (value node : A) → Ok node ≡ unless flaw value → (None ≡ flaw) × (node ≡ value)
read_has_no_flaw None value node h = (refl, cc)
read_has_no_flaw (Some kind) value node h = let never : Ok node ≡ Err kind = h in cc

pub refused_has_flaw : {A : Type 0} (flaw : Option NodeKind) (value : A) (kind : NodeKind) → Err kind ≡ unless flaw value → Some kind ≡ flaw
refused_has_flaw None value kind h = let never : Err kind ≡ Ok value = h in cc
refused_has_flaw (Some other) value kind h = cc

-- a faulty listing
pub faulty : (names : List (List ℕ)) (l : ListedNode) (left rest all : List ListedNode) (kind : NodeKind) (docs : List YamlTree) →
    left ≡ l ∷ rest → Some kind ≡ flaw_behind names l → first_listed_fault names left ≡ first_listed_fault [] all → all ≡ listings_of docs →
    inventory_of docs ≡ Err (record { node = l.0; kind = kind })
faulty names l left rest all kind docs is made same is_all =
    ap (λ ls. inventory_or (first_listed_fault [] ls) (map node_of ls)) (sym is_all)
    ∙ ap (λ f. inventory_or f (map node_of all)) (sym same ∙ ap (first_listed_fault names) is)
    ∙ ap (λ o. inventory_or (option_or (option_map (λ k. record { node = l.0; kind = k }) o) (first_listed_fault (names ++ l.0 ∷ []) rest)) (map node_of all)) (sym made)

pub fails_told : (e : NodeErr) (f : NodeFault) (read : Result Inventory NodeFault) → (e ≡ errors.NoMemory) ⊎ (e ≡ errors.Fault f) → read ≡ Err f → FailsInventory e read
fails_told e f read (inl is) same = subst (λ x. FailsInventory x read) (sym is) tt
fails_told e f read (inr is) same = subst (λ x. FailsInventory x read) (sym is) same

-- a listing that is not faulty
pub fault_on : (names more : List (List ℕ)) (l : ListedNode) (left rest all : List ListedNode) → left ≡ l ∷ rest → None ≡ flaw_behind names l → more ≡ names ++ l.0 ∷ [] →
    first_listed_fault names left ≡ first_listed_fault [] all → first_listed_fault more rest ≡ first_listed_fault [] all
fault_on names more l left rest all is made is_more same =
    ap (λ ns. first_listed_fault ns rest) is_more
    ∙ ap (λ o. option_or (option_map (λ k. record { node = l.0; kind = k }) o) (first_listed_fault (names ++ l.0 ∷ []) rest)) made
    ∙ sym (ap (first_listed_fault names) is) ∙ same

pub names_push : (nodes more : List Node) (node : Node) (l : ListedNode) → more ≡ nodes ++ node ∷ [] → node ≡ node_of l → names_of more ≡ names_of nodes ++ l.0 ∷ []
names_push nodes more node l is made = ap names_of is ∙ map_push (λ (n : Node). n.name) nodes node ∙ ap (λ (n : Node). names_of nodes ++ n.name ∷ []) made

pub names_count : (nodes : List Node) → length nodes ≡ length (names_of nodes)
names_count [] = refl
names_count (n ∷ ns) = ap suc (names_count ns)
