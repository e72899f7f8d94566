-- Where a refusal comes from.
use Rattle.std.specs.Option.{option_or}
use Rattle.std.proofs.Common.{◌≡◌, ℕ, List, [], ◌∷◌, ◌++◌, map, Option, Some, None, refl, ap, sym, ◌∙◌, append_assoc, append-nil}
use Rattle.rb_inventory.specs.declared.fault.NodeFault.{NodeFault}
use Rattle.rb_inventory.specs.Listings.{ListedNode, listings_of, node_of}
use Rattle.rb_inventory.specs.Inventories.{fault_behind, first_listed_fault}
use Rattle.rb_inventory.specs.Laws.{FaultIsFirst}
use Rattle.rb_inventory.proofs.Lawful.{refused_by}

abbrev names_in : List ListedNode → List (List ℕ)
names_in ls = map (λ l. l.0) ls

-- of these listings behind nodes of these names, the first that is faulty
record Found (names : List (List ℕ)) (ls : List ListedNode) (f : NodeFault) : Type 0 where
  before : List ListedNode
  listing : ListedNode
  behind : List ListedNode
  listed : ls ≡ before ++ listing ∷ behind
  sound : first_listed_fault names before ≡ None
  faulty : fault_behind (names ++ names_in before) listing ≡ Some f

-- it is the first of them, or the one that is found behind it
found : (o : Option NodeFault) (l : ListedNode) (ls : List ListedNode) (names : List (List ℕ)) (f : NodeFault) → o ≡ fault_behind names l →
    (first_listed_fault (names ++ l.0 ∷ []) ls ≡ Some f → Found (names ++ l.0 ∷ []) ls f) → option_or o (first_listed_fault (names ++ l.0 ∷ []) ls) ≡ Some f → Found names (l ∷ ls) f
found (Some g) l ls names f is later h = record {
  before = [];
  listing = l;
  behind = ls;
  listed = refl;
  sound = refl;
  faulty = ap (λ ns. fault_behind ns l) (append-nil names) ∙ sym is ∙ h;
}
found None l ls names f is later h = let rest = later h in record {
  before = l ∷ rest.before;
  listing = rest.listing;
  behind = rest.behind;
  listed = ap (λ xs. l ∷ xs) rest.listed;
  sound = ap (λ o. option_or o (first_listed_fault (names ++ l.0 ∷ []) rest.before)) (sym is) ∙ rest.sound;
  faulty = ap (λ ns. fault_behind ns rest.listing) (sym (append_assoc names (l.0 ∷ []) (names_in rest.before))) ∙ rest.faulty;
}

first_from : (ls : List ListedNode) (names : List (List ℕ)) (f : NodeFault) → first_listed_fault names ls ≡ Some f → Found names ls f
first_from [] names f h = let never : None ≡ Some f = h in cc
first_from (l ∷ ls) names f h = found (fault_behind names l) l ls names f refl (first_from ls (names ++ l.0 ∷ []) f) h

pub fault_is_first_law : FaultIsFirst
fault_is_first_law docs f h =
    let r = first_from (listings_of docs) [] f (refused_by (first_listed_fault [] (listings_of docs)) (map node_of (listings_of docs)) f h) in
    record { before = r.before; listing = r.listing; behind = r.behind; listed = r.listed; sound = r.sound; faulty = r.faulty }
