-- What nodes are ranked by, and the order of ranks.
use Rattle.std.specs.Prelude.{ℕ, Bool, List, [], ◌∷◌, Option, Some, None, unwrap_or, if◌then◌else◌}
use Rattle.std.specs.declared.cmp.Ordering.{Ordering}
use Rattle.std.specs.Ordering.{nat_cmp, ordering_then, is_eq, is_gt}
use Rattle.std.specs.declared.cmp.Ordering.TheVariants.{Less, Greater}
use Rattle.std.specs.Cmp.Lexicographic.{slice_cmp}
use Rattle.rb_causes.specs.Numbers.{decimal_of}
use Rattle.rb_node.specs.Nodes.{attribute}
use Rattle.rb_node.specs.declared.node.Node.{Node}

-- a rank value: the number of a decimal, or any other text
pub data RankValue : Type 0 where
  number : ℕ → RankValue
  other : List ℕ → RankValue

abbrev pub number_or : Option ℕ → List ℕ → RankValue
number_or (Some n) text = number n
number_or None text = other text

-- a decimal counts as its number, any other text as it is
abbrev pub number_or_text : List ℕ → RankValue
number_or_text text = number_or (decimal_of text) text

-- the text that a node is ranked by: its attribute, empty where it is missing; its name where no
-- attribute is named
abbrev pub rank_text : Option (List ℕ) → Node → List ℕ
rank_text None node = node.name
rank_text (Some key) node = unwrap_or (attribute node key) []

abbrev pub rank_value : Option (List ℕ) → Node → RankValue
rank_value by node = number_or_text (rank_text by node)

-- numbers by size, then all other texts by bytes
abbrev pub value_cmp : RankValue → RankValue → Ordering
value_cmp (number m) (number n) = nat_cmp m n
value_cmp (number m) (other b) = Less
value_cmp (other a) (number n) = Greater
value_cmp (other a) (other b) = slice_cmp nat_cmp a b

-- descending turns the values
abbrev pub directed_cmp : Bool → RankValue → RankValue → Ordering
directed_cmp down a b = if down then value_cmp b a else value_cmp a b

-- nodes by rank value, and those of one value by name, ascending in both directions
abbrev pub rank_cmp : Option (List ℕ) → Bool → Node → Node → Ordering
rank_cmp by down a b =
    ordering_then (directed_cmp down (rank_value by a) (rank_value by b))
    (slice_cmp nat_cmp a.name b.name)

-- of one rank value
abbrev pub is_same_rank : Option (List ℕ) → Node → Node → Bool
is_same_rank by a b = is_eq (value_cmp (rank_value by a) (rank_value by b))

-- a node among ranked ones: in front of the first that it does not stand behind
abbrev pub ranked_in : Option (List ℕ) → Bool → Node → List Node → List Node
ranked_in by down node [] = node ∷ []
ranked_in by down node (n ∷ ns) =
    if is_gt (rank_cmp by down node n) then n ∷ ranked_in by down node ns else node ∷ n ∷ ns

-- nodes in rank order
abbrev pub ranked : Option (List ℕ) → Bool → List Node → List Node
ranked by down [] = []
ranked by down (n ∷ ns) = ranked_in by down n (ranked by down ns)
