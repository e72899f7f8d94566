-- What ranks, tiers and subsets mean beyond the rules that make them.
use Rattle.std.specs.Prelude.{◌≡◌, ℕ, ◌+◌, ◌<◌, ◌≤◌, Bool, List, length, get_or, min, Option, IsPermutation, IsSorted, if◌then◌else◌}
use Rattle.std.specs.List.Sorted.{IsStable, IsNonDecreasing}
use Rattle.rb_node.specs.declared.node.Node.{Node}
use Rattle.rb_orch.specs.Ranking.{rank_cmp, is_same_rank, ranked}
use Rattle.rb_orch.specs.Tiering.{tiers_of}
use Rattle.rb_orch.specs.Picking.{subset_of}

-- what is promised of a ranked list leaves no choice: two lists of which it holds are one
abbrev pub RankingIsOne : Type 0
RankingIsOne = (by : Option (List ℕ)) (down : Bool) (nodes one other : List Node)
    → IsSorted (rank_cmp by down) one → IsStable (rank_cmp by down) nodes one
    → IsSorted (rank_cmp by down) other → IsStable (rank_cmp by down) nodes other → one ≡ other

-- the ranked list is the one that a sort by rank gives
abbrev pub RankedIsSorted : Type 0
RankedIsSorted = (by : Option (List ℕ)) (down : Bool) (nodes : List Node)
    → IsPermutation nodes (ranked by down nodes)
    × IsSorted (rank_cmp by down) (ranked by down nodes)
    × IsStable (rank_cmp by down) nodes (ranked by down nodes)

-- the tier of the node at a place
abbrev pub tier_at : Option (List ℕ) → List Node → ℕ → ℕ
tier_at by nodes k = get_or (tiers_of by nodes) k 0

-- each node has a tier
abbrev pub TierForEachNode : Type 0
TierForEachNode =
    (by : Option (List ℕ)) (nodes : List Node) → length (tiers_of by nodes) ≡ length nodes

-- neighbours of one rank value have one tier, and others follow one another
abbrev pub TiersFollowValues : Type 0
TiersFollowValues =
    (by : Option (List ℕ)) (nodes : List Node) (k : ℕ) (d : Node) → k + 1 < length nodes →
    tier_at by nodes (k + 1)
    ≡ (if is_same_rank by (get_or nodes k d) (get_or nodes (k + 1) d)
    then tier_at by nodes k else tier_at by nodes k + 1)

-- tiers never fall along the list
abbrev pub TiersNeverFall : Type 0
TiersNeverFall = (by : Option (List ℕ)) (nodes : List Node) → IsNonDecreasing (tiers_of by nodes)

-- a subset has as many as asked for, or all where there are no more
abbrev pub SubsetHasCount : Type 0
SubsetHasCount =
    (items : List Node) (count draw : ℕ) →
    length (subset_of items count draw) ≡ min count (length items)

-- a count over the number takes all, in their order
abbrev pub SubsetTakesAll : Type 0
SubsetTakesAll =
    (items : List Node) (count draw : ℕ) → length items ≤ count →
    subset_of items count draw ≡ items
