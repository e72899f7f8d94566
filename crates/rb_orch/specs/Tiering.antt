-- The tiers of ranked nodes.
use Rattle.std.specs.Prelude.{ℕ, ◌+◌, List, [], ◌∷◌, Option, if◌then◌else◌}
use Rattle.rb_node.specs.declared.node.Node.{Node}
use Rattle.rb_orch.specs.Ranking.{is_same_rank}

-- the tier of a node that stands directly behind another: the same where the rank values are equal,
-- else the next
abbrev pub tier_behind : Option (List ℕ) → Node → ℕ → Node → ℕ
tier_behind by before tier node = if is_same_rank by before node then tier else tier + 1

-- the tiers of the nodes behind one that has a tier
abbrev pub tiers_behind : Option (List ℕ) → Node → ℕ → List Node → List ℕ
tiers_behind by before tier [] = []
tiers_behind by before tier (node ∷ nodes) =
    tier_behind by before tier node
    ∷ tiers_behind by node (tier_behind by before tier node) nodes

-- the tiers of a list: each run of equal rank values has a number, from 0 on
abbrev pub tiers_of : Option (List ℕ) → List Node → List ℕ
tiers_of by [] = []
tiers_of by (first ∷ nodes) = 0 ∷ tiers_behind by first 0 nodes
