-- The tiers of a list, by place.
use Rattle.std.proofs.Common.{◌≡◌, ℕ, ◌+◌, ◌<◌, ◌≤◌, Bool, true, false, cond, zero, suc, List, [], ◌∷◌, length, get_or, Option, refl, ap, arith}
use Rattle.std.proofs.Common.{add-one}
use Rattle.std.proofs.lemmas.List.{get_or_default}
use Rattle.std.proofs.lemmas.List.Sorted.{IsNonDecreasingBy-short, IsNonDecreasingBy-from_all_adjacent}
use Rattle.rb_node.specs.declared.node.Node.{Node}
use Rattle.rb_orch.specs.Ranking.{is_same_rank}
use Rattle.rb_orch.specs.Tiering.{tier_behind, tiers_behind, tiers_of}
use Rattle.rb_orch.specs.Laws.{TierForEachNode, TiersFollowValues, TiersNeverFall}

length_behind : (by : Option (List ℕ)) (before : Node) (tier : ℕ) (nodes : List Node)
    → length (tiers_behind by before tier nodes) ≡ length nodes
length_behind by before tier [] = refl
length_behind by before tier (node ∷ nodes) =
    ap suc (length_behind by node (tier_behind by before tier node) nodes)

pub tier_for_each : TierForEachNode
tier_for_each by [] = refl
tier_for_each by (first ∷ nodes) = ap suc (length_behind by first 0 nodes)

-- the same with `suc k`
follow : (by : Option (List ℕ)) (before : Node) (tier : ℕ) (nodes : List Node) (k : ℕ) (d : Node)
    → k < length nodes
    → get_or (tiers_behind by before tier nodes) k 0
    ≡ tier_behind by (get_or (before ∷ nodes) k d)
    (get_or (tier ∷ tiers_behind by before tier nodes) k 0) (get_or nodes k d)
follow by before tier [] k d h = absurd (let never : ⊥ = omega (arith, h) in never)
follow by before tier (node ∷ nodes) zero d h = refl
follow by before tier (node ∷ nodes) (suc k) d h =
    follow by node (tier_behind by before tier node) nodes k d (omega (arith, h))

pub follow_values : TiersFollowValues
follow_values by [] k d h = absurd (let never : ⊥ = omega (arith, h) in never)
follow_values by (first ∷ nodes) k d h =
    rw (add-one k) (follow by first 0 nodes k d (omega (arith, h)))

not_less : (same : Bool) (a b : ℕ) → b ≡ cond same a (a + 1) → a ≤ b
not_less true a b e = omega (arith, e)
not_less false a b e = omega (arith, e)

pub never_fall : TiersNeverFall
never_fall by [] = IsNonDecreasingBy-short (λ x. x) [] (omega arith)
never_fall by (first ∷ nodes) =
    let tiers : List ℕ = tiers_of by (first ∷ nodes) in
    let size : length tiers ≡ length (first ∷ nodes) = tier_for_each by (first ∷ nodes) in
    IsNonDecreasingBy-from_all_adjacent (λ x. x) tiers (λ k d h.
    let at : get_or tiers k d ≡ get_or tiers k 0 = get_or_default tiers k d 0 (omega (arith, h)) in
    let behind : get_or tiers (k + 1) d ≡ get_or tiers (k + 1) 0 =
    get_or_default tiers (k + 1) d 0 h in
    let step : get_or tiers k 0 ≤ get_or tiers (k + 1) 0 =
    not_less
    (is_same_rank by (get_or (first ∷ nodes) k first) (get_or (first ∷ nodes) (k + 1) first))
    (get_or tiers k 0) (get_or tiers (k + 1) 0)
    (follow_values by (first ∷ nodes) k first (omega (arith, size, h))) in
    omega (arith, at, behind, step))
