-- The worked examples, as the definitions have them.
use Rattle.std.proofs.Common.{◌≡◌, ℕ, true, false, List, [], ◌∷◌, Some, None, Less, Greater, Equal, codes, refl}
use Rattle.rb_causes.specs.declared.items.Prop.{Prop}
use Rattle.rb_node.specs.declared.node.Node.{Node}
use Rattle.rb_orch.specs.Bounding.{bound_of}
use Rattle.rb_orch.specs.Drawing.{next_draw}
use Rattle.rb_orch.specs.Ranking.{value_cmp, number_or_text, rank_cmp}
use Rattle.rb_orch.specs.Picking.{subset_of}
use Rattle.rb_orch.specs.Tiering.{tiers_of}

draw_after_one : next_draw 1 ≡ 1103527590
draw_after_one = refl

a_tenth_of_three : bound_of 5 (Some 10) 3 ≡ 1
a_tenth_of_three = refl

all_of_three : bound_of 5 (Some 100) 3 ≡ 3
all_of_three = refl

two_of_four : subset_of (codes "abcd") 2 1 ≡ codes "bc"
two_of_four = refl

nine_of_four : subset_of (codes "abcd") 9 1 ≡ codes "abcd"
nine_of_four = refl

nine_before_ten : value_cmp (number_or_text (codes "9")) (number_or_text (codes "10")) ≡ Less
nine_before_ten = refl

decimals_before_nothing : value_cmp (number_or_text (codes "10")) (number_or_text []) ≡ Less
decimals_before_nothing = refl

nothing_before_letters : value_cmp (number_or_text []) (number_or_text (codes "x")) ≡ Less
nothing_before_letters = refl

leading_zeros_count_nothing : value_cmp (number_or_text (codes "7")) (number_or_text (codes "007")) ≡ Equal
leading_zeros_count_nothing = refl

nineteen_digits_behind_decimals : value_cmp (number_or_text (codes "0000000000000000001"))
    (number_or_text (codes "2")) ≡ Greater
nineteen_digits_behind_decimals = refl

in_rack : List ℕ → List ℕ → Node
in_rack name rack = let prop : Prop = record { key = codes "rack"; text = rack } in
    record { name = name; attrs = prop ∷ []; tags = [] }

bare : List ℕ → Node
bare name = record { name = name; attrs = []; tags = [] }

four_tiers : tiers_of (Some (codes "rack"))
    (in_rack (codes "d") (codes "9") ∷ in_rack (codes "c") (codes "10") ∷ bare (codes "b")
    ∷ in_rack (codes "a") (codes "x") ∷ []) ≡ 0 ∷ 1 ∷ 2 ∷ 3 ∷ []
unfolding in_rack bare
four_tiers = refl

one_value_is_one_tier : tiers_of (Some (codes "rack"))
    (in_rack (codes "a") (codes "007") ∷ in_rack (codes "b") (codes "7") ∷ bare (codes "c") ∷ [])
    ≡ 0 ∷ 0 ∷ 1 ∷ []
unfolding in_rack bare
one_value_is_one_tier = refl

descending_turns_values : rank_cmp (Some (codes "rack")) true (bare (codes "b"))
    (in_rack (codes "a") (codes "7")) ≡ Less
unfolding in_rack bare
descending_turns_values = refl

descending_keeps_names : rank_cmp (Some (codes "rack")) true (in_rack (codes "a") (codes "7"))
    (in_rack (codes "b") (codes "007")) ≡ Less
unfolding in_rack bare
descending_keeps_names = refl

tags_rank_nothing : rank_cmp (Some (codes "tags")) false (bare (codes "10")) (bare (codes "9"))
    ≡ Less
unfolding bare
tags_rank_nothing = refl

the_name_ranks : rank_cmp None false (bare (codes "10")) (bare (codes "9")) ≡ Greater
unfolding bare
the_name_ranks = refl
