-- The order of ranks is an order.
use Rattle.std.proofs.Common.{◌≡◌, ℕ, Bool, true, false, Option, List, Less, Equal, refl}
use Rattle.std.specs.Cmp.{IsTotalOrder}
use Rattle.std.specs.Ordering.{ordering_reverse}
use Rattle.std.proofs.lemmas.Cmp.{nat_cmp_total, nat_list_cmp_total, on_total, then_total, back_total}
use Rattle.rb_node.specs.declared.node.Node.{Node}
use Rattle.rb_orch.specs.Ranking.{RankValue, number, other, value_cmp, rank_value, directed_cmp, rank_cmp}

antisymm : (x y : RankValue) → value_cmp x y ≡ ordering_reverse (value_cmp y x)
antisymm (number m) (number n) = nat_cmp_total.antisymm m n
antisymm (number m) (other b) = refl
antisymm (other a) (number n) = refl
antisymm (other a) (other b) = nat_list_cmp_total.antisymm a b

trans : (x y z : RankValue) → value_cmp x y ≡ Less → value_cmp y z ≡ Less → value_cmp x z ≡ Less
trans (number l) (number m) (number n) h k = nat_cmp_total.trans l m n h k
trans (number l) (number m) (other c) h k = refl
trans (number l) (other b) (number n) h k = cc
trans (number l) (other b) (other c) h k = refl
trans (other a) (number m) (number n) h k = cc
trans (other a) (number m) (other c) h k = cc
trans (other a) (other b) (number n) h k = cc
trans (other a) (other b) (other c) h k = nat_list_cmp_total.trans a b c h k

congr : (x y z : RankValue) → value_cmp x y ≡ Equal → value_cmp x z ≡ value_cmp y z
congr (number l) (number m) (number n) h = nat_cmp_total.congr l m n h
congr (number l) (number m) (other c) h = refl
congr (number l) (other b) (number n) h = cc
congr (number l) (other b) (other c) h = cc
congr (other a) (number m) (number n) h = cc
congr (other a) (number m) (other c) h = cc
congr (other a) (other b) (number n) h = refl
congr (other a) (other b) (other c) h = nat_list_cmp_total.congr a b c h

value_total : IsTotalOrder value_cmp
value_total = record { antisymm = antisymm; trans = trans; congr = congr }

directed_total : (down : Bool) → IsTotalOrder (directed_cmp down)
directed_total true = back_total value_total
directed_total false = value_total

pub rank_total : (by : Option (List ℕ)) (down : Bool) → IsTotalOrder (rank_cmp by down)
rank_total by down = then_total (on_total (rank_value by) (directed_total down))
    (on_total (λ (n : Node). n.name) nat_list_cmp_total)
