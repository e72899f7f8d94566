-- The most places that are kept in reserve.
use Rattle.std.proofs.Common.{ℕ, ◌+◌, ◌≤◌, Bool, true, false, cond, List, [], ◌∷◌, length, arith}
use Rattle.std.specs.List.{list_any}
use Rattle.std.proofs.lemmas.List.Sums.{count_by-le-length}
use Rattle.rb_marks.specs.First.{is_lost, is_withdrawn, open_begin}
use Rattle.rb_marks.specs.FlowState.{is_abort, not_withdrawn_from, reserve_for}
use Rattle.rb_marks.specs.declared.mark.Mark.{Mark}

one_most : (b : Bool) → cond b 0 1 ≤ 1
one_most true = omega arith
one_most false = omega arith

nodes_most : (marks : List Mark) (n : ℕ) (ts : List ℕ)
    → not_withdrawn_from marks n ts ≤ length ts
nodes_most marks n [] = omega arith
nodes_most marks n (t ∷ ts) =
    omega (arith, one_most (is_withdrawn marks n), nodes_most marks (n + 1) ts)

-- one for an abort, a loss, each node and each mark
pub reserve_most : (ts : List ℕ) (marks : List Mark)
    → reserve_for ts marks ≤ length ts + length marks + 2
reserve_most ts marks =
    omega (
      arith,
      one_most (list_any is_abort marks),
      one_most (list_any is_lost marks),
      nodes_most marks 0 ts,
      count_by-le-length (open_begin marks) marks,
    )
