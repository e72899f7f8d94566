use Rattle.std.proofs.Common.{◌≡◌, ap, ◌∙◌, length, arith}
use Rattle.rb_orch.proofs.Steps.{length_places}
use Rattle.rb_orch.proofs.picking.pick_subset.Goals as goal

pub drawn-requires : goal.drawn-requires
drawn-requires c =
    let left : length c.in_ok-left.left.items ≡ c.len.result =
    ap length c.in_ok-left.ensures ∙ length_places 0 c.len.result in
    omega (arith, left, c.min-wanted.ensures, c.len.ensures, c.len-2.ensures)
