use Rattle.std.proofs.Common.{arith}
use Rattle.rb_runs.proofs.Runs.{draw_is_low}
use Rattle.rb_runs.proofs.asking.draw_number.Goals as goal

pub overflow_add-result : goal.overflow_add-result
overflow_add-result c =
    let small = draw_is_low c.requires.0 c.requires.1.legal in
    let draw = c.requires.1.says.draw in
    let low = c.next_number.ensures.low in omega (arith, small, draw, low)
