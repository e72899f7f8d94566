use Rattle.std.proofs.Common.{[], arith}
use Rattle.rb_flow.proofs.Room.{reserve_most}
use Rattle.rb_flow.proofs.flow.Flow.open.Goals as goal

pub invariant_of-result : goal.invariant_of-result
invariant_of-result c =
    rw c.in_ok-marks.ensures.items (
      record {
        sound = c.requires;
        legal = tt;
        reserved =
            omega (
              arith,
              reserve_most c.args.plan.tiers [],
              c.len.ensures,
              c.in_ok-marks.ensures.len,
              c.in_ok-marks.ensures.capacity,
            );
      },
      c.in_ok-kept.ensures,
    )
