use Rattle.std.proofs.Common.{arith}
use Rattle.rb_flow.proofs.Room.{reserve_most}
use Rattle.rb_flow.proofs.flow.Flow.ready.Goals as goal

pub invariant_of-self-2 : goal.invariant_of-self-2
invariant_of-self-2 c =
    rw c.reserve.ensures.items (
      record {
        sound = c.self.invariant.0.sound;
        legal = c.self.invariant.0.legal;
        reserved =
            omega (
              arith,
              reserve_most c.self.inside.plan.tiers c.self.inside.marks.items,
              c.len.ensures,
              c.len-2.ensures,
              c.self.inside.marks.ok.0,
              c.in_ok-reserve.ensures.ok,
            );
      },
      c.self.invariant.1,
    )
