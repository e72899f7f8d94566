use Rattle.std.proofs.Common.{refl, subst, arith}
use Rattle.rb_desk.specs.Settling.{IsDecided}
use Rattle.rb_desk.proofs.Stepping.{settled_steps}
use Rattle.rb_desk.proofs.desk.Desk.settle.Goals as goal

pub returns-in-Err-clause-step : goal.returns-in-Err-clause-step
returns-in-Err-clause-step g c call d =
    settled_steps c.rules_are_plain.ensures g.K.Keeper.faults c.args.self.now c.args.self.now call
    c.in-Err.answer (record { log = refl; saved = refl; room = refl; later = omega arith }) refl
    (subst (λ r. IsDecided c.args.self.now.log r call) c.in-Err.is d)
