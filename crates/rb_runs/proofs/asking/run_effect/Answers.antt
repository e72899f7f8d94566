use Rattle.std.proofs.Common.{◌<◌, ℤ, length, vec_capacity, ap, subst, to_z, of_z, w64}
use Rattle.std.proofs.Math.Facts.{to_z-of_z}
use Rattle.rb_plan.specs.Acceptance.{acceptance}
use Rattle.rb_log.specs.Executions.{Execution, started}
use Rattle.rb_runs.proofs.asking.run_effect.Goals as goal

pub returns : goal.returns
returns c =
    let a = acceptance c.args.accepted in
    let at : ℤ = to_z w64 (of_z w64 c.args.at) in
    let world = c.args.tables.now.world in
    let e : Execution = started world c.args.number at c.args.caller a in
    record {
      execution = e;
      is = ap (λ t. started world c.args.number t c.args.caller a) (to_z-of_z c.ranges.at);
      entry = c.in_ok-execution.ensures;
      need = c.need_of-need.ensures;
      fired = c.in_ok-fired.ensures;
      new = c.in_ok-new.ensures e c.in_ok-execution.ensures.is;
      empty = c.in_ok-room.ensures.empty;
      memory = subst (λ rs. length rs < vec_capacity c.in_ok-room.room) c.as_slice.ensures
          c.in_ok-room.ensures.memory;
    }
