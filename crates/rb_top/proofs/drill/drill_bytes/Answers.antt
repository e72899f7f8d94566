use Rattle.std.proofs.Common.{refl}
use Rattle.rb_top.specs.Outcome.{drilled, refused}
use Rattle.rb_top.proofs.Runs.{runs_have_steps}
use Rattle.rb_top.proofs.Sizes.{script_is_numbered}
use Rattle.rb_top.proofs.drill.drill_bytes.Goals as goal

pub drill_script-requires : goal.drill_script-requires
drill_script-requires g c = record {
  steps = runs_have_steps c.args.bytes.now c.in-Ok.script c.in-Ok.ensures;
  numbered = script_is_numbered c.args.bytes.now c.in-Ok.script c.in-Ok.ensures;
}

pub returns-in-Ok-clause-drill : goal.returns-in-Ok-clause-drill
returns-in-Ok-clause-drill g c files faults faults' fetched same =
    drilled c.in-Ok.script (record { bytes = c.args.bytes.now; fetched = fetched; read = c.in-Ok.ensures }) same c.drill_script.ensures.drill

pub returns-in-Err-Fault-clause-drill : goal.returns-in-Err-Fault-clause-drill
returns-in-Err-Fault-clause-drill g c files faults faults' fetched same =
    refused c.in-Err-Fault.fault (record { bytes = c.args.bytes.now; fetched = fetched; refused = rw c.in-Err-Fault.field-0-is at c.in-Err-Fault.ensures }) same refl refl
    (rw c.in-Err-Fault.field-0-is at c.tell_fault.ensures)
