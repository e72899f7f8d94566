use Rattle.rb_top.proofs.Scripts.{step_named}
use Rattle.rb_top.proofs.names.Names.note.Goals as goal

pub returns-in-Step : goal.returns-in-Step
returns-in-Step c = rw c.in-Step.is (step_named c.args.self.now c.args.script.now c.in-Step.field-0 c.requires)
