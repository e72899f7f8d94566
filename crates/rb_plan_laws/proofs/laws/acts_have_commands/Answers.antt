use Rattle.rb_plan_laws.proofs.Included.{acts_have}
use Rattle.rb_plan_laws.proofs.laws.acts_have_commands.Goals as goal

pub returns : goal.returns
returns c = acts_have
