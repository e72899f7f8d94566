use Rattle.rb_demo.proofs.Verdicts.{bob_refused}
use Rattle.rb_demo.proofs.laws.bob_is_refused.Goals as goal

pub returns : goal.returns
returns c = bob_refused
