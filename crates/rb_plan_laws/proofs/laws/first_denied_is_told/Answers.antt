use Rattle.rb_plan_laws.proofs.Firsts.{first_denied_told}
use Rattle.rb_plan_laws.proofs.laws.first_denied_is_told.Goals as goal

pub returns : goal.returns
returns c = first_denied_told
