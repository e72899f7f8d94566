use Rattle.rb_plan_laws.proofs.Firsts.{first_bad_told}
use Rattle.rb_plan_laws.proofs.laws.first_bad_is_told.Goals as goal

pub returns : goal.returns
returns c = first_bad_told
