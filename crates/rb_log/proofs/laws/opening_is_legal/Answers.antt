use Rattle.rb_log.proofs.OpeningLegal as law
use Rattle.rb_log.proofs.laws.opening_is_legal.Goals as goal

pub returns : goal.returns
returns c = law.opening_is_legal
