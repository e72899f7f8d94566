use Rattle.rb_session_laws.proofs.Told as law
use Rattle.rb_session_laws.proofs.laws.three_is_refused.Goals as goal

pub returns : goal.returns
returns g c = law.three_is_refused _
