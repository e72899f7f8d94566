use Rattle.rb_session_laws.proofs.Told as law
use Rattle.rb_session_laws.proofs.laws.zero_is_well.Goals as goal

pub returns : goal.returns
returns g c = law.zero_is_well _
