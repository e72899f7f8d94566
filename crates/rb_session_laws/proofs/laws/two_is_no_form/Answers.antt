use Rattle.rb_session_laws.proofs.Told as law
use Rattle.rb_session_laws.proofs.laws.two_is_no_form.Goals as goal

pub returns : goal.returns
returns g c = law.two_is_no_form _
