use Rattle.rb_session_laws.proofs.Told as law
use Rattle.rb_session_laws.proofs.laws.eight_is_bad_row.Goals as goal

pub returns : goal.returns
returns g c = law.eight_is_bad_row _
