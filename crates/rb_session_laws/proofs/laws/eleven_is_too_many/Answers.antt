use Rattle.rb_session_laws.proofs.Told as law
use Rattle.rb_session_laws.proofs.laws.eleven_is_too_many.Goals as goal

pub returns : goal.returns
returns g c = law.eleven_is_too_many _
