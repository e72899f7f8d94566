use Rattle.rb_session_laws.proofs.Told as law
use Rattle.rb_session_laws.proofs.laws.ten_is_full.Goals as goal

pub returns : goal.returns
returns g c = law.ten_is_full _
