use Rattle.rb_session.proofs.Running as law
use Rattle.rb_session.proofs.laws.courses_run.Goals as goal

pub returns : goal.returns
returns g c = law.courses_run c.pump_laws.ensures _
