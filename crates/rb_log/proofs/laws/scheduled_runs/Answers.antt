use Rattle.rb_log.proofs.TickRows as law
use Rattle.rb_log.proofs.laws.scheduled_runs.Goals as goal

pub returns : goal.returns
returns c = law.scheduled_runs
