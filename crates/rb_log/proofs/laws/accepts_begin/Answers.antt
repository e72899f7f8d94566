use Rattle.rb_log.proofs.AcceptLaws as law
use Rattle.rb_log.proofs.laws.accepts_begin.Goals as goal

pub returns : goal.returns
returns c = law.accepts_begin
