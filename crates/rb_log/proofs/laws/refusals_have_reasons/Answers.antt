use Rattle.rb_log.proofs.ReasonLaws as law
use Rattle.rb_log.proofs.laws.refusals_have_reasons.Goals as goal

pub returns : goal.returns
returns c = law.refusals_have_reasons c.refusal_holds.ensures
