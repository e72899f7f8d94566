use Rattle.rb_causes.proofs.Laid.{one_reading}
use Rattle.rb_causes.proofs.words_laws.one_reading.Goals as goal

pub returns : goal.returns
returns c = one_reading
