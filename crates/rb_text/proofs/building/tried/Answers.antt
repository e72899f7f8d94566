use Rattle.rb_text.proofs.Meaning.{compiled_read}
use Rattle.rb_text.proofs.building.tried.Goals as goal

pub returns-in-Some-clause-read : goal.returns-in-Some-clause-read
returns-in-Some-clause-read c = compiled_read _ _ c.in-Some.ensures

pub returns-in_ok-compiled-in-None-clause-read : goal.returns-in_ok-compiled-in-None-clause-read
returns-in_ok-compiled-in-None-clause-read c = compiled_read _ _ c.in_ok-compiled-in-None.ensures.ok
