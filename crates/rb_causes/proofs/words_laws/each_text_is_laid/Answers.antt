use Rattle.rb_causes.proofs.Laid.{each_text_is_laid}
use Rattle.rb_causes.proofs.words_laws.each_text_is_laid.Goals as goal

pub returns : goal.returns
returns c = each_text_is_laid
