use Rattle.rb_causes.proofs.Laid.{quoted_is_one_word}
use Rattle.rb_causes.proofs.words_laws.quoted_is_one_word.Goals as goal

pub returns : goal.returns
returns c = quoted_is_one_word
