use Rattle.rb_log.proofs.AskLaws as law
use Rattle.rb_log.proofs.laws.due_ask_is_kept.Goals as goal

pub returns : goal.returns
returns c = law.due_ask_is_kept
