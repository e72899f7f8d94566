use Rattle.rb_log.proofs.AskLaws.{ask_is_kept}
use Rattle.rb_log.proofs.laws.ask_is_kept.Goals as goal

pub returns : goal.returns
returns c = ask_is_kept
