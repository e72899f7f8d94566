use Rattle.rb_desk.proofs.StopLaws as law
use Rattle.rb_desk.proofs.stopping.held_are_kept.Goals as goal

pub returns : goal.returns
returns c = law.held_are_kept
