use Rattle.rb_demo.proofs.Verdicts.{ann_accepted}
use Rattle.rb_demo.proofs.laws.ann_is_accepted.Goals as goal

pub returns : goal.returns
returns c = ann_accepted
