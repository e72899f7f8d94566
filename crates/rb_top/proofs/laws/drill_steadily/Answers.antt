use Rattle.std.proofs.Common.{refl}
use Rattle.rb_top.proofs.OutcomeLemmas.{completes_or_wants}
use Rattle.rb_top.proofs.laws.drill_steadily.Goals as goal

pub returns : goal.returns
returns c = completes_or_wants _ c.args.words.now 0 0 _ _ _ _ _ refl refl c.drill_top.ensures.drill
