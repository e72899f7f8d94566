use Rattle.rb_orch.proofs.Inserted.{ranked_is_sorted}
use Rattle.rb_orch.proofs.laws.ranked_is_sorted.Goals as goal

pub returns : goal.returns
returns c = ranked_is_sorted
