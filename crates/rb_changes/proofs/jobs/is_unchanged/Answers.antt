use Rattle.rb_changes.specs.Unchanged.{is_unchanged}
use Rattle.rb_changes.proofs.jobs.is_unchanged.Goals as goal

pub returns : goal.returns
unfolding is_unchanged
returns c = c.is_same.ensures
