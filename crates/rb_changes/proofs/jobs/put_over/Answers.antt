use Rattle.std.proofs.Common.{slice_set, ap}
use Rattle.rb_changes.proofs.jobs.put_over.Goals as goal

pub returns-clause-due : goal.returns-clause-due
returns-clause-due c = ap (slice_set c.args.due.now.items c.args.place) c.next_of.ensures
