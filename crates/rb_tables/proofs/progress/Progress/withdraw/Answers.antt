use Rattle.rb_tables.proofs.Withdrawn.{ended_in, none_withdrawn}
use Rattle.rb_tables.proofs.progress.Progress.withdraw.Goals as goal

-- nothing is withdrawn of what is over
pub returns-in-Over : goal.returns-in-Over
returns-in-Over c l is may =
    let r = c.in-Over.field-0 in
    absurd (none_withdrawn r l c.args.node (ended_in c.args.self.now r l is c.in-Over.is) may)
