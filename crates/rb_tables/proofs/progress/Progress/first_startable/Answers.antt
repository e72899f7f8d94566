use Rattle.std.proofs.Common.{subst}
use Rattle.rb_tables.specs.Progress.{HasEnded, IsProgress}
use Rattle.rb_tables.proofs.Ended.{none_starts}
use Rattle.rb_tables.proofs.progress.Progress.first_startable.Goals as goal

pub returns-in-Over : goal.returns-in-Over
returns-in-Over c l is =
    let over : HasEnded c.in-Over.field-0 l = subst (λ p. IsProgress p l) c.in-Over.is is in
    none_starts l over.ended
