use Rattle.std.proofs.Common.{sym, subst}
use Rattle.rb_cron.specs.Due.{IsFirstFor}
use Rattle.rb_cron.specs.Next.{NoneDue}
use Rattle.rb_cron.proofs.Search.{none_early, first_back}
use Rattle.rb_cron.proofs.schedule.Schedule.first_behind.Goals as goal

pub returns-then-next-first-clause-passed : goal.returns-then-next-first-clause-passed
returns-then-next-first-clause-passed c =
    let r = c.first_instant-first.result in
    subst (NoneDue c.args.self.now c.args.after) (sym (first_back r c.first_instant-first.ensures.value))
    (none_early c.args.self.now c.args.after r (subst (λ s. IsFirstFor s.rule r) c.self.view_is c.first_instant-first.ensures.first))
