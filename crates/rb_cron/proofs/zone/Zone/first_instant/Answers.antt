use Rattle.std.proofs.Common.{subst}
use Rattle.jiff.specs.Words.{plain_zone}
use Rattle.rb_cron.specs.Due.{IsFirstFor}
use Rattle.rb_cron.proofs.Given.{due_is_near}
use Rattle.rb_cron.proofs.Kept.{kept_clock}
use Rattle.rb_cron.proofs.zone.Zone.first_instant.Goals as goal

pub returns-clause-first : goal.returns-clause-first
returns-clause-first c =
    subst (λ rule. IsFirstFor rule _) c.self.view_is
    (λ f t due. due_is_near (record { fields = f; rule = c.self.inside.rule }) (plain_zone c.self.inside.zone) t (kept_clock c.self.inside.rule (plain_zone c.self.inside.zone) c.self.invariant) due)
