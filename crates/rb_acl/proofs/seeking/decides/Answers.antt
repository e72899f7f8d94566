use Rattle.std.proofs.Common.{sym, ◌∙◌, ap}
use Rattle.std.specs.Option.{option_copied}
use Rattle.rb_acl.proofs.Plainness.{plain_at}
use Rattle.rb_acl.proofs.seeking.decides.Goals as goal

pub returns-in-Some-clause-memory : goal.returns-in-Some-clause-memory
returns-in-Some-clause-memory c = λ plain.
    c.rule_answers.ensures.memory
    (plain_at c.args.sought.now.policies.now c.args.place.now c.in-Some.rule.now plain
    (sym c.rule_at.ensures ∙ ap option_copied c.in-Some.is))
