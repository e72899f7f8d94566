use Rattle.rb_acl.proofs.Firsts.{names_rule}
use Rattle.rb_acl.proofs.deciding.decide.Goals as goal

pub returns-in-Some-clause-named : goal.returns-in-Some-clause-named
returns-in-Some-clause-named c =
    names_rule c.args.policies.now _ c.in_ok-clause.field-0 c.in-Some.clause c.in-Some.is
    c.in_ok-clause.ensures.found

pub returns-in-Some-2-clause-named : goal.returns-in-Some-2-clause-named
returns-in-Some-2-clause-named c =
    names_rule c.args.policies.now _ c.in_ok-clause-2.field-0 c.in-Some-2.clause c.in-Some-2.is
    c.in_ok-clause-2.ensures.found
