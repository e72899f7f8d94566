use Rattle.std.proofs.Common.{rules, sym, ap, ◌∙◌, None}
use Rattle.rb_acl.specs.Deciding.{decided}
use Rattle.rb_acl.specs.declared.effect.Effect.TheVariants.{Deny, Allow}
use Rattle.rb_acl.proofs.Deciders.{told_named, denied_told, rest_told}
use Rattle.rb_acl.proofs.caller_index.CallerIndex.decide.Goals as goal

pub returns-in-Some-clause-decision : goal.returns-in-Some-clause-decision
returns-in-Some-clause-decision c = λ caller here is.
    denied_told c.args.policies.now caller here c.args.resource.now c.args.action.now
    c.args.self.now is c.in_ok-clause.field-0 c.in-Some.clause c.in-Some.is
    c.in_ok-clause.ensures.found

pub returns-in-Some-clause-named : goal.returns-in-Some-clause-named
returns-in-Some-clause-named c =
    told_named Deny c.args.policies.now c.requires.0 c.requires.1 c.args.resource.now
    c.args.action.now c.args.self.now c.requires.2 c.in_ok-clause.field-0 c.in-Some.clause
    c.in-Some.is c.in_ok-clause.ensures.found

pub returns-in-Some-2-clause-decision : goal.returns-in-Some-2-clause-decision
returns-in-Some-2-clause-decision c = λ caller here is.
    ap (decided None) (sym c.in-Some-2.is)
    ∙ rest_told c.args.policies.now caller here c.args.resource.now c.args.action.now
    c.args.self.now is c.in_ok-clause.field-0 c.in_ok-clause-2.field-0 (search rules)
    c.in_ok-clause.ensures.found c.in_ok-clause-2.ensures.found

pub returns-in-Some-2-clause-named : goal.returns-in-Some-2-clause-named
returns-in-Some-2-clause-named c =
    told_named Allow c.args.policies.now c.requires.0 c.requires.1 c.args.resource.now
    c.args.action.now c.args.self.now c.requires.2 c.in_ok-clause-2.field-0 c.in-Some-2.clause
    c.in-Some-2.is c.in_ok-clause-2.ensures.found

pub returns-in-None-clause-decision : goal.returns-in-None-clause-decision
returns-in-None-clause-decision c = λ caller here is.
    ap (decided None) (sym c.in-None.is)
    ∙ rest_told c.args.policies.now caller here c.args.resource.now c.args.action.now
    c.args.self.now is c.in_ok-clause.field-0 c.in_ok-clause-2.field-0 (search rules)
    c.in_ok-clause.ensures.found c.in_ok-clause-2.ensures.found
