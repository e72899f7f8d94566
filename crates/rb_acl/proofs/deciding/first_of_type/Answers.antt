use Rattle.std.proofs.Common.{ap, ◌∙◌}
use Rattle.rb_acl.proofs.Places.{none_of_rules, other_type}
use Rattle.rb_acl.proofs.deciding.first_of_type.Goals as goal

pub returns-then-ne-clause-found : goal.returns-then-ne-clause-found
returns-then-ne-clause-found c =
    none_of_rules c.args.effect c.args.question.now c.args.policy.now c.args.rules.now.name
    c.args.doc c.args.type_index 0 c.args.rules.now.rules
    (other_type c.args.question.now c.args.policy.now c.args.rules.now.name
    c.as_str.result.now c.as_str-2.result.now c.ne.result c.as_str.ensures
    (c.as_str-2.ensures ∙ ap (λ q. q.resource.type_name) c.question.view_is) c.ne.ensures
    c.if-ne.true)
