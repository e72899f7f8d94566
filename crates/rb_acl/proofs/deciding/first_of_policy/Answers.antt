use Rattle.std.proofs.Common.{rules}
use Rattle.rb_acl.proofs.Places.{none_of_types}
use Rattle.rb_acl.proofs.deciding.first_of_policy.Goals as goal

pub returns-then-not-branch-clause-found : goal.returns-then-not-branch-clause-found
returns-then-not-branch-clause-found c =
    none_of_types c.args.effect c.args.question.now c.args.policy.now c.args.doc 0
    c.args.policy.now.types (search rules)
