use Rattle.rb_tables.proofs.Withdrawn.{may_too, withdrawn_is}
use Rattle.rb_tables.proofs.execution.Execution.withdraw.Goals as goal

pub returns : goal.returns
returns c l is =
    withdrawn_is c.args.self.now c.withdraw.new.self c.push_reserved.new.self c.args.new l is
    c.push_reserved.ensures.items
    (c.withdraw.ensures l is.progress
    (may_too c.args.self.now.progress c.requires.may.0 l c.args.new.node
    c.requires.may.1.progress c.requires.may.2 is.progress))
