use Rattle.std.proofs.Common.{◌∙◌, ap, sym, subst}
use Rattle.rb_tables.specs.Changes.{Keeps}
use Rattle.rb_tables.specs.Rights.{may_act}
use Rattle.rb_tables.proofs.Rights.{acts_as_logged}
use Rattle.rb_tables.proofs.tables.Tables.may_act_on.Goals as goal

pub returns : goal.returns
returns c past e tabled is =
    subst (λ rule. Keeps rule c.may_act.result)
    (ap (may_act c.args.self.now.world c.args.caller.now c.args.action.now) (sym is)
    ∙ acts_as_logged c.args.self.now past c.args.caller.now c.args.action.now e tabled)
    c.may_act.ensures
