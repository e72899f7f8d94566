use Rattle.rb_plan.proofs.Told.{own_told}
use Rattle.rb_plan.proofs.naming.put_own_names.Goals as goal

pub returns : goal.returns
returns c =
    own_told _ _ _ _ c.args.name.now c.args.group.now c.args.id.now c.in_ok-put_name.ensures c.in_ok-put_name-2.ensures c.in_ok-put_name-3.ensures
