use Rattle.rb_session_top.proofs.Saving.{is_saved}
use Rattle.rb_session_top.proofs.serving.save.Goals as goal

pub returns : goal.returns
returns g c =
    is_saved g.K.Keeper.faults c.args.clerk.now.desk c.act.new.self.desk c.act.result
    c.saving_of.result c.act.ensures.acts c.act.ensures.step c.saving_of.ensures
