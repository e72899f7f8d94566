use Rattle.rb_serve.proofs.Boarding.{is_saved}
use Rattle.rb_serve.proofs.serving.save_all.Goals as goal

pub returns-clause-saved : goal.returns-clause-saved
returns-clause-saved g c = (
  c.saving_of-saving.result,
  is_saved g.K.Keeper.faults c.args.desk c.act.new.self.desk c.act.result
      c.saving_of-saving.result c.act.ensures.acts c.act.ensures.step c.saving_of-saving.ensures,
  c.tell_end.ensures.ends,
)
