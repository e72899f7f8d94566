use Rattle.rb_desk.proofs.SoloLaws.{acts_of_steps}
use Rattle.rb_session_top.proofs.owned.OwnedClerk.act.Goals as goal

pub returns-clause-acts : goal.returns-clause-acts
returns-clause-acts g c =
    acts_of_steps c.rights_follow.ensures g.K.Keeper.rows g.K.Keeper.faults c.args.self.now.desk
    c.step.new.self c.args.call c.step.result c.step.ensures.was c.step.ensures.is c.requires
    c.step.ensures.step

pub returns-clause-step : goal.returns-clause-step
returns-clause-step g c = c.step.ensures.step
