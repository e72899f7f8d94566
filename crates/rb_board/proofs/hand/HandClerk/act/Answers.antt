use Rattle.std.proofs.Common.{subst}
use Rattle.rb_log.specs.Told.{Acts}
use Rattle.rb_board.specs.Boards.{told_of_pass}
use Rattle.rb_board.proofs.Known.{pass_acts}
use Rattle.rb_board.proofs.hand.HandClerk.act.Goals as goal

pub returns-clause-acts : goal.returns-clause-acts
returns-clause-acts g c =
    subst (λ p. Acts (told_of_pass p) (told_of_pass c.act.new.pass) c.args.call c.act.result)
    c.self.view_is
    (pass_acts c.self.inside.pass c.act.new.pass c.args.call c.act.result c.act.ensures.board
    c.act.ensures.acted)
