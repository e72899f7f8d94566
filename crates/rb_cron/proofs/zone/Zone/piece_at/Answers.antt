use Rattle.jiff.specs.Words.{plain_zone}
use Rattle.rb_cron.proofs.Edges.{at_back}
use Rattle.rb_cron.proofs.Stretches.{has_piece}
use Rattle.rb_cron.proofs.zone.Zone.piece_at.Goals as goal

pub returns-clause-piece : goal.returns-clause-piece
returns-clause-piece c =
    has_piece c.self.inside.rule c.args.self.now (plain_zone c.self.inside.zone) c.args.at _ c.piece_at.result c.self.view_is c.self.invariant
    (at_back c.args.at (c.requires.early, c.requires.late)) c.piece_at.ensures.piece
