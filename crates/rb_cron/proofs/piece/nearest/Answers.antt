use Rattle.rb_cron.proofs.Edges.{nearest_is, at_back, ends_at, bound_back}
use Rattle.rb_cron.proofs.piece.nearest.Goals as goal

pub returns : goal.returns
returns c =
    nearest_is c.args.at c.args.end c.args.edges c.nearer-end.result c.nearer-end-2.result c.nearer-end-3.result c.nearer-end-4.result c.nearer.result _ _ _ _ _ _
    (ends_at c.args.at c.args.end c.requires.at c.requires.end c.requires.last) (at_back c.args.at c.requires.at)
    (bound_back c.args.edges.year c.requires.edges.year) (bound_back c.args.edges.start c.requires.edges.start) (bound_back c.args.edges.finish c.requires.edges.finish)
    (bound_back c.args.edges.gap c.requires.edges.gap) (bound_back c.args.edges.fold c.requires.edges.fold)
    c.nearer-end.ensures c.nearer-end-2.ensures c.nearer-end-3.ensures c.nearer-end-4.ensures c.nearer.ensures
