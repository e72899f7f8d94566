use Rattle.rb_top.proofs.Judging.{refuse_nothing, refuse_played, refuse_cut}
use Rattle.rb_top.proofs.PlayedLemmas.{plays_printed}
use Rattle.rb_top.proofs.running.refuse.Goals as goal

pub returns-in_default : goal.returns-in_default
returns-in_default g c spawner = refuse_nothing c.args.number c.args.decisions.now spawner _ c.in_default.len_below

pub returns : goal.returns
returns g c spawner =
    plays_printed _ _ _ c.print_verdict.result c.print_verdict.ensures
    (λ done. refuse_played c.args.number c.args.decisions.now c.first-item.result spawner _ _ c.in-len1-up.len_at_least c.first-item.is)
    (λ trouble. refuse_cut c.args.number c.args.decisions.now c.first-item.result spawner _ _ c.in-len1-up.len_at_least c.first-item.is)
