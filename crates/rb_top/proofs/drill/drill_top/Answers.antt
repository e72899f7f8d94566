use Rattle.rb_top.proofs.OutcomeLemmas.{starved}
use Rattle.rb_top.proofs.drill.drill_top.Goals as goal

pub returns-in-Err-clause-drill : goal.returns-in-Err-clause-drill
returns-in-Err-clause-drill g c = starved (g.F.Shelf.files c.args.shelf.now) c.args.words.now _ _ _ _ c.in-Err.ensures.none c.tell_memory.ensures
