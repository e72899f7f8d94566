use Rattle.rb_command.proofs.FaultLines.{stops_not_fetched}
use Rattle.rb_top.proofs.drill.drill_file.Goals as goal

pub returns-in-Ok-clause-drill : goal.returns-in-Ok-clause-drill
returns-in-Ok-clause-drill g c = rw c.in-Ok.ensures.silent at (c.drill_bytes.ensures.drill (g.F.Shelf.files c.args.shelf.now) (g.F.Shelf.faults c.args.shelf.now) (g.F.Shelf.faults c.fetch_or_tell.new.shelf) (rw c.as_slice.ensures.value c.in-Ok.ensures.bytes) c.in-Ok.ensures.steady)

pub returns-in-Err-clause-out : goal.returns-in-Err-clause-out
returns-in-Err-clause-out g c = stops_not_fetched _ _ _ _ c.in-Err.ensures.told
