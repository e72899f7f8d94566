use Rattle.std.proofs.Common.{refl}
use Rattle.rb_tools.proofs.Checks.{starved}
use Rattle.rb_tools.proofs.tool.tool_top.Goals as goal

pub returns-in-Err-clause-tool : goal.returns-in-Err-clause-tool
returns-in-Err-clause-tool g c = starved (g.F.Shelf.files c.args.shelf.now) c.args.words.now _ _ _ refl c.in-Err.ensures.none c.tell_memory.ensures
