use Rattle.std.proofs.Common.{refl}
use Rattle.rb_tools.proofs.Checks.{counts_nodes}
use Rattle.rb_tools.proofs.laws.check_steadily.Goals as goal

pub returns : goal.returns
returns c = counts_nodes _ c.args.words.now 0 0 _ _ _ refl refl c.tool_top.ensures.tool
