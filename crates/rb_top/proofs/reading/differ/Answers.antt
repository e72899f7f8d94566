use Rattle.std.proofs.Common.{[]}
use Rattle.rb_top.proofs.Unlike.{new_is_differ}
use Rattle.rb_top.proofs.reading.differ.Goals as goal

pub loop-name-init : goal.loop-name-init
loop-name-init c = ([], c.new-seen.ensures, new_is_differ c.args.names.now)
