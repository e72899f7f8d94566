use Rattle.std.proofs.Common.{◌∙◌, sym}
use Rattle.rb_demo.proofs.Evens.{allowed_are_even}
use Rattle.rb_demo.proofs.even_nodes.allowed.Goals as goal

pub returns : goal.returns
returns c =
    c.even_count.ensures
    ∙ sym (allowed_are_even c.world_is_demo.ensures c.even_are_runnable.ensures c.args.nodes
    c.requires.few.0 c.requires.few.1)
