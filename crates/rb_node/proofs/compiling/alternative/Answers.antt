use Rattle.rb_node.specs.Values.{alternative_values}
use Rattle.rb_node.proofs.Stopping.{wanting}
use Rattle.rb_node.proofs.compiling.alternative.Goals as goal

pub returns-in_err-texts-clause-fault : goal.returns-in_err-texts-clause-fault
returns-in_err-texts-clause-fault c =
    wanting c.from_residual.result
    (alternative_values c.args.attr.now c.args.text.now) c.from_residual.ensures.1
