use Rattle.rb_node.proofs.Filtering.{wanting_text}
use Rattle.rb_node.proofs.filter.Filter.read.Goals as goal

pub returns-in_err-text-clause-fault : goal.returns-in_err-text-clause-fault
returns-in_err-text-clause-fault c =
    wanting_text c.from_residual-in_err-text.result c.args.text.now
    c.from_residual-in_err-text.ensures.1
