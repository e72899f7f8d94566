use Rattle.std.proofs.Common.{◌+◌, nat_eq, codes, drop, get_or, ap, sym, ◌∙◌}
use Rattle.std.specs.List.{starts_with}
use Rattle.std.proofs.lemmas.List.{drop_more, take_rest}
use Rattle.rb_job.proofs.NodeText.{node_on}
use Rattle.rb_job.proofs.texts.has_node.Goals as goal

pub loop-i-preserved : goal.loop-i-preserved
loop-i-preserved c =
    let bs = c.args.text.now in
    node_on (get_or bs c.loop-i.i 0) (drop c.loop-i.i bs) (drop (c.loop-i.i + 1) bs) bs (drop_more bs c.loop-i.i 0 c.loop-i-test.true) (ap (λ l. starts_with nat_eq l (codes "${node.")) (sym (take_rest bs c.loop-i.i)) ∙ sym c.starts_with.ensures.value ∙ c.if-starts_with.false) c.loop-i.invariant
