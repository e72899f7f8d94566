use Rattle.std.proofs.Common.{arith}
use Rattle.rb_yaml.proofs.FlowFacts.{behind_shorter}
use Rattle.rb_yaml.proofs.line.SourceLine.behind_item.Goals as goal

pub overflow_sub-self-inside : goal.overflow_sub-self-inside
overflow_sub-self-inside c = behind_shorter c.self.inside.text.now c.behind_first.result.now c.past_blanks-text.result.now c.behind_first.ensures c.past_blanks-text.ensures

pub at-requires : goal.at-requires
at-requires c =
    let less = behind_shorter c.self.inside.text.now c.behind_first.result.now c.past_blanks-text.result.now c.behind_first.ensures c.past_blanks-text.ensures in
    omega (arith, less, c.self.invariant.1)
