use Rattle.rb_top.proofs.RuleLaws.{rules_are_broken}
use Rattle.rb_top.proofs.laws.rules_are_broken.Goals as goal

pub returns : goal.returns
returns c = rules_are_broken
