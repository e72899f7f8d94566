use Rattle.std.proofs.Common.{rules, not}
use Rattle.std.proofs.lemmas.Fn.{filter_same}
use Rattle.rb_log.specs.Sums.{same_open}
use Rattle.rb_changes.proofs.ending.take_leaf.Goals as goal

pub returns : goal.returns
returns c =
    filter_same _ (λ y. not (same_open y c.args.ended)) _ (λ x b f' k. search rules) _ _
    c.retain.ensures.filtered
