use Rattle.std.proofs.Common.{rules, not, nat_eq}
use Rattle.std.proofs.lemmas.Fn.{filter_same}
use Rattle.rb_changes.proofs.retiring.take_running.Goals as goal

pub returns : goal.returns
returns c =
    filter_same _ (λ r. not (nat_eq r.execution c.args.number)) _ (λ x b f' k. search rules) _ _
    c.retain.ensures.filtered
