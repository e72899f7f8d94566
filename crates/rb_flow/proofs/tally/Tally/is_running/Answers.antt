use Rattle.std.proofs.Common.{sym, ap, ◌∙◌, nat_lt}
use Rattle.rb_flow.proofs.TallyCounts.{any_is_count}
use Rattle.rb_flow.proofs.tally.Tally.is_running.Goals as goal

pub returns : goal.returns
returns c =
    ap (nat_lt 0) c.requires.running
    ∙ sym (any_is_count (λ s. s.running) c.args.self.now.states.items)
