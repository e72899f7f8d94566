use Rattle.std.proofs.Common.{sym, ap, ◌∙◌, nat_eq, arith}
use Rattle.rb_marks.specs.First.{is_good}
use Rattle.rb_flow.proofs.TallyCounts.{all_is_count}
use Rattle.rb_flow.proofs.tally.Tally.all_good.Goals as goal

pub returns : goal.returns
returns c =
    ap (λ n. nat_eq n c.len.result) c.requires.good
    ∙ ap (nat_eq _) (omega arith)
    ∙ sym (all_is_count (λ s. is_good s.outcome) c.args.self.now.states.items)
