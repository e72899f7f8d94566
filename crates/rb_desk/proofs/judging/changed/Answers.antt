-- Why there is no change.
use Rattle.std.proofs.Common.{subst}
use Rattle.rb_tables.specs.Changes.{Decided}
use Rattle.rb_desk.proofs.Unfits.{turns}
use Rattle.rb_desk.proofs.judging.changed.Goals as goal

pub of_answer-requires : goal.of_answer-requires
of_answer-requires c =
    let r = c.requires in (r.0, r.1, subst (Decided r.0 r.1) c.in-Err.is r.2)

pub returns-in-Err : goal.returns-in-Err
returns-in-Err c = λ past call decided.
    rw c.of_answer.ensures
    (turns past call c.in-Err.answer (subst (Decided past call) c.in-Err.is decided))
