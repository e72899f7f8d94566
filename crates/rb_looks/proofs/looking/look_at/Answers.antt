use Rattle.rb_log.specs.declared.answer.Answer.TheVariants as answer
use Rattle.rb_looks.proofs.Shows.{told_settled}
use Rattle.rb_looks.proofs.looking.look_at.Goals as goal

pub returns-in-Ok : goal.returns-in-Ok
returns-in-Ok c past tabled =
    told_settled past c.args.caller c.args.look (answer.Shown c.in-Ok.shown)
    (c.in-Ok.ensures past tabled)

pub returns : goal.returns
returns c past tabled =
    told_settled past c.args.caller c.args.look c.in-Err.answer (c.in-Err.ensures past tabled)
