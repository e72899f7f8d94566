use Rattle.std.proofs.Common.{◌∙◌, subst}
use Rattle.rb_tools.specs.Demo.{played}
use Rattle.rb_tools.specs.Printing.{Prints}
use Rattle.rb_tools.proofs.demo.print_demo.Goals as goal

pub returns-in-Ok-clause-demo : goal.returns-in-Ok-clause-demo
returns-in-Ok-clause-demo g c =
    played c.in-Ok.ensures.0 c.in-Ok.ensures.1
    (subst (λ text. Prints text c.print_text.result (g.O.Sink.shown c.args.out.now)
    (g.O.Sink.shown c.print_text.new.out)) (c.as_str.ensures.value ∙ c.in-Ok.ensures.2)
    c.print_text.ensures.prints)
