use Rattle.rb_tools.proofs.printing.give.Goals as goal

pub returns-in-Ok-clause-gives : goal.returns-in-Ok-clause-gives
returns-in-Ok-clause-gives g c = rw c.in-Ok.is (rw c.as_str.ensures.value at c.print_text.ensures.prints)
