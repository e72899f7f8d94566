-- Why a text is no filter.
use Rattle.rb_desk.proofs.Unfits.{filter_is_unfit}
use Rattle.rb_desk.proofs.judging.filter_of.Goals as goal

pub returns-in-Err : goal.returns-in-Err
returns-in-Err c =
    rw (c.in-Some.is, c.of_filter_fault.ensures)
    (filter_is_unfit c.in-Some.text c.in-Err.fault
    (rw c.as_str.ensures at c.in-Err.ensures.fault))
