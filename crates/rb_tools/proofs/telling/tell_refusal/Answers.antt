use Rattle.rb_tools.proofs.telling.tell_refusal.Goals as goal

pub returns-in-Filter : goal.returns-in-Filter
returns-in-Filter g c = rw c.in-Filter.is (rw c.filter_kind.ensures at c.tell_argument.ensures)

pub returns-in-Crontab : goal.returns-in-Crontab
returns-in-Crontab g c = rw c.in-Crontab.is (rw c.crontab_kind.ensures at c.tell_argument-in-Crontab.ensures)

pub returns-in-Zone : goal.returns-in-Zone
returns-in-Zone g c = rw c.in-Zone.is c.tell_argument-in-Zone.ensures
