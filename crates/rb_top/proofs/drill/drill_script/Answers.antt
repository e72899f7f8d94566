use Rattle.rb_top.proofs.OutcomeLemmas.{drills_whole, drills_cut, drills_wanted}
use Rattle.rb_top.proofs.drill.drill_script.Goals as goal

pub returns-in-Ok-clause-drill : goal.returns-in-Ok-clause-drill
returns-in-Ok-clause-drill g c = drills_whole c.args.script.now c.in-Ok.ensures

pub returns-in-Err-Failed-clause-drill : goal.returns-in-Err-Failed-clause-drill
returns-in-Err-Failed-clause-drill g c = drills_cut c.args.script.now (rw c.in-Err-Failed.field-0-is at c.in-Err-Failed.ensures)

pub returns-in-Err-NoMemory-clause-drill : goal.returns-in-Err-NoMemory-clause-drill
returns-in-Err-NoMemory-clause-drill g c = drills_wanted c.args.script.now (rw c.in-Err-NoMemory.field-0-is at c.in-Err-NoMemory.ensures) c.tell_memory.ensures
