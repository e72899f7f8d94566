use Rattle.std.proofs.Common.{refl}
use Rattle.rb_tools.specs.Printing.{wanted}
use Rattle.rb_tools.proofs.printing.print_text.Goals as goal

pub returns-in-Err-NoMemory-clause-prints : goal.returns-in-Err-NoMemory-clause-prints
returns-in-Err-NoMemory-clause-prints g c = wanted refl (rw (c.in-Err-NoMemory.field-0-is, c.as_bytes.ensures.value) at c.in-Err-NoMemory.ensures) c.tell_memory.ensures
