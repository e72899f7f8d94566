use Rattle.std.proofs.Common.{sym}
use Rattle.rb_wire.proofs.FieldValues.{no_decimal}
use Rattle.rb_wire.proofs.fields.length_in.Goals as goal

pub returns-in-Err : goal.returns-in-Err
returns-in-Err c = sym (no_decimal _ c.in-Err.ensures.cases.0)
