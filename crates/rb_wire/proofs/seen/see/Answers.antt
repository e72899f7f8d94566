use Rattle.std.proofs.Common.{◌∙◌, ◌<◌, length, sym, arith, eqb-true}
use Rattle.std.proofs.lemmas.Bool.Decides.{nat_tests}
use Rattle.rb_wire.proofs.Sights.{empty_wants, overflow_breaks}
use Rattle.rb_wire.proofs.seen.see.Goals as goal

pub returns-then-is_empty : goal.returns-then-is_empty
returns-then-is_empty c = empty_wants _ (eqb-true _ _ (sym c.is_empty.ensures ∙ c.if-is_empty.true))

pub see_part-requires : goal.see_part-requires
see_part-requires c = rw c.in-Ok-Partial.field-0-is at c.in-Ok-Partial.ensures.partial

pub returns-in-Ok-Partial : goal.returns-in-Ok-Partial
returns-in-Ok-Partial c = c.see_part.ensures _

pub returns-in-Err : goal.returns-in-Err
returns-in-Err c =
    let told = sym c.is_empty.ensures ∙ c.if-is_empty.false in
    let some : 0 < length c.args.bytes.now = grind (arith, nat_tests, told) in
    overflow_breaks _ some (rw c.requires at c.in-Err.ensures.no_room)
