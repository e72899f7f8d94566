use Rattle.std.proofs.Common.{◌∙◌, ap, sym, Some}
use Rattle.rb_wire.proofs.FieldValues.{is_text, no_text}
use Rattle.rb_wire.proofs.asking.text_if.Goals as goal

pub returns-in_ok-of-in-Ok : goal.returns-in_ok-of-in-Ok
returns-in_ok-of-in-Ok c =
    ap Some (c.in_ok-of-in-Ok.ensures ∙ c.in-Ok.ensures.cases.0)
    ∙ sym (is_text _ c.in-Ok.ensures.cases.1)

pub returns-in-Err : goal.returns-in-Err
returns-in-Err c = sym (no_text _ c.in-Err.ensures.cases.0)
