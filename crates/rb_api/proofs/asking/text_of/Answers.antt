use Rattle.std.proofs.Common.{◌∙◌, ap, sym, Ok, arith}
use Rattle.rb_api.proofs.Stepping.{text_read, no_text_read}
use Rattle.rb_api.proofs.asking.text_of.Goals as goal

pub returns-in_ok-of-in-Ok : goal.returns-in_ok-of-in-Ok
returns-in_ok-of-in-Ok c =
    text_read _ c.in-Ok.ensures.cases.1
    ∙ ap Ok (sym (c.in_ok-of-in-Ok.ensures ∙ c.in-Ok.ensures.cases.0))

pub returns-in-Err : goal.returns-in-Err
returns-in-Err c = (no_text_read _ c.in-Err.ensures.cases.0, λ same. grind (arith, same))
