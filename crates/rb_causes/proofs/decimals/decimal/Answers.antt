use Rattle.std.proofs.Common.{◌∙◌, sym}
use Rattle.rb_causes.proofs.Parsing.{parsed}
use Rattle.rb_causes.proofs.decimals.decimal.Goals as goal

pub returns-then-is_decimal : goal.returns-then-is_decimal
returns-then-is_decimal c = c.ok.ensures.value ∙ parsed c.args.s.now c.parse.result c.parse.ensures.value.0 (sym c.if-is_decimal.ensures)
