use Rattle.std.proofs.Common.{ap, sym, pos, option_map, Some, w64, ◌∙◌, subst, FitsSigned, arith}
use Rattle.std.proofs.lemmas.Int.{to_z_pos}
use Rattle.std.proofs.Math.Facts.{sfits_to_z}
use Rattle.rb_command.proofs.Decimals.{decimal_is_small}
use Rattle.rb_command.proofs.next_words.instant_in.Goals as goal

pub overflow_cast-result : goal.overflow_cast-result
overflow_cast-result c =
    let small = decimal_is_small c.args.word.now c.in-Some.number (sym c.decimal.ensures ∙ c.in-Some.is) in
    subst (FitsSigned w64) (to_z_pos w64 c.in-Some.number small) (sfits_to_z (omega (arith, small)))

pub returns-in-Some : goal.returns-in-Some
returns-in-Some c =
    let small = decimal_is_small c.args.word.now c.in-Some.number (sym c.decimal.ensures ∙ c.in-Some.is) in
    ap Some (to_z_pos w64 c.in-Some.number small) ∙ ap (option_map pos) (sym c.in-Some.is ∙ c.decimal.ensures)
