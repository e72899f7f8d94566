use Rattle.std.proofs.Common.{List, ℕ, [], ◌∷◌, subst}
use Rattle.std.proofs.lemmas.Result.{err_from_is_err_and}
use Rattle.rb_canon.specs.Layout.{in_quotes}
use Rattle.rb_canon.specs.Puts.{text_piece}
use Rattle.rb_canon.proofs.SoFar.{SoFar, so_far_none, so_far_more, so_far_stop, so_far_last}
use Rattle.rb_canon.proofs.Pieces.{text_is}
use Rattle.rb_canon.proofs.print.put_text.Goals as goal

pub returns-in_err-put_quoted : goal.returns-in_err-put_quoted
returns-in_err-put_quoted c =
    let whole = text_piece c.args.text.now in
    let before = c.args.out.now.items in
    let start = subst (λ (r : List ℕ). SoFar whole r before before) (text_is c.args.text.now) (so_far_none whole before) in
    let p = err_from_is_err_and c.from_residual.result c.from_residual.ensures.1 in
    rw (p.1, p.2) (so_far_stop whole (in_quotes c.args.text.now) (10 ∷ []) before before c.put_quoted.new.out.items c.in_err-put_quoted.field-0.0 start c.in_err-put_quoted.ensures)

pub returns : goal.returns
returns c =
    let whole = text_piece c.args.text.now in
    let before = c.args.out.now.items in
    let start = subst (λ (r : List ℕ). SoFar whole r before before) (text_is c.args.text.now) (so_far_none whole before) in
    so_far_last whole (10 ∷ []) before c.put_quoted.new.out.items c.put.new.out.items c.put.result
    (so_far_more whole (in_quotes c.args.text.now) (10 ∷ []) before before c.put_quoted.new.out.items c.in_ok-put_quoted.field-0 start c.in_ok-put_quoted.ensures) c.put.ensures
