use Rattle.std.proofs.Common.{List, ℕ, [], ◌∷◌, subst}
use Rattle.std.proofs.lemmas.Result.{err_from_is_err_and}
use Rattle.rb_canon.specs.Layout.{key_shown}
use Rattle.rb_canon.specs.Views.{key_view}
use Rattle.rb_canon.specs.Puts.{key_piece}
use Rattle.rb_canon.proofs.SoFar.{SoFar, so_far_none, so_far_more, so_far_stop, so_far_last}
use Rattle.rb_canon.proofs.Pieces.{key_is}
use Rattle.rb_canon.proofs.print.put_key.Goals as goal

pub returns-in_err-put_shown : goal.returns-in_err-put_shown
returns-in_err-put_shown c =
    let whole = key_piece (key_view c.args.key.now) in
    let before = c.args.out.now.items in
    let start = subst (λ (r : List ℕ). SoFar whole r before before) (key_is (key_view c.args.key.now)) (so_far_none whole before) in
    let p = err_from_is_err_and c.from_residual.result c.from_residual.ensures.1 in
    rw (p.1, p.2) (so_far_stop whole (key_shown (key_view c.args.key.now)) (58 ∷ []) before before c.put_shown.new.out.items c.in_err-put_shown.field-0.0 start c.in_err-put_shown.ensures)

pub returns : goal.returns
returns c =
    let whole = key_piece (key_view c.args.key.now) in
    let before = c.args.out.now.items in
    let start = subst (λ (r : List ℕ). SoFar whole r before before) (key_is (key_view c.args.key.now)) (so_far_none whole before) in
    so_far_last whole (58 ∷ []) before c.put_shown.new.out.items c.put.new.out.items c.put.result
    (so_far_more whole (key_shown (key_view c.args.key.now)) (58 ∷ []) before before c.put_shown.new.out.items c.in_ok-put_shown.field-0 start c.in_ok-put_shown.ensures) c.put.ensures
