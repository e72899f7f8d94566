use Rattle.std.proofs.Common.{◌≡◌, ◌∙◌, List, ℕ, ◌++◌, length, Err, ap, arith}
use Rattle.std.proofs.lemmas.Result.{err_from_is_err_and}
use Rattle.rb_canon.specs.declared.canon_err.CanonErr.TheVariants as variants
use Rattle.rb_canon.specs.Puts.{docs_piece}
use Rattle.rb_canon.specs.Views.{canon_trees}
use Rattle.rb_canon.proofs.Pieces.{docs_are}
use Rattle.rb_canon.proofs.print.print_docs.Goals as goal

pub returns-in_err-put_docs-clause-large : goal.returns-in_err-put_docs-clause-large
returns-in_err-put_docs-clause-large c =
    let p = err_from_is_err_and c.from_residual.result c.from_residual.ensures.1 in
    λ e.
    let which : c.in_err-put_docs.field-0.0 ≡ variants.TooLarge = cc in
    let over = c.in_err-put_docs.ensures.large (ap Err which) in
    let start = ap length c.new-out.ensures.items in
    omega (arith, over, start, ap length (docs_are (canon_trees c.args.docs.now)))

pub returns-clause-text : goal.returns-clause-text
returns-clause-text c =
    let trees = canon_trees c.args.docs.now in
    c.in_ok-put_docs.ensures.ok
    ∙ ap (λ (xs : List ℕ). xs ++ docs_piece trees) c.new-out.ensures.items
    ∙ docs_are trees
