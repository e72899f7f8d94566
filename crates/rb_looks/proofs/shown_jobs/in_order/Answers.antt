use Rattle.std.proofs.Common.{◌∙◌, is_lt, rules, subst}
use Rattle.std.proofs.lemmas.Fn.{always_returns_same}
use Rattle.std.proofs.lemmas.List.Sorted.{ranks_by}
use Rattle.std.specs.List.Sorted.{IsStableBy}
use Rattle.rb_log.specs.Looks.{view_cmp}
use Rattle.rb_looks.proofs.Putting.{view_total, views_sorted}
use Rattle.rb_looks.proofs.shown_jobs.in_order.Goals as goal

pub returns : goal.returns
returns c = λ jobs are.
    let ranks = ranks_by view_total (λ v. v) in
    let answers = always_returns_same _ _ _ (λ a r f k. search rules) in
    let sorted = c.sort_by.new.self.items in
    c.of.ensures
    ∙ views_sorted jobs sorted
    (c.in_ok-sort_by.ensures.sorted (λ v w. is_lt (view_cmp v w)) ranks answers)
    (subst (λ views. IsStableBy (λ v w. is_lt (view_cmp v w)) views sorted) are
    (c.sort_by.ensures.stable (λ v w. is_lt (view_cmp v w)) ranks answers))
