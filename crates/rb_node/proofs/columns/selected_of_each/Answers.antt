use Rattle.std.proofs.Common.{◌≡◌, ◌∙◌, ◌||◌, true, ap, sym, subst, refl, IfOk}
use Rattle.rb_node.specs.Selection.{includes, no_clause, heeds_excludes}
use Rattle.rb_node.proofs.Marking.{selected_heeding}
use Rattle.rb_node.proofs.columns.selected_of_each.Goals as goal
use Rattle.rb_node.proofs.columns.selected_of_each.Goals.{then-exclude_first-via-then-exclude_first, then-exclude_first-via-else-exclude_first+then-has_no_include}

pub returns-then-exclude_first : goal.returns-then-exclude_first
returns-then-exclude_first c =
    let clauses = c.args.clauses.now in
    let heeds : heeds_excludes clauses c.args.exclude_first ≡ true =
    elim c.then-exclude_first.branch [
      | then-exclude_first-via-then-exclude_first w ↦
          ap (λ b. b || no_clause (includes clauses)) w.if-exclude_first.true
      | then-exclude_first-via-else-exclude_first+then-has_no_include w ↦
          ap (λ b. b || no_clause (includes clauses)) w.if-exclude_first.false
          ∙ sym w.has_no_include.ensures ∙ w.if-has_no_include.true
    ] in
    subst (λ told. IfOk c.first_true_alone.result (λ marks. marks.items ≡ told))
    (selected_heeding clauses c.args.exclude_first c.args.nodes.now
    c.in_ok-included.included.items c.in_ok-excluded.excluded.items _ heeds
    c.in_ok-included.ensures c.in_ok-excluded.ensures refl)
    (rw (c.as_slice.ensures.value, c.as_slice-then-exclude_first.ensures.value)
    at c.first_true_alone.ensures)
