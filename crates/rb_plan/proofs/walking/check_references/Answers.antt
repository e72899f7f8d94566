use Rattle.std.proofs.Common.{◌∙◌}
use Rattle.std.proofs.lemmas.Result.{err_from_is_err_and}
use Rattle.rb_plan.proofs.Walks.{references_hold, references_refuse}
use Rattle.rb_plan.proofs.walking.check_references.Goals as goal

pub returns-in_err-walk_steps : goal.returns-in_err-walk_steps
returns-in_err-walk_steps c =
    let p = err_from_is_err_and c.from_residual.result c.from_residual.ensures.1 in
    rw (p.1, p.2) (references_refuse c.args.project.now c.args.held.now c.as_slice.result.now c.as_slice-steps.result.now c.in_err-walk_steps.field-0.0
    (c.as_slice.ensures ∙ c.new-here.ensures) c.as_slice-steps.ensures c.in_err-walk_steps.ensures)

pub returns : goal.returns
returns c =
    references_hold c.args.project.now c.args.held.now c.in_ok-walk_steps.field-0
    (rw (c.as_slice.ensures, c.new-here.ensures, c.as_slice-steps.ensures) at c.in_ok-walk_steps.ensures)
