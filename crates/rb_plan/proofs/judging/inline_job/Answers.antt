use Rattle.std.proofs.Common.{map, ◌∙◌}
use Rattle.std.proofs.lemmas.Result.{err_from_is_err_and}
use Rattle.rb_marks.specs.View.{step_tree}
use Rattle.rb_plan.proofs.Going.{asked_commands, asked_few, asked_none, asked_numbered, asked_refused}
use Rattle.rb_plan.proofs.judging.inline_job.Goals as goal

pub inline_steps-requires : goal.inline_steps-requires
inline_steps-requires c =
    asked_few c.args.project.now c.args.held.now c.as_slice-here.result.now c.as_slice-asked.result.now c.new-commands.result.items
    c.new-commands.ensures.items (c.as_slice-here.ensures ∙ c.new-here.ensures) c.as_slice-asked.ensures c.requires

pub returns-in_err-steps-clause-refused : goal.returns-in_err-steps-clause-refused
returns-in_err-steps-clause-refused c =
    let p = err_from_is_err_and c.from_residual.result c.from_residual.ensures.1 in
    rw (p.1, p.2) (asked_refused c.args.project.now c.args.held.now c.as_slice-here.result.now c.as_slice-asked.result.now c.args.site.now c.in_err-steps.field-0.0
    (c.as_slice-here.ensures ∙ c.new-here.ensures) c.as_slice-asked.ensures c.in_err-steps.ensures.refused)

pub returns-clause-refused : goal.returns-clause-refused
returns-clause-refused c =
    asked_none c.args.project.now c.args.held.now c.as_slice-here.result.now c.as_slice-asked.result.now c.args.site.now
    (c.as_slice-here.ensures ∙ c.new-here.ensures) c.as_slice-asked.ensures c.in_ok-steps.ensures.refused

pub returns-clause-inlined : goal.returns-clause-inlined
returns-clause-inlined c = record {
  steps = asked_numbered c.args.project.now c.args.held.now c.as_slice-here.result.now c.as_slice-asked.result.now c.new-commands.result.items (map step_tree c.in_ok-steps.steps.items)
      c.new-commands.ensures.items (c.as_slice-here.ensures ∙ c.new-here.ensures) c.as_slice-asked.ensures c.in_ok-steps.ensures.steps;
  commands = asked_commands c.args.project.now c.args.held.now c.as_slice-here.result.now c.as_slice-asked.result.now c.args.site.now c.new-commands.result.items c.inline_steps.new.commands.items
      c.new-commands.ensures.items (c.as_slice-here.ensures ∙ c.new-here.ensures) c.as_slice-asked.ensures c.in_ok-steps.ensures.put;
}
