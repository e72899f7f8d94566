use Rattle.std.proofs.Common.{false, length, map, drop, sym, ap, ◌∙◌, arith}
use Rattle.std.proofs.lemmas.List.{length-map, drop-map}
use Rattle.rb_marks.specs.Results.{steps_result}
use Rattle.rb_marks.specs.View.{branches_of, step_tree}
use Rattle.rb_marks.specs.Units.{outline, unit_steps}
use Rattle.rb_flow.specs.Leaves.{result_in}
use Rattle.rb_flow.proofs.Passing.{passed_within, result_from}
use Rattle.rb_flow.proofs.working.result_of.Goals as goal

pub steps_from-requires : goal.steps_from-requires
steps_from-requires c =
    let p = outline c.args.plan.now in
    let steps = unit_steps p c.args.unit in
    let within = passed_within (result_in c.args.row.now) p.keepgoing false c.args.cursor.bad steps
    c.args.cursor.at c.requires in
    let len = ap length c.unit_steps-steps.ensures in
    let same = length-map c.unit_steps-steps.result.now step_tree in
    omega (arith, within, len, same)

pub returns : goal.returns
returns c =
    let p = outline c.args.plan.now in
    let f = result_in c.args.row.now in
    c.steps_result.ensures
    ∙ ap (λ s. steps_result f p.keepgoing c.args.cursor.bad (branches_of (map step_tree s)))
    c.steps_from.ensures
    ∙ ap (λ s. steps_result f p.keepgoing c.args.cursor.bad (branches_of s))
    (sym (drop-map step_tree c.args.cursor.at c.unit_steps-steps.result.now))
    ∙ ap (λ s. steps_result f p.keepgoing c.args.cursor.bad (branches_of (drop c.args.cursor.at s)))
    c.unit_steps-steps.ensures
    ∙ sym (result_from f p.keepgoing false c.args.cursor.bad (unit_steps p c.args.unit)
    c.args.cursor.at c.requires)
