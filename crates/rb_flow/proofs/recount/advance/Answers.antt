use Rattle.std.proofs.Common.{sym, ◌∙◌}
use Rattle.rb_flow.proofs.TallyGroups.{leading_goes, leading_stops, leading_ends}
use Rattle.rb_flow.proofs.recount.advance.Goals as goal

pub loop-lead-preserved : goal.loop-lead-preserved
loop-lead-preserved c =
    leading_goes c.args.units.now c.loop-lead.lead _ c.loop-lead.invariant c.loop-lead-test.true
    (sym c.is_passed.ensures ∙ c.if-is_passed.true)

pub returns-else-is_passed : goal.returns-else-is_passed
returns-else-is_passed c =
    leading_stops c.args.units.now c.loop-lead.lead _ c.loop-lead.invariant (sym c.is_passed.ensures ∙ c.if-is_passed.false)

pub returns-after-loop-lead : goal.returns-after-loop-lead
returns-after-loop-lead c =
    leading_ends c.args.units.now c.loop-lead.lead c.loop-lead.invariant c.loop-lead-test.false
