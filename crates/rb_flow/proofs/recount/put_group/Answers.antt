use Rattle.std.proofs.Common.{ap, arith}
use Rattle.rb_flow.proofs.TallyGroups.{leading_more}
use Rattle.rb_flow.proofs.recount.put_group.Goals as goal

pub advance-requires : goal.advance-requires
advance-requires c =
    let h = c.requires in
    omega (
      arith,
      ap (λ g. g.lead) h.group,
      leading_more c.args.units.now c.args.place c.args.old c.args.old h.place h.passed,
    )
