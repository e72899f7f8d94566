use Rattle.std.proofs.Common.{ap, sym, ◌∙◌, arith, ℕ, cond, ◌+◌}
use Rattle.std.proofs.lemmas.List.{get_or_default}
use Rattle.rb_flow.specs.Tally.{is_in_work}
use Rattle.rb_flow.proofs.TallyWorks.{work_before, work_counted, work_bounded, works_now}
use Rattle.rb_flow.proofs.recount.put_work.Goals as goal

pub recount-now-requires-clause-counted : goal.recount-now-requires-clause-counted
recount-now-requires-clause-counted c =
    let was = c.index-before.ensures
    ∙ work_before c.args.states.now c.args.place c.args.old c.args.works.now.items _
    c.requires.node c.requires.works in
    let in_it = work_counted c.args.states.now c.args.place c.args.old _ c.requires.place was in
    omega (arith, in_it, ap {B = ℕ} (λ b. cond b 1 0) c.is_in_work.ensures)

pub recount-now-requires-clause-fits : goal.recount-now-requires-clause-fits
recount-now-requires-clause-fits c =
    let was = c.index-before.ensures
    ∙ work_before c.args.states.now c.args.place c.args.old c.args.works.now.items _
    c.requires.node c.requires.works in
    omega (arith, work_bounded c.args.states.now c.args.place c.args.old _ was)

pub returns-clause-works : goal.returns-clause-works
returns-clause-works c =
    let was = c.index-before.ensures
    ∙ work_before c.args.states.now c.args.place c.args.old c.args.works.now.items _
    c.requires.node c.requires.works in
    works_now c.args.states.now c.args.place c.args.old c.args.works.now.items
    c.index-before.result.now c.recount-now.result c.requires.place c.requires.unit
    c.requires.node c.requires.works was
    (ap {B = ℕ} (λ b. c.recount-now.result + cond b 1 0) (sym c.is_in_work.ensures)
    ∙ c.recount-now.ensures
    ∙ ap {B = ℕ} (λ b. c.index-before.result.now + cond b 1 0)
    (c.is_in_work-2.ensures
    ∙ ap is_in_work (get_or_default c.args.states.now c.args.place _ c.args.old c.requires.place)))
