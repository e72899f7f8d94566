use Rattle.std.proofs.Common.{Some, None, ap, sym, ◌∙◌, w64, to_z, of_z}
use Rattle.std.proofs.lemmas.Int.{to_z-of_z}
use Rattle.rb_cron.specs.Next.{next_due}
use Rattle.rb_tools.proofs.Upcoming.{next_is, instant_fits}
use Rattle.rb_tools.proofs.instants.next_due.Goals as goal

pub returns-in-Some : goal.returns-in-Some
returns-in-Some c =
    let source = c.args.schedule.now in
    let instant = c.in-Some.instant in
    let found = sym (ap (next_due source) (to_z-of_z w64 c.args.after c.ranges.after)) ∙ next_is c.next_is_one.ensures source (to_z w64 (of_z w64 c.args.after)) (Some instant) (rw c.in-Some.is at c.in_ok-instant.ensures.due)
    (rw c.in-Some.is at c.in_ok-instant.ensures.least) (rw c.in-Some.is at c.in_ok-instant.ensures.none) in
    ap Some (to_z-of_z w64 instant (instant_fits c.next_is_least.ensures source c.args.after instant c.ranges.after found)) ∙ sym found

pub returns-in-None : goal.returns-in-None
returns-in-None c =
    sym (next_is c.next_is_one.ensures c.args.schedule.now (to_z w64 (of_z w64 c.args.after)) None (rw c.in-None.is at c.in_ok-instant.ensures.due) (rw c.in-None.is at c.in_ok-instant.ensures.least)
    (rw c.in-None.is at c.in_ok-instant.ensures.none))
    ∙ ap (next_due c.args.schedule.now) (to_z-of_z w64 c.args.after c.ranges.after)
