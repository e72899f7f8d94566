use Rattle.std.proofs.Common.{ap, sym, ◌∙◌, w64, arith}
use Rattle.std.proofs.lemmas.Int.{to_z-of_z}
use Rattle.rb_cron.specs.Next.{next_due}
use Rattle.rb_tools.specs.Instants.{instant_line}
use Rattle.rb_tools.proofs.Upcoming.{instant_fits, lines_more}
use Rattle.rb_tools.proofs.instants.+push_upcoming.Goals as goal

pub returns-in_ok-push_str-in-Some : goal.returns-in_ok-push_str-in-Some
returns-in_ok-push_str-in-Some t c =
    let source = c.args.schedule.now in
    let instant = c.in-Some.instant in
    let found = ap (next_due source) (sym (to_z-of_z w64 c.args.after c.ranges.after)) ∙ sym c.in_ok-instant.ensures ∙ c.in-Some.is in
    let same = to_z-of_z w64 instant (instant_fits c.next_is_least.ensures source c.args.after instant c.ranges.after found) in
    lines_more source c.args.count c.args.after instant _ _ _ _ c.push_upcoming.result (omega (arith, c.if-count-eq0.false)) found (c.in_ok-instant_line-in-Some.ensures ∙ ap instant_line same)
    (rw c.as_str.ensures.value at c.in_ok-push_str-in-Some.ensures.bytes) (rw same at c.push_upcoming.ensures)
