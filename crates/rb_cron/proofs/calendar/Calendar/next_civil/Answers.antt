use Rattle.std.proofs.Common.{◌+◌, ◌*◌, arith}
use Rattle.rb_cron.proofs.Dated.{none_behind}
use Rattle.rb_cron.proofs.Days.{day_found, day_too_late, day_over, none_before_end, passed_on}
use Rattle.rb_cron.proofs.calendar.Calendar.next_civil.Goals as goal

pub returns-then-end-day-clause-none : goal.returns-then-end-day-clause-none
returns-then-end-day-clause-none c =
    none_before_end c.args.self.now c.args.from c.args.end (c.loop-day.day * 86_400 + c.loop-day.start) (omega (arith, c.if-end-day.true)) c.loop-day.invariant.passed

pub returns-then-civil-end-clause-found : goal.returns-then-civil-end-clause-found
returns-then-civil-end-clause-found c =
    let found = c.in-Some.ensures.found in
    day_found c.args.self.now c.args.from c.args.end c.loop-day.day c.loop-day.start c.in-Some.second c.loop-day.invariant.passed c.loop-day.invariant.reached
    found.0 found.1 c.if-civil-end.true

pub returns-else-civil-end-clause-none : goal.returns-else-civil-end-clause-none
returns-else-civil-end-clause-none c =
    let found = c.in-Some.ensures.found in
    day_too_late c.args.self.now c.args.from c.args.end c.loop-day.day c.loop-day.start c.in-Some.second c.loop-day.invariant.passed found.1 c.if-civil-end.false

pub loop-day-preserved : goal.loop-day-preserved
loop-day-preserved c = record {
  passed = day_over c.args.self.now c.args.from c.loop-day.day c.loop-day.start c.loop-day.invariant.passed c.in_default.ensures.none;
  reached = let at = c.loop-day.invariant.reached in let within = c.loop-day.invariant.within in omega (arith, at, within);
  within = omega arith;
}

pub returns-clause-none : goal.returns-clause-none
returns-clause-none c =
    let f = c.args.self.now in
    passed_on f c.args.from (c.loop-day.day * 86_400 + c.loop-day.start) c.args.end c.loop-day.invariant.passed
    (none_behind f (c.loop-day.day * 86_400 + c.loop-day.start) c.args.end (omega (arith, c.loop-day-test.false)))
