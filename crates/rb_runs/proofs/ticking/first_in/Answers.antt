use Rattle.std.proofs.Common.{◌≡◌, ◌-◌, ◌<◌, suc, ℤ, [], length, true, false, None, int_le, to_z, of_z, w64, refl, rules, sym, subst, arith, Option, SFits}
use Rattle.std.proofs.lemmas.Int.{ints}
use Rattle.std.proofs.Math.Facts.{to_z-of_z}
use Rattle.rb_log.specs.Ticks.{DueJob as LoggedDue, first_by_id, lesser_id}
use Rattle.rb_runs.specs.Ticking.{IsDueJob, MayBeDueJob}
use Rattle.rb_runs.proofs.DueJobs.{IsDueHere, due_here, goes_by, goes_later, none_behind, placed, taken_is, taken_there}
use Rattle.rb_runs.proofs.ticking.first_in.Goals as goal
use Rattle.rb_runs.proofs.ticking.first_in.Goals.{After-as_slice-due}

here : (c : After-as_slice-due)
    → IsDueHere c.args.tables.now c.args.project c.as_slice-due.result.now
here c =
    due_here c.args.tables.now c.args.project c.requires.of c.index.result.now c.index.ensures
    c.as_slice-due.result.now c.as_slice-due.ensures.value

pub loop-job-init : goal.loop-job-init
loop-job-init c =
    record {
      within = omega arith;
      there = c.requires.behind;
      is = λ rest h. subst
          (λ ds. MayBeDueJob c.args.tables.now.world.projects c.args.behind (first_by_id ds))
          (sym (none_behind c.args.tables.now c.args.project c.as_slice-due.result.now
          (here (goal.at.loop-job-init c).After-as_slice-due) _ rest
          (length c.as_slice-due.result.now) refl)) h;
    }

pub lesser_id-requires-clause-first : goal.lesser_id-requires-clause-first
lesser_id-requires-clause-first c =
    let low : c.loop-job.job - 1 < length c.as_slice-due.result.now = omega arith in
    placed c.args.tables.now c.args.project c.as_slice-due.result.now
    (here (goal.at.lesser_id-requires-clause-first c).After-as_slice-due) (c.loop-job.job - 1) low

pub loop-job-preserved-then-instant-now : goal.loop-job-preserved-then-instant-now
loop-job-preserved-then-instant-now c =
    let h = here (goal.at.loop-job-preserved-then-instant-now c).After-as_slice-due in
    let t = c.args.tables.now in
    let due = c.as_slice-due.result.now in
    let now : ℤ = to_z w64 (of_z w64 c.args.now) in
    let job = c.loop-job.job in
    let low : job - 1 < length due = omega arith in
    let is : job ≡ suc (job - 1) = omega arith in
    let test = c.if-instant-now.true in
    let fits = c.ranges.now in
    let come : int_le c.in-Some.instant now ≡ true = grind (arith, ints, test, fits) in
    let small : SFits w64 c.in-Some.instant = search rules in
    let tells = subst (λ i. (x : LoggedDue) (y : Option LoggedDue)
    → IsDueJob t.world.projects (record {
      place = record { project = c.args.project; job = job - 1 };
      instant = i;
    }) x → MayBeDueJob t.world.projects c.loop-job.first y
    → IsDueJob t.world.projects c.lesser_id.result (lesser_id x y)) (to_z-of_z small)
    c.lesser_id.ensures in
    record {
      within = omega arith;
      there = taken_there t c.args.project due h now [] (job - 1) job is low None
          c.in-Some.instant c.loop-job.first c.lesser_id.result c.loop-job.invariant.there
          tells;
      is = λ rest behind. taken_is t c.args.project due h now rest (job - 1) job is low _
          c.in-Some.instant c.loop-job.first c.lesser_id.result c.loop-job.invariant.there
          tells c.in-Some.is come (c.loop-job.invariant.is rest behind);
    }

pub loop-job-preserved-else-instant-now : goal.loop-job-preserved-else-instant-now
loop-job-preserved-else-instant-now c =
    let h = here (goal.at.loop-job-preserved-else-instant-now c).After-as_slice-due in
    let t = c.args.tables.now in
    let due = c.as_slice-due.result.now in
    let now : ℤ = to_z w64 (of_z w64 c.args.now) in
    let job = c.loop-job.job in
    let low : job - 1 < length due = omega arith in
    let is : job ≡ suc (job - 1) = omega arith in
    let test = c.if-instant-now.false in
    let fits = c.ranges.now in
    let late : int_le c.in-Some.instant now ≡ false = grind (arith, ints, test, fits) in
    record {
      within = omega arith;
      there = c.loop-job.invariant.there;
      is = λ rest behind. subst
          (λ ds. MayBeDueJob t.world.projects c.loop-job.first (first_by_id ds))
          (goes_later t c.args.project due h now rest (job - 1) job is low _ c.in-Some.instant
          c.in-Some.is late)
          (c.loop-job.invariant.is rest behind);
    }

pub loop-job-preserved : goal.loop-job-preserved
loop-job-preserved c =
    let h = here (goal.at.loop-job-preserved c).After-as_slice-due in
    let t = c.args.tables.now in
    let due = c.as_slice-due.result.now in
    let now : ℤ = to_z w64 (of_z w64 c.args.now) in
    let job = c.loop-job.job in
    let low : job - 1 < length due = omega arith in
    let is : job ≡ suc (job - 1) = omega arith in
    record {
      within = omega arith;
      there = c.loop-job.invariant.there;
      is = λ rest behind. subst
          (λ ds. MayBeDueJob t.world.projects c.loop-job.first (first_by_id ds))
          (goes_by t c.args.project due h now rest (job - 1) job is low _ c.in_default.is)
          (c.loop-job.invariant.is rest behind);
    }
