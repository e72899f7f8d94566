use Rattle.std.proofs.Common.{◌≡◌, ◌∙◌, ◌<◌, ℕ, List, map, length, w64, to_z, of_z, ap, arith}
use Rattle.std.proofs.Math.Facts.{to_z-of_z}
use Rattle.rb_plan.specs.declared.world.HeldJob.{HeldJob}
use Rattle.rb_changes.specs.Firing.{fired}
use Rattle.rb_changes.proofs.DueSteps.{at_index, step_at}
use Rattle.rb_changes.proofs.Stepping.{all_done, up_to, up_to_many}
use Rattle.rb_changes.proofs.firing.fire_each.Goals as goal

pub loop-place-preserved : goal.loop-place-preserved
loop-place-preserved c =
    let f = fired c.args.id.now (to_z w64 (of_z w64 c.args.at)) in
    let xs : List HeldJob = c.args.jobs.now.items in
    let ys : List HeldJob = c.loop-place.jobs.items in
    let k : ℕ = c.loop-place.place in
    let many = ap length c.loop-place.invariant.1 ∙ up_to_many f k xs in
    let low : k < length ys =
    omega (
      arith,
      many,
      c.loop-place-test.true,
      c.len-place-end.ensures,
      c.args.jobs.now.ok.0,
    ) in
    let there = at_index ys k low in (
      omega (arith, c.loop-place-test.true),
      step_at f xs ys k there.0 c.fire_at.new.jobs.items c.loop-place.invariant.1 there.1
          (c.fire_at.ensures.jobs there.0 there.1),
      c.fire_at.ensures.due,
    )

pub fire_at-requires : goal.fire_at-requires
fire_at-requires c = record {
  place = omega (
    arith,
    ap length c.loop-place.invariant.1
        ∙ up_to_many (fired c.args.id.now (to_z w64 (of_z w64 c.args.at))) c.loop-place.place
        c.args.jobs.now.items,
    c.loop-place-test.true,
    c.len-place-end.ensures,
    c.args.jobs.now.ok.0,
    c.loop-place.jobs.ok.0,
  );
  due = c.loop-place.invariant.2;
}

pub returns : goal.returns
returns c =
    let at = to_z w64 (of_z w64 c.args.at) in
    let xs : List HeldJob = c.args.jobs.now.items in
    let end : c.loop-place.place ≡ length xs =
    omega (
      arith,
      c.loop-place-test.false,
      c.loop-place.invariant.0,
      c.len-place-end.ensures,
      c.args.jobs.now.ok.0,
    ) in record {
      jobs = c.loop-place.invariant.1
          ∙ ap (λ n. up_to (fired c.args.id.now at) n xs) end
          ∙ all_done (fired c.args.id.now at) xs
          ∙ ap (λ z. map (fired c.args.id.now z) xs) (to_z-of_z c.ranges.at);
      due = c.loop-place.invariant.2;
    }
