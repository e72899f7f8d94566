use Rattle.std.proofs.Common.{◌≡◌, ◌∙◌, ◌<◌, ℕ, List, map, length, w64, to_z, of_z, ap, sym, arith}
use Rattle.std.proofs.Math.Facts.{to_z-of_z}
use Rattle.std.specs.Vec.{with_item}
use Rattle.rb_plan.specs.declared.world.Project.{Project}
use Rattle.rb_tables.specs.Due.{project_nexts}
use Rattle.rb_tables.specs.declared.tables.Tables.{Tables}
use Rattle.rb_changes.specs.Firing.{fired_in}
use Rattle.rb_changes.proofs.DueSteps.{due_at, dues_follow}
use Rattle.rb_changes.proofs.Stepping.{all_done, step_on, up_to, up_to_many}
use Rattle.rb_changes.proofs.firing.put_fire.Goals as goal
use Rattle.rb_changes.proofs.firing.put_fire.Goals.{In-loop-place}

pub loop-place-init : goal.loop-place-init
loop-place-init c =
    let moved = c.into_vec-projects.ensures ∙ c.replace.ensures.value in (
      omega arith,
      moved,
      c.requires ∙ ap (map project_nexts) (sym moved),
      ap (λ ps. record c.args.tables.now {
        world = record c.args.tables.now.world { projects = ps };
      }) (c.replace.ensures.after ∙ c.new.ensures),
    )

-- there is one at the place
low_at : (c : In-loop-place) → c.loop-place.place < length c.loop-place.projects.items
low_at c =
    omega (
      arith,
      ap length c.loop-place.invariant.1
          ∙ up_to_many (fired_in c.args.id.now (to_z w64 (of_z w64 c.args.at)))
          c.loop-place.place c.args.tables.now.world.projects,
      ap length (c.into_vec-projects.ensures ∙ c.replace.ensures.value),
      c.loop-place-test.true,
      c.len-place-end.ensures,
      c.into_vec-projects.result.ok.0,
    )

pub fire_in-requires : goal.fire_in-requires
fire_in-requires c =
    due_at c.loop-place.tables.due c.loop-place.projects.items c.loop-place.place
    c.index_mut-in-loop-place.result.now c.index_mut.result.now c.loop-place.invariant.2
    (low_at (goal.at.fire_in-requires c).In-loop-place) c.index_mut-in-loop-place.ensures.value
    c.index_mut.ensures.value

pub loop-place-preserved : goal.loop-place-preserved
loop-place-preserved c =
    let k : ℕ = c.loop-place.place in (
      omega (arith, c.loop-place-test.true),
      step_on (fired_in c.args.id.now (to_z w64 (of_z w64 c.args.at)))
          c.args.tables.now.world.projects c.loop-place.projects.items k c.index_mut.result.now
          c.fire_in.new.project c.loop-place.invariant.1
          (low_at (goal.at.loop-place-preserved c).In-loop-place) c.index_mut.ensures.value
          c.fire_in.ensures.project,
      dues_follow c.loop-place.tables.due c.loop-place.projects.items k c.fire_in.new.due
          c.fire_in.new.project c.loop-place.invariant.2 c.fire_in.ensures.due,
      ap (λ (t : Tables). record t {
        due = with_item c.loop-place.tables.due k c.fire_in.new.due;
      }) c.loop-place.invariant.3,
    )

pub returns : goal.returns
returns c =
    let old : Tables = c.args.tables.now in
    let at = to_z w64 (of_z w64 c.args.at) in
    let xs : List Project = old.world.projects in
    let end : c.loop-place.place ≡ length xs =
    omega (
      arith,
      c.loop-place-test.false,
      c.loop-place.invariant.0,
      c.len-place-end.ensures,
      ap length (c.into_vec-projects.ensures ∙ c.replace.ensures.value),
      c.into_vec-projects.result.ok.0,
    ) in
    let done : c.of.result ≡ map (fired_in c.args.id.now c.args.at) xs =
    c.of.ensures ∙ c.loop-place.invariant.1
    ∙ ap (λ n. up_to (fired_in c.args.id.now at) n xs) end
    ∙ all_done (fired_in c.args.id.now at) xs
    ∙ ap (λ z. map (fired_in c.args.id.now z) xs) (to_z-of_z c.ranges.at) in record {
      rest = ap (λ (t : Tables). record t { world = record t.world { projects = c.of.result } })
          c.loop-place.invariant.3
          ∙ ap (λ ps. record old {
            due = c.loop-place.tables.due;
            world = record old.world { projects = ps };
          }) done;
      due = c.loop-place.invariant.2 ∙ ap (map project_nexts) (sym c.of.ensures);
    }
