use Rattle.std.proofs.Common.{◌≡◌, ◌∙◌, ◌++◌, [], ◌∷◌, length, map, ap, subst, arith}
use Rattle.std.proofs.lemmas.List.{length-append}
use Rattle.rb_board_tests.specs.Kept.{MayPlay, pass_of}
use Rattle.rb_board_tests.proofs.Roles.{all_left, in_reach, more_front, more_play}
use Rattle.rb_board_tests.proofs.casting.cast.Goals as goal

pub push_reserved-requires : goal.push_reserved-requires
push_reserved-requires c =
    let i = c.loop-pass.invariant in
    omega (
      arith,
      all_left c.args.passes.items c.loop-pass.roles.items c.loop-pass.passes.items i.0,
      ap length c.in-Some.ensures.some,
      c.requires.room,
      i.3,
    )

pub overflow_add-place : goal.overflow_add-place
overflow_add-place c =
    let i = c.loop-pass.invariant in
    let front = subst (λ l. map pass_of c.loop-pass.roles.items ++ l ≡ c.args.passes.items)
    c.in-Some.ensures.some i.0 in
    omega (
      arith,
      in_reach c.args.passes.items c.first_pass.new.passes.items c.loop-pass.roles.items
          c.in-Some.pass c.args.doors c.loop-pass.place c.requires.passes front i.1 i.2,
      c.requires.passes.4,
    )

pub loop-pass-preserved : goal.loop-pass-preserved
loop-pass-preserved c =
    let i = c.loop-pass.invariant in
    let front = subst (λ l. map pass_of c.loop-pass.roles.items ++ l ≡ c.args.passes.items)
    c.in-Some.ensures.some i.0 in
    let items = c.push_reserved.ensures.items in (
      ap (λ l. map pass_of l ++ c.first_pass.new.passes.items) items
          ∙ more_front c.args.passes.items c.first_pass.new.passes.items c.loop-pass.roles.items
          c.in-Some.pass c.args.doors c.loop-pass.place c.requires.passes front i.1 i.2,
      ap length items ∙ omega (
        arith,
        length-append c.loop-pass.roles.items (record {
          pass = c.in-Some.pass;
          place = c.loop-pass.place;
          doors = c.args.doors;
        } ∷ []),
        i.1,
      ),
      subst (Rattle.std.proofs.Common.All MayPlay) (Rattle.std.proofs.Common.sym items)
          (more_play c.args.passes.items c.first_pass.new.passes.items c.loop-pass.roles.items
          c.in-Some.pass c.args.doors c.loop-pass.place c.requires.passes front i.1 i.2),
      c.push_reserved.ensures.capacity ∙ i.3,
    )
