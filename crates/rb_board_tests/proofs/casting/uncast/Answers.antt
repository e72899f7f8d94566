use Rattle.std.proofs.Common.{◌≡◌, ◌∙◌, ◌+◌, ◌++◌, ◌∷◌, [], length, map, ap, sym, arith}
use Rattle.std.proofs.lemmas.List.{append-nil, length-append}
use Rattle.rb_board_tests.specs.Kept.{pass_of}
use Rattle.rb_board_tests.proofs.Roles.{one_back}
use Rattle.rb_board_tests.proofs.casting.uncast.Goals as goal

pub loop-role-preserved : goal.loop-role-preserved
loop-role-preserved c =
    let i = c.loop-role.invariant in
    let popped =
    c.in-Some.ensures.some
    ∙ ap (λ role. role ∷ c.first_role.new.roles.items) (sym c.role.view_is) in (
      ap (λ l. l ++ map pass_of c.first_role.new.roles.items) c.push_reserved.ensures.items
          ∙ one_back c.loop-role.back.items c.role.inside.pass c.role.inside.place
          c.role.inside.doors c.loop-role.roles.items c.first_role.new.roles.items
          (map pass_of c.args.roles.now.items) popped i.0,
      omega (
        arith,
        ap length c.push_reserved.ensures.items,
        length-append c.loop-role.back.items (c.role.inside.pass ∷ []),
        ap length popped,
        i.1,
        c.push_reserved.ensures.capacity,
      ),
      omega (
        arith,
        ap length c.push_reserved-in-Some.ensures.items,
        length-append c.loop-role.diaries.items (c.role.inside.diary ∷ []),
        ap length popped,
        i.2,
        c.push_reserved-in-Some.ensures.capacity,
      ),
    )
