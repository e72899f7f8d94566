use Rattle.std.proofs.Common.{◌∙◌, ◌≤◌, ◌+◌, ◌∷◌, [], Some, ap, arith, length, map, subst, sym}
use Rattle.rb_serve.specs.Roles.{line_in, lines_of, passes_of, spawner_in, spawners_of}
use Rattle.rb_serve.proofs.Roles.{back_one, line_then, one_longer, room_before, room_behind, spawner_then, whole_first, whole_rest}
use Rattle.rb_serve.proofs.casting.dismiss.Goals as goal

pub take_off-requires-clause-whole : goal.take_off-requires-clause-whole
take_off-requires-clause-whole g c =
    whole_first c.loop-roles.roles.items c.first-role.result c.first-role.new.items.items
    c.first-role.ensures.items c.loop-roles.invariant.whole

pub take_off-requires-clause-passes : goal.take_off-requires-clause-passes
take_off-requires-clause-passes g c =
    omega (
      arith,
      c.loop-roles.invariant.pass_room,
      ap (λ l. length (passes_of l)) c.first-role.ensures.items,
    )

pub take_off-requires-clause-lines : goal.take_off-requires-clause-lines
take_off-requires-clause-lines g c =
    room_before c.loop-roles.lines.items (line_in c.first-role.result.post [])
    (lines_of c.first-role.new.items.items) (lines_of c.loop-roles.roles.items) _
    (sym (line_then c.first-role.result.post [] (lines_of c.first-role.new.items.items))
    ∙ sym (ap lines_of c.first-role.ensures.items)) c.loop-roles.invariant.line_room

pub take_off-requires-clause-spawners : goal.take_off-requires-clause-spawners
take_off-requires-clause-spawners g c =
    room_before c.loop-roles.spawners.items (spawner_in c.first-role.result.post [])
    (spawners_of c.first-role.new.items.items) (spawners_of c.loop-roles.roles.items) _
    (sym (spawner_then c.first-role.result.post [] (spawners_of c.first-role.new.items.items))
    ∙ sym (ap spawners_of c.first-role.ensures.items)) c.loop-roles.invariant.spawner_room

pub loop-roles-preserved : goal.loop-roles-preserved
loop-roles-preserved g c =
    let i = c.loop-roles.invariant in
    let popped = c.first-role.ensures.items in
    let post = c.first-role.result.post in
    let rest = c.first-role.new.items.items in
    let passes = sym (ap passes_of popped) in
    let lines = sym (line_then post [] (lines_of rest)) ∙ sym (ap lines_of popped) in
    let spawners = sym (spawner_then post [] (spawners_of rest)) ∙ sym (ap spawners_of popped) in
    record {
      passes = back_one (map Some c.loop-roles.passes.items) (c.first-role.result.pass ∷ [])
          (passes_of rest) (passes_of c.loop-roles.roles.items) _ _ c.take_off.ensures.passes passes
          i.passes;
      lines = back_one c.loop-roles.lines.items (line_in post []) (lines_of rest)
          (lines_of c.loop-roles.roles.items) _ _ c.take_off.ensures.lines lines i.lines;
      spawners = back_one c.loop-roles.spawners.items (spawner_in post []) (spawners_of rest)
          (spawners_of c.loop-roles.roles.items) _ _ c.take_off.ensures.spawners spawners
          i.spawners;
      whole = whole_rest c.loop-roles.roles.items c.first-role.result rest popped i.whole;
      pass_room = omega (
        arith,
        i.pass_room,
        ap (λ l. length (passes_of l)) popped,
        one_longer c.loop-roles.passes.items c.take_off.new.passes.items c.first-role.result.pass
            c.take_off.ensures.passes,
        c.take_off.ensures.pass_room,
      );
      line_room = subst (λ room. length c.take_off.new.lines.items + length (lines_of rest) ≤ room)
          (sym c.take_off.ensures.line_room)
          (room_behind c.loop-roles.lines.items (line_in post []) (lines_of rest)
          (lines_of c.loop-roles.roles.items) _ _ c.take_off.ensures.lines lines i.line_room);
      spawner_room = subst (λ room.
          length c.take_off.new.spawners.items + length (spawners_of rest) ≤ room)
          (sym c.take_off.ensures.spawner_room)
          (room_behind c.loop-roles.spawners.items (spawner_in post []) (spawners_of rest)
          (spawners_of c.loop-roles.roles.items) _ _ c.take_off.ensures.spawners spawners
          i.spawner_room);
    }
