use Rattle.std.proofs.Common.{◌∙◌, ◌∷◌, [], add-one, ap, arith, drop, length, rules, subst, sym}
use Rattle.rb_serve.specs.Roles.{AreGiven, MayClose}
use Rattle.rb_serve.proofs.Roles.{behind, counted, door_more}
use Rattle.rb_serve.proofs.casting.cast_doors.Goals as goal

pub loop-number-preserved : goal.loop-number-preserved
loop-number-preserved g c =
    let i = c.loop-number.invariant in
    let number = c.loop-number.number in
    let olds = c.args.roles.now.items in
    let all = c.args.passes.now.items in
    let pass = c.first-pass.result in
    let rest = c.first-pass.new.items.items in
    let popped = c.first-pass.ensures.items in
    let taken = c.first-line.ensures.items in
    let next = behind all number pass rest (sym popped ∙ i.rest) in
    let may = subst (λ p. MayClose p number) next.1
    (c.requires.may number pass (search rules) next.0) in
    let given = subst (λ l. AreGiven olds c.loop-number.roles.items all (pass ∷ rest)
    c.args.lines.now.items l [] []) taken
    (subst (λ l. AreGiven olds c.loop-number.roles.items all l c.args.lines.now.items
    c.loop-number.lines.items [] []) popped i.given) in
    record {
      given = subst (λ l. AreGiven olds l all rest c.args.lines.now.items
          c.first-line.new.items.items [] []) (sym c.push_reserved.ensures.items)
          (door_more olds c.loop-number.roles.items all rest pass c.first-line.result
          c.first-buffer.result number c.args.lines.now.items c.first-line.new.items.items given
          may);
      rest = next.2 ∙ ap (λ n. drop n all) (sym (add-one number));
      passes = omega (arith, i.passes, ap length popped);
      lines = omega (arith, i.lines, ap length taken);
      buffers = omega (arith, i.buffers, ap length c.first-buffer.ensures.items);
      roles = counted c.loop-number.roles.items _ _ (length olds) number
          c.push_reserved.ensures.items i.roles;
      line_room = c.first-line.ensures.capacity ∙ i.line_room;
      pass_room = c.first-pass.ensures.capacity ∙ i.pass_room;
      role_room = c.push_reserved.ensures.capacity ∙ i.role_room;
    }
