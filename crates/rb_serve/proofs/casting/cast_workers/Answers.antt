use Rattle.std.proofs.Common.{◌∙◌, ◌∷◌, [], add-one, ap, arith, drop, length, rules, subst, sym}
use Rattle.rb_serve.specs.Roles.{AreGiven, MayWork}
use Rattle.rb_serve.proofs.Roles.{behind, counted, worker_more}
use Rattle.rb_serve.proofs.casting.cast_workers.Goals as goal

pub loop-number-preserved : goal.loop-number-preserved
loop-number-preserved g c =
    let i = c.loop-number.invariant in
    let number = c.loop-number.number in
    let olds = c.args.roles.now.items in
    let all = c.args.passes.now.items in
    let pass = c.first-pass.result in
    let rest = c.first-pass.new.items.items in
    let popped = c.first-pass.ensures.items in
    let taken = c.first-spawner.ensures.items in
    let next = behind all number pass rest (sym popped ∙ i.rest) in
    let may = subst (λ p. MayWork p number) next.1
    (c.requires.may number pass (search rules) next.0) in
    let given = subst (λ l. AreGiven olds c.loop-number.roles.items all (pass ∷ rest) [] []
    c.args.spawners.now.items l) taken
    (subst (λ l. AreGiven olds c.loop-number.roles.items all l [] [] c.args.spawners.now.items
    c.loop-number.spawners.items) popped i.given) in
    record {
      given = subst (λ l. AreGiven olds l all rest [] [] c.args.spawners.now.items
          c.first-spawner.new.items.items) (sym c.push_reserved.ensures.items)
          (worker_more olds c.loop-number.roles.items all rest pass c.first-spawner.result number
          c.args.spawners.now.items c.first-spawner.new.items.items given may);
      rest = next.2 ∙ ap (λ n. drop n all) (sym (add-one number));
      passes = omega (arith, i.passes, ap length popped);
      spawners = omega (arith, i.spawners, ap length taken);
      roles = counted c.loop-number.roles.items _ _ (length olds) number
          c.push_reserved.ensures.items i.roles;
      spawner_room = c.first-spawner.ensures.capacity ∙ i.spawner_room;
      pass_room = c.first-pass.ensures.capacity ∙ i.pass_room;
      role_room = c.push_reserved.ensures.capacity ∙ i.role_room;
    }
