use Rattle.std.proofs.Common.{not, ◌&&◌, sym, ap, ◌∙◌, arith}
use Rattle.rb_marks.specs.Units.{outline}
use Rattle.rb_flow.proofs.Putting.{stands_at}
use Rattle.rb_flow.proofs.Unopened.{opens_inside, opens_outside}
use Rattle.rb_flow.proofs.kept.FlowCache.opens.Goals as goal
use Rattle.rb_flow.proofs.kept.FlowCache.opens.Goals.{then-group-len-via-then-group-len, then-group-len-via-else-group-len+then-leaf-self, then-unit_holds, else-unit_holds}

pub returns-then-group-len : goal.returns-then-group-len
returns-then-group-len c =
    let k = c.args.self.now in
    opens_outside (outline c.args.plan.now) k c.args.leaf c.requires.ready c.requires.sound
    (λ group node. elim c.then-group-len.branch [
      | then-group-len-via-then-group-len w ↦ omega (
        arith,
        w.if-group-len.true,
        group,
        c.group_of-group.ensures,
        c.len.ensures,
        k.tally.groups.ok.0,
      )
      | then-group-len-via-else-group-len+then-leaf-self w ↦ omega (arith, w.if-leaf-self.true, node)
    ])

pub returns : goal.returns
returns c =
    let p = outline c.args.plan.now in
    let k = c.args.self.now in
    let state = c.state_at-state.result in
    let stands = stands_at p k c.args.leaf c.group_of-group.result state c.group_of-group.ensures
    (omega (
      arith,
      c.if-group-len.false,
      c.group_of-group.ensures,
      c.len.ensures,
      k.tally.groups.ok.0,
    ))
    (omega (arith, c.if-leaf-self.false)) c.state_at-state.ensures in
    let told = opens_inside p k c.args.leaf c.group_of-group.result state c.unit_holds.result
    c.requires.ready c.requires.sound stands c.unit_holds.ensures in
    elim c.if-unit_holds.branch [
      | then-unit_holds w ↦
          ap not (w.result-is ∙ sym (ap (λ b. b && state.opened) w.if-unit_holds.true)) ∙ told
      | else-unit_holds w ↦
          ap not (w.result-is ∙ w.if-unit_holds.false
          ∙ sym (ap (λ b. b && state.opened) w.if-unit_holds.false)) ∙ told
    ]
