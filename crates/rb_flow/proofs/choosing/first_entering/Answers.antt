use Rattle.std.proofs.Common.{◌+◌, ◌*◌, Some, length, get_or, sym, ap, ◌∙◌, subst, arith}
use Rattle.rb_marks.specs.Units.{outline}
use Rattle.rb_flow.specs.Order.{IsFirstPlace, may_enter}
use Rattle.rb_flow.proofs.Grid.{seat}
use Rattle.rb_flow.proofs.Turns.{IsSoFar, turn_of, turn_over, turn_on, next_within, next_read, found, stuck, none_left}
use Rattle.rb_flow.proofs.choosing.first_entering.Goals as goal
use Rattle.rb_flow.proofs.choosing.first_entering.Goals.{then-has_next+else-enters+else-is_sequential, else-has_next}

pub index-requires : goal.index-requires
index-requires c =
    let p = outline c.args.plan.now in
    let t = c.args.tally.now in
    let g = c.loop-state.state-index in
    let gs = get_or c.as_slice-state-items.result.now g record { lead = 0; bad = 0 } in
    let x = turn_of p t c.requires.is c.requires.of c.as_slice-state-items.result.now
    c.as_slice.result.now c.as_slice-state-items.ensures.value c.as_slice.ensures.value g
    c.loop-state.start c.loop-state.at c.first_from-at.result record { lead = 0; bad = 0 }
    c.loop-state.invariant c.loop-state-test.true c.first_from-at.ensures.within
    c.first_from-at.ensures.below c.first_from-at.ensures.above in
    let w = next_within p t g gs c.first_from-at.result c.loop-state.start x
    (sym c.has_next.ensures ∙ c.if-has_next.true) c.loop-state.invariant.start_is in
    let ok = t.states.ok.0 in
    omega (arith, w, ok)

pub enters-requires-clause-node : goal.enters-requires-clause-node
enters-requires-clause-node c =
    let p = outline c.args.plan.now in
    let t = c.args.tally.now in
    let g = c.loop-state.state-index in
    let gs = get_or c.as_slice-state-items.result.now g record { lead = 0; bad = 0 } in
    let x = turn_of p t c.requires.is c.requires.of c.as_slice-state-items.result.now
    c.as_slice.result.now c.as_slice-state-items.ensures.value c.as_slice.ensures.value g
    c.loop-state.start c.loop-state.at c.first_from-at.result record { lead = 0; bad = 0 }
    c.loop-state.invariant c.loop-state-test.true c.first_from-at.ensures.within
    c.first_from-at.ensures.below c.first_from-at.ensures.above in
    let w = next_read p t g gs c.first_from-at.result c.loop-state.start c.index.result.now x
    (sym c.has_next.ensures ∙ c.if-has_next.true) c.loop-state.invariant.start_is c.index.ensures in
    (seat p t c.requires.of (g * t.nodes + gs.lead) c.index.result.now w).node

pub returns-then-enters : goal.returns-then-enters
returns-then-enters c =
    let p = outline c.args.plan.now in
    let t = c.args.tally.now in
    let g = c.loop-state.state-index in
    let gs = get_or c.as_slice-state-items.result.now g record { lead = 0; bad = 0 } in
    let x = turn_of p t c.requires.is c.requires.of c.as_slice-state-items.result.now
    c.as_slice.result.now c.as_slice-state-items.ensures.value c.as_slice.ensures.value g
    c.loop-state.start c.loop-state.at c.first_from-at.result record { lead = 0; bad = 0 }
    c.loop-state.invariant c.loop-state-test.true c.first_from-at.ensures.within
    c.first_from-at.ensures.below c.first_from-at.ensures.above in
    let next = sym c.has_next.ensures ∙ c.if-has_next.true in
    let e = c.loop-state.invariant.start_is in
    let w = next_read p t g gs c.first_from-at.result c.loop-state.start c.index.result.now x
    next e c.index.ensures in
    subst (λ k. IsFirstPlace (may_enter p t.states.items) t.states.items (Some (k + gs.lead))) (sym e)
    (found p t g gs c.first_from-at.result (c.loop-state.start + t.nodes) c.index.result.now x next
    w (ap (λ k. k + t.nodes) e) (sym c.enters.ensures ∙ c.if-enters.true))

pub returns-then-is_sequential : goal.returns-then-is_sequential
returns-then-is_sequential c =
    let p = outline c.args.plan.now in
    let t = c.args.tally.now in
    let g = c.loop-state.state-index in
    let gs = get_or c.as_slice-state-items.result.now g record { lead = 0; bad = 0 } in
    let x = turn_of p t c.requires.is c.requires.of c.as_slice-state-items.result.now
    c.as_slice.result.now c.as_slice-state-items.ensures.value c.as_slice.ensures.value g
    c.loop-state.start c.loop-state.at c.first_from-at.result record { lead = 0; bad = 0 }
    c.loop-state.invariant c.loop-state-test.true c.first_from-at.ensures.within
    c.first_from-at.ensures.below c.first_from-at.ensures.above in
    let next = sym c.has_next.ensures ∙ c.if-has_next.true in
    let e = c.loop-state.invariant.start_is in
    let w = next_read p t g gs c.first_from-at.result c.loop-state.start c.index.result.now x
    next e c.index.ensures in
    stuck p t g gs c.first_from-at.result (c.loop-state.start + t.nodes) c.index.result.now x next
    w (ap (λ k. k + t.nodes) e) (sym c.enters.ensures ∙ c.if-enters.false)
    (sym c.is_sequential.ensures ∙ c.if-is_sequential.true)

pub loop-state-preserved : goal.loop-state-preserved
loop-state-preserved c =
    let p = outline c.args.plan.now in
    let t = c.args.tally.now in
    let g = c.loop-state.state-index in
    let gs = get_or c.as_slice-state-items.result.now g record { lead = 0; bad = 0 } in
    let x = turn_of p t c.requires.is c.requires.of c.as_slice-state-items.result.now
    c.as_slice.result.now c.as_slice-state-items.ensures.value c.as_slice.ensures.value g
    c.loop-state.start c.loop-state.at c.first_from-at.result record { lead = 0; bad = 0 }
    c.loop-state.invariant c.loop-state-test.true c.first_from-at.ensures.within
    c.first_from-at.ensures.below c.first_from-at.ensures.above in
    elim c.if-has_next.branch [
      | then-has_next+else-enters+else-is_sequential w ↦
          let next = sym c.has_next.ensures ∙ w.if-has_next.true in
          let e = c.loop-state.invariant.start_is in
          let here = next_read p t g gs c.first_from-at.result c.loop-state.start
          w.index.result.now x next e w.index.ensures in
          subst (λ s. IsSoFar p t (g + 1) s c.first_from-at.result) (sym w.start-is)
          (turn_on p t g gs c.loop-state.start c.first_from-at.result
          (c.loop-state.start + t.nodes) w.index.result.now x e next here
          (ap (λ k. k + t.nodes) e) (sym w.enters.ensures ∙ w.if-enters.false)
          (sym w.is_sequential.ensures ∙ w.if-is_sequential.false))
      | else-has_next w ↦
          subst (λ s. IsSoFar p t (g + 1) s c.first_from-at.result) (sym w.start-is)
          (turn_over p t g gs c.loop-state.start c.first_from-at.result x
          c.loop-state.invariant.start_is (sym c.has_next.ensures ∙ w.if-has_next.false))
    ]

pub returns : goal.returns
returns c =
    let groups = ap length c.as_slice-state-items.ensures.value in
    let past = c.loop-state-test.false in
    none_left (outline c.args.plan.now) c.args.tally.now c.requires.is c.loop-state.state-index
    c.loop-state.start c.loop-state.at c.loop-state.invariant (omega (arith, groups, past))
