use Rattle.std.proofs.Common.{refl}
use Rattle.std.proofs.lemmas.Slice.Zip.{Zip-more, either_empty_from_Zip}
use Rattle.rb_looks.proofs.Permitted.{next_permitted, none_left}
use Rattle.rb_looks.proofs.shown_nodes.permitted_nodes.Goals as goal

pub loop-decision-preserved : goal.loop-decision-preserved
loop-decision-preserved c =
    let next = Zip-more c.loop-decision.decision-iterator c.next.new.self c.next.result
    (c.in-Some.decision, c.in-Some.node) c.in-Some.is c.next.ensures.steps in
    next_permitted (λ xs. xs) (λ xs ys. refl) _
    c.loop-decision.some c.push_permitted.new.nodes
    c.in-Some.decision.now c.in-Some.node.now _ _ _ _ c.loop-decision.invariant next.0 next.1
    c.in_ok-push_permitted.ensures

pub returns : goal.returns
returns c =
    none_left (λ xs. xs) _ c.loop-decision.some _ _ refl c.loop-decision.invariant
    (either_empty_from_Zip c.loop-decision.decision-iterator c.next.new.self c.next.result
    c.in-None.is c.next.ensures.steps)
