use Rattle.std.proofs.Common.{map, refl}
use Rattle.std.proofs.lemmas.Slice.Zip.{Zip-more, either_empty_from_Zip}
use Rattle.std.proofs.lemmas.List.{map-append}
use Rattle.rb_looks.specs.Looking.{shown_in}
use Rattle.rb_looks.proofs.Permitted.{next_permitted, none_left}
use Rattle.rb_looks.proofs.shown_jobs.permitted_views.Goals as goal

pub loop-decision-preserved : goal.loop-decision-preserved
loop-decision-preserved c =
    let next = Zip-more c.loop-decision.decision-iterator c.next.new.self c.next.result
    (c.in-Some.decision, c.in-Some.held) c.in-Some.is c.next.ensures.steps in
    let show = shown_in c.args.project.now in
    next_permitted (map show) (map-append show) _
    c.loop-decision.views.items c.push_permitted.new.views.items
    c.in-Some.decision.now c.in-Some.held.now _ _ _ _ c.loop-decision.invariant next.0 next.1
    c.in_ok-push_permitted.ensures

pub returns : goal.returns
returns c =
    none_left (map (shown_in c.args.project.now)) _ c.loop-decision.views.items _ _ refl
    c.loop-decision.invariant
    (either_empty_from_Zip c.loop-decision.decision-iterator c.next.new.self c.next.result
    c.in-None.is c.next.ensures.steps)
