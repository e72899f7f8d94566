use Rattle.std.proofs.Common.{map, length}
use Rattle.std.proofs.lemmas.Iterator.Consumers.{YieldsList-turn, YieldsList-end}
use Rattle.rb_acl.specs.Parts.{is_item}
use Rattle.rb_acl.proofs.CommaParts.{gives_parts, item_here, item_nowhere, any_pushed}
use Rattle.rb_acl.proofs.parts.is_part.Goals as goal

pub returns-then-is_item : goal.returns-then-is_item
returns-then-is_item c =
    let s = c.split-part-items.ensures in
    let parts = gives_parts c.args.text.now c.into_iter-part-iterator.ensures.into_iter_gives
    s.text s.has_more s.pattern in
    let at = YieldsList-turn parts c.loop-part.yielded _ c.loop-part.yielded_by _ _ c.in-Some.part
    c.in-Some.is c.next.ensures.steps in
    item_here c.args.text.now c.args.item.now c.in-Some.part.now (length c.loop-part.yielded)
    c.is_item.result at c.is_item.ensures c.if-is_item.true

pub returns : goal.returns
returns c =
    let s = c.split-part-items.ensures in
    let parts = gives_parts c.args.text.now c.into_iter-part-iterator.ensures.into_iter_gives
    s.text s.has_more s.pattern in
    let end = YieldsList-end parts c.loop-part.yielded _ c.loop-part.yielded_by _ _
    c.in-None.is c.next.ensures.steps in
    item_nowhere c.args.text.now c.args.item.now (map (λ part. part.now) c.loop-part.yielded)
    end.0 c.loop-part.invariant

pub loop-part-preserved : goal.loop-part-preserved
loop-part-preserved c =
    any_pushed (is_item c.args.item.now) (λ part. part.now) c.loop-part.yielded c.in-Some.part
    c.is_item.result c.loop-part.invariant c.is_item.ensures c.if-is_item.false
