use Rattle.std.proofs.Common.{map, length}
use Rattle.std.proofs.lemmas.Iterator.Consumers.{YieldsList-turn, YieldsList-end}
use Rattle.rb_acl.specs.Parts.{is_listed}
use Rattle.rb_acl.proofs.CommaParts.{gives_parts, unlisted_here, listed_all, all_pushed}
use Rattle.rb_acl.proofs.parts.are_parts_among.Goals as goal

pub returns-then-not-is_listed : goal.returns-then-not-is_listed
returns-then-not-is_listed c =
    let s = c.split-part-items.ensures in
    let parts = gives_parts c.args.text.now c.into_iter-part-iterator.ensures.into_iter_gives
    s.text s.has_more s.pattern in
    let at = YieldsList-turn parts c.loop-part.yielded _ c.loop-part.yielded_by _ _ c.in-Some.part
    c.in-Some.is c.next.ensures.steps in
    unlisted_here c.args.text.now c.in-Some.part.now c.args.texts.now (length c.loop-part.yielded)
    c.is_listed.result at c.is_listed.ensures c.if-not-is_listed.true

pub returns : goal.returns
returns c =
    let s = c.split-part-items.ensures in
    let parts = gives_parts c.args.text.now c.into_iter-part-iterator.ensures.into_iter_gives
    s.text s.has_more s.pattern in
    let end = YieldsList-end parts c.loop-part.yielded _ c.loop-part.yielded_by _ _
    c.in-None.is c.next.ensures.steps in
    listed_all c.args.text.now c.args.texts.now (map (λ part. part.now) c.loop-part.yielded)
    end.0 c.loop-part.invariant

pub loop-part-preserved : goal.loop-part-preserved
loop-part-preserved c =
    all_pushed (is_listed c.args.texts.now) (λ part. part.now) c.loop-part.yielded c.in-Some.part
    c.is_listed.result c.loop-part.invariant c.is_listed.ensures c.if-not-is_listed.false
