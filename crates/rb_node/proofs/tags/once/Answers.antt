use Rattle.std.proofs.Common.{◌∷◌, ◌++◌, [], ap, sym, subst, ◌∙◌}
use Rattle.rb_causes.specs.SeenTexts.{HasSeen}
use Rattle.rb_causes.specs.Texts.{has_text}
use Rattle.rb_node.proofs.KeptOnce.{once_seen, once_new}
use Rattle.rb_node.proofs.tags.once.Goals as goal

pub loop-text-preserved : goal.loop-text-preserved
loop-text-preserved c =
    let is_held = c.holds.ensures c.loop-text.kept c.loop-text.invariant.seen ∙ ap (has_text c.loop-text.kept) c.as_str.ensures in record {
      seen = c.loop-text.invariant.seen;
      kept = once_seen c.loop-text.yielded c.loop-text.kept c.in-Some.text c.holds.result c.loop-text.invariant.kept is_held c.if-not-holds.false;
    }

pub loop-text-preserved-in-Continue-branch-2 : goal.loop-text-preserved-in-Continue-branch-2
loop-text-preserved-in-Continue-branch-2 c =
    let is_held = c.holds.ensures c.loop-text.kept c.loop-text.invariant.seen ∙ ap (has_text c.loop-text.kept) c.as_str.ensures in
    let noted = c.in_ok-note.ensures c.loop-text.kept c.loop-text.invariant.seen in
    let pushed = c.in_ok-push.ensures.ok in record {
      seen = subst (HasSeen c.note.new.self) (ap (λ t. c.loop-text.kept ++ t ∷ []) c.as_str-then-not-holds.ensures ∙ sym pushed) noted;
      kept = once_new c.loop-text.yielded c.loop-text.kept c.push.new.self c.in-Some.text c.holds.result c.loop-text.invariant.kept is_held c.if-not-holds.true pushed;
    }
