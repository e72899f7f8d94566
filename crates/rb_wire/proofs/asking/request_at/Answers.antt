use Rattle.std.proofs.Common.{◌∙◌, ap}
use Rattle.rb_wire.specs.Heads.{target_path, query_of}
use Rattle.rb_wire.proofs.Sights.{method_is_text, target_is_text, request_is}
use Rattle.rb_wire.proofs.asking.request_at.Goals as goal

pub text_at-requires-clause-text : goal.text_at-requires-clause-text
text_at-requires-clause-text c = target_is_text _ _ _ _ c.requires.is_head

pub text_at-requires-2-clause-text : goal.text_at-requires-2-clause-text
text_at-requires-2-clause-text c = method_is_text _ _ _ _ c.requires.is_head

pub returns : goal.returns
returns c =
    λ head is_head.
    request_is _ _ _ _ _ head _ _ _ _ _ _ is_head
    (c.in_ok-of.ensures ∙ c.text_at-2.ensures)
    (c.in_ok-of-2.ensures ∙ c.parts_of_target.ensures.path ∙ ap target_path c.text_at.ensures)
    (c.in_ok-of-3.ensures ∙ c.parts_of_target.ensures.query ∙ ap query_of c.text_at.ensures)
    c.in_ok-token.ensures
    c.closes.ensures
    c.in_ok-copy_of.ensures
