use Rattle.std.proofs.Common.{◌∙◌, ◌<◌, sym, subst}
use Rattle.rb_wire.specs.Heads.{most_head_bytes}
use Rattle.rb_wire.proofs.Sights.{
  long_breaks,
  fields_break,
  head_at,
  has_head,
  size_told,
  within_bytes,
}
use Rattle.rb_wire.proofs.seen.see_body.Goals as goal

pub returns-then-parts-gt-MOST_HEAD_BYTES : goal.returns-then-parts-gt-MOST_HEAD_BYTES
returns-then-parts-gt-MOST_HEAD_BYTES c =
    let at = c.requires.request.1 in
    long_breaks _ _ _ at.reads
    (subst (λ n. most_head_bytes < n) at.len c.if-parts-gt-MOST_HEAD_BYTES.true)

pub size_of_body-requires : goal.size_of_body-requires
size_of_body-requires c = within_bytes _ _ _ _ c.requires.within.section

pub see_size-requires : goal.see_size-requires
see_size-requires c =
    has_head _ _ _ _ c.requires.request.0
    (head_at _ _ _ _ c.requires.request.1 c.requires.within c.requires.fields
    c.if-parts-gt-MOST_HEAD_BYTES.false)
    (sym c.in-Ok.ensures)

pub returns-in-Err : goal.returns-in-Err
returns-in-Err c =
    fields_break _ _ _ c.requires.request.0 _
    (head_at _ _ _ _ c.requires.request.1 c.requires.within c.requires.fields
    c.if-parts-gt-MOST_HEAD_BYTES.false)
    (sym (size_told _ _ _ c.requires.request.0 c.requires.request.1.fields) ∙ sym c.in-Err.ensures)
