use Rattle.std.proofs.Common.{◌∙◌, subst}
use Rattle.rb_text.specs.Matching.{IsUnread}
use Rattle.rb_text.proofs.Meaning.{pattern_text}
use Rattle.rb_text.proofs.pattern.Pattern.build_in.Goals as goal

pub returns-clause-reads : goal.returns-clause-reads
returns-clause-reads c =
    pattern_text c.args.text.now c.if-text-gt-MOST_BYTES.false c.in_ok-read_alone.ensures.ok
    (subst (λ form. IsUnread form → ⊥)
    (c.as_str.ensures.value ∙ c.in_ok-form.ensures) c.in_ok-built.ensures.read)
