use Rattle.std.proofs.Common.{◌+◌, ◌∷◌, ◌++◌, [], drop, ap, sym, subst, ◌∙◌}
use Rattle.std.proofs.lemmas.List.{drop_more}
use Rattle.rb_causes.proofs.Lists.{made_more}
use Rattle.rb_text.specs.Matching.{IsPatternText}
use Rattle.rb_text.specs.Causes.{IsCause}
use Rattle.rb_acl_doc.proofs.Ends.{refused_as, handed_on, ended_here, kept_on}
use Rattle.rb_acl_doc.proofs.rules.patterns_of.Goals as goal

pub returns-in_err-build_in-clause-patterns : goal.returns-in_err-build_in-clause-patterns
returns-in_err-build_in-clause-patterns c =
    let xs = c.args.texts.now in
    let i = c.loop-text.text-index in
    let here = drop_more xs i c.text-item.result c.loop-text-test.true
    ∙ ap (λ y. y ∷ drop (i + 1) xs) (sym c.text-item.is) in
    handed_on c.from_residual.result c.in_err-build_in.field-0.0 _ c.from_residual.ensures.1
    (ended_here (c.text-item.result ∷ []) (drop (i + 1) xs) _ _ _
    (here) c.loop-text.invariant.patterns
    (refused_as c.text-item.result c.in_err-build_in.field-0.0 (subst
    (λ t. IsCause t c.in_err-build_in.field-0.0) c.as_str.ensures c.in_err-build_in.ensures.cause)))

pub loop-text-preserved : goal.loop-text-preserved
loop-text-preserved c =
    let xs = c.args.texts.now in
    let i = c.loop-text.text-index in
    let here = drop_more xs i c.text-item.result c.loop-text-test.true
    ∙ ap (λ y. y ∷ drop (i + 1) xs) (sym c.text-item.is) in
    record {
      value = made_more c.loop-text.patterns _ (c.text-item.result ∷ []) _ _ _
          (c.in_ok-push.ensures.ok ∙ ap (λ b. c.loop-text.patterns
          ++ b ∷ []) (c.in_ok-build_in.ensures.text ∙ c.as_str.ensures))
          (here) c.loop-text.invariant.value;
      patterns = kept_on (c.text-item.result ∷ []) (drop (i + 1) xs) _ _ (here)
          (subst IsPatternText c.as_str.ensures c.in_ok-build_in.ensures.reads, tt)
          c.loop-text.invariant.patterns;
    }
