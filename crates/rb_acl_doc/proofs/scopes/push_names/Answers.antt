use Rattle.std.proofs.Common.{◌+◌, ◌∷◌, ◌++◌, [], drop, map, ap, sym, subst, ◌∙◌}
use Rattle.std.specs.List.{flat_map}
use Rattle.std.proofs.lemmas.List.{drop_more}
use Rattle.rb_causes.proofs.Lists.{made_more}
use Rattle.rb_acl_doc.specs.Policies.{somebody_named}
use Rattle.rb_acl_doc.specs.Patterns.{by_patterns, ArePatterns}
use Rattle.rb_acl_doc.proofs.Ends.{Ended, handed_on, ended_here, kept_on}
use Rattle.rb_acl_doc.proofs.scopes.push_names.Goals as goal

pub returns-in_err-somebody_named-clause-patterns : goal.returns-in_err-somebody_named-clause-patterns
returns-in_err-somebody_named-clause-patterns c =
    let xs = c.args.texts.now in
    let i = c.loop-text.text-index in
    let here = drop_more xs i c.text-item.result c.loop-text-test.true
    ∙ ap (λ y. y ∷ drop (i + 1) xs) (sym c.text-item.is) in
    handed_on c.from_residual.result c.in_err-somebody_named.field-0.0 _ c.from_residual.ensures.1
    (ended_here (by_patterns (somebody_named c.args.key.now c.text-item.result)) (flat_map by_patterns
    (map (somebody_named c.args.key.now) (drop (i + 1) xs))) _ _ _ (ap (λ ts. flat_map by_patterns
    (map (somebody_named c.args.key.now) ts)) here) c.loop-text.invariant.patterns
    (subst (λ t. Ended c.in_err-somebody_named.field-0.0 (by_patterns
    (somebody_named c.args.key.now t))) c.as_str.ensures c.in_err-somebody_named.ensures.patterns))

pub loop-text-preserved : goal.loop-text-preserved
loop-text-preserved c =
    let xs = c.args.texts.now in
    let i = c.loop-text.text-index in
    let here = drop_more xs i c.text-item.result c.loop-text-test.true
    ∙ ap (λ y. y ∷ drop (i + 1) xs) (sym c.text-item.is) in
    record {
      value = made_more c.loop-text.by _ (somebody_named c.args.key.now c.text-item.result ∷ []) _ _ _
          (c.in_ok-push.ensures.ok ∙ ap (λ b. c.loop-text.by
          ++ b ∷ []) (c.in_ok-somebody_named.ensures.value ∙ ap (somebody_named c.args.key.now)
          c.as_str.ensures)) (ap (map (somebody_named c.args.key.now)) here) c.loop-text.invariant.value;
      patterns = kept_on (by_patterns (somebody_named c.args.key.now c.text-item.result))
          (flat_map by_patterns (map (somebody_named c.args.key.now) (drop (i + 1) xs))) _ _ (ap
          (λ ts. flat_map by_patterns (map (somebody_named c.args.key.now) ts)) here)
          (subst (λ t. ArePatterns (by_patterns (somebody_named c.args.key.now t))) c.as_str.ensures
          c.in_ok-somebody_named.ensures.patterns) c.loop-text.invariant.patterns;
    }
