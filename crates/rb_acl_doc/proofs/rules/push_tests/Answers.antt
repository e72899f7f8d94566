use Rattle.std.proofs.Common.{◌+◌, ◌∷◌, ◌++◌, [], drop, map, ap, ◌∙◌}
use Rattle.rb_yaml.specs.Tree.{pair_tree}
use Rattle.std.specs.List.{flat_map}
use Rattle.rb_causes.proofs.Lists.{item_at, made_more}
use Rattle.rb_acl_doc.specs.Policies.{test_of}
use Rattle.rb_acl_doc.specs.Patterns.{test_patterns}
use Rattle.rb_acl_doc.proofs.Ends.{handed_on, ended_here, kept_on}
use Rattle.rb_acl_doc.proofs.rules.push_tests.Goals as goal

pub returns-in_err-test_of-clause-patterns : goal.returns-in_err-test_of-clause-patterns
returns-in_err-test_of-clause-patterns c =
    let xs = c.args.properties.now in
    let i = c.loop-property.property-index in
    let here = item_at pair_tree xs i c.property-item.result c.loop-property-test.true
    c.property-item.is in
    handed_on c.from_residual.result c.in_err-test_of.field-0.0 _ c.from_residual.ensures.1
    (ended_here (test_patterns (test_of c.args.kind (pair_tree c.property-item.result)))
    (flat_map test_patterns (map (test_of c.args.kind) (drop (i + 1)
    (map pair_tree xs)))) _ _ _ (ap (λ es. flat_map test_patterns (map
    (test_of c.args.kind) es)) here) c.loop-property.invariant.patterns
    c.in_err-test_of.ensures.patterns)

pub loop-property-preserved : goal.loop-property-preserved
loop-property-preserved c =
    let xs = c.args.properties.now in
    let i = c.loop-property.property-index in
    let here = item_at pair_tree xs i c.property-item.result c.loop-property-test.true
    c.property-item.is in
    record {
      value = made_more c.loop-property.tests _ (test_of c.args.kind
          (pair_tree c.property-item.result) ∷ []) _ _ _ (c.in_ok-push.ensures.ok
          ∙ ap (λ b. c.loop-property.tests ++ b ∷ []) c.in_ok-test_of.ensures.value) (ap (map
          (test_of c.args.kind)) here) c.loop-property.invariant.value;
      patterns = kept_on (test_patterns (test_of c.args.kind (pair_tree
          c.property-item.result))) (flat_map test_patterns (map (test_of c.args.kind) (drop
          (i + 1) (map pair_tree xs)))) _ _ (ap (λ es. flat_map test_patterns (map
          (test_of c.args.kind) es)) here)
          c.in_ok-test_of.ensures.patterns c.loop-property.invariant.patterns;
    }
