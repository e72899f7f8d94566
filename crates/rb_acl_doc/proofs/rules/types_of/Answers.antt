use Rattle.std.proofs.Common.{◌+◌, ◌∷◌, ◌++◌, [], drop, map, ap, ◌∙◌}
use Rattle.rb_yaml.specs.Tree.{pair_tree}
use Rattle.std.specs.List.{flat_map}
use Rattle.rb_causes.proofs.Lists.{item_at, made_more}
use Rattle.rb_acl_doc.specs.Policies.{type_of}
use Rattle.rb_acl_doc.specs.Patterns.{type_patterns}
use Rattle.rb_acl_doc.proofs.Ends.{handed_on, ended_here, kept_on}
use Rattle.rb_acl_doc.proofs.rules.types_of.Goals as goal

pub returns-in_err-type_of-clause-patterns : goal.returns-in_err-type_of-clause-patterns
returns-in_err-type_of-clause-patterns c =
    let xs = c.args.entries.now in
    let i = c.loop-entry.entry-index in
    let here = item_at pair_tree xs i c.entry-item.result c.loop-entry-test.true c.entry-item.is in
    handed_on c.from_residual.result c.in_err-type_of.field-0.0 _ c.from_residual.ensures.1
    (ended_here (type_patterns (type_of (pair_tree c.entry-item.result)))
    (flat_map type_patterns (map (type_of) (drop (i + 1) (map pair_tree xs)))) _ _ _ (ap
    (λ es. flat_map type_patterns (map (type_of) es)) here) c.loop-entry.invariant.patterns
    c.in_err-type_of.ensures.patterns)

pub loop-entry-preserved : goal.loop-entry-preserved
loop-entry-preserved c =
    let xs = c.args.entries.now in
    let i = c.loop-entry.entry-index in
    let here = item_at pair_tree xs i c.entry-item.result c.loop-entry-test.true c.entry-item.is in
    record {
      value = made_more c.loop-entry.types _ (type_of (pair_tree c.entry-item.result) ∷ []) _ _
          _ (c.in_ok-push.ensures.ok ∙ ap (λ b. c.loop-entry.types
          ++ b ∷ []) c.in_ok-type_of.ensures.value) (ap (map (type_of)) here)
          c.loop-entry.invariant.value;
      patterns = kept_on (type_patterns (type_of (pair_tree c.entry-item.result)))
          (flat_map type_patterns (map (type_of) (drop (i + 1) (map pair_tree xs)))) _ _ (ap
          (λ es. flat_map type_patterns (map (type_of) es)) here)
          c.in_ok-type_of.ensures.patterns c.loop-entry.invariant.patterns;
    }
