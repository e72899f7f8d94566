use Rattle.std.proofs.Common.{◌+◌, drop, map, ap, ◌∙◌}
use Rattle.rb_yaml.specs.Tree.{pair_tree}
use Rattle.std.specs.List.{flat_map}
use Rattle.rb_causes.proofs.Lists.{item_at, made_more}
use Rattle.rb_acl_doc.specs.Policies.{names_in}
use Rattle.rb_acl_doc.specs.Patterns.{by_patterns}
use Rattle.rb_acl_doc.proofs.Walks.{flat_map-append}
use Rattle.rb_acl_doc.proofs.Ends.{handed_on, ended_here, kept_on}
use Rattle.rb_acl_doc.proofs.scopes.by_of.Goals as goal

pub returns-in_err-push_entry-clause-patterns : goal.returns-in_err-push_entry-clause-patterns
returns-in_err-push_entry-clause-patterns c =
    let xs = c.args.entries.now in
    let i = c.loop-entry.entry-index in
    let here = item_at pair_tree xs i c.entry-item.result c.loop-entry-test.true c.entry-item.is in
    handed_on c.from_residual.result c.in_err-push_entry.field-0.0 _ c.from_residual.ensures.1
    (ended_here (flat_map by_patterns (names_in (pair_tree c.entry-item.result)))
    (flat_map by_patterns (flat_map names_in (drop (i + 1) (map pair_tree xs)))) _ _ _ (ap
    (λ es. flat_map by_patterns (flat_map names_in es)) here
    ∙ flat_map-append by_patterns (names_in (pair_tree c.entry-item.result)) (flat_map names_in
    (drop (i + 1) (map pair_tree xs)))) c.loop-entry.invariant.patterns
    c.in_err-push_entry.ensures.patterns)

pub loop-entry-preserved : goal.loop-entry-preserved
loop-entry-preserved c =
    let xs = c.args.entries.now in
    let i = c.loop-entry.entry-index in
    let here = item_at pair_tree xs i c.entry-item.result c.loop-entry-test.true c.entry-item.is in
    record {
      value = made_more c.loop-entry.by _ (names_in (pair_tree c.entry-item.result)) _ _ _
          (c.in_ok-push_entry.ensures.value) (ap (flat_map names_in) here)
          c.loop-entry.invariant.value;
      patterns = kept_on (flat_map by_patterns (names_in (pair_tree c.entry-item.result)))
          (flat_map by_patterns (flat_map names_in (drop (i + 1) (map pair_tree xs)))) _ _ (ap
          (λ es. flat_map by_patterns (flat_map names_in es)) here
          ∙ flat_map-append by_patterns (names_in (pair_tree c.entry-item.result))
          (flat_map names_in (drop (i + 1) (map pair_tree xs))))
          c.in_ok-push_entry.ensures.patterns c.loop-entry.invariant.patterns;
    }
