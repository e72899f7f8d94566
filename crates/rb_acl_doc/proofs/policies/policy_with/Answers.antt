use Rattle.std.proofs.Common.{codes, map, subst}
use Rattle.std.specs.List.{flat_map}
use Rattle.rb_yaml.specs.Tree.{pair_tree}
use Rattle.rb_acl_doc.specs.Patterns.{scope_patterns, by_patterns, type_patterns, ArePatterns}
use Rattle.rb_acl_doc.specs.Policies.{scope_of, by_of, type_of}
use Rattle.rb_values.specs.Values.{entries_at}
use Rattle.rb_acl_doc.proofs.Ends.{Ended, handed_on, three_read, second_ended, third_ended}
use Rattle.rb_acl_doc.proofs.policies.policy_with.Goals as goal

pub returns-in_err-by-clause-patterns : goal.returns-in_err-by-clause-patterns
returns-in_err-by-clause-patterns c =
    let es = map pair_tree c.args.entries.now in
    let scope = scope_patterns (scope_of (entries_at es (codes "context"))) in
    let names = flat_map by_patterns (by_of (entries_at es (codes "by"))) in
    let types = flat_map type_patterns (map type_of (entries_at es (codes "for"))) in
    handed_on c.from_residual-in_err-by.result c.in_err-by.field-0.0 _
    c.from_residual-in_err-by.ensures.1
    (second_ended scope names types _
    (subst (λ xs. Ended c.in_err-by.field-0.0 (flat_map by_patterns (by_of xs)))
    c.entries_at-2.ensures c.in_err-by.ensures.patterns))

pub returns-in_err-types-clause-patterns : goal.returns-in_err-types-clause-patterns
returns-in_err-types-clause-patterns c =
    let es = map pair_tree c.args.entries.now in
    let scope = scope_patterns (scope_of (entries_at es (codes "context"))) in
    let names = flat_map by_patterns (by_of (entries_at es (codes "by"))) in
    let types = flat_map type_patterns (map type_of (entries_at es (codes "for"))) in
    handed_on c.from_residual-in_err-types.result c.in_err-types.field-0.0 _
    c.from_residual-in_err-types.ensures.1
    (third_ended scope names types _
    (subst (λ xs. Ended c.in_err-types.field-0.0 (flat_map type_patterns (map type_of xs)))
    c.entries_at-3.ensures c.in_err-types.ensures.patterns))

pub returns-clause-patterns : goal.returns-clause-patterns
returns-clause-patterns c =
    let es = map pair_tree c.args.entries.now in
    let scope = scope_patterns (scope_of (entries_at es (codes "context"))) in
    let names = flat_map by_patterns (by_of (entries_at es (codes "by"))) in
    let types = flat_map type_patterns (map type_of (entries_at es (codes "for"))) in
    three_read scope names types
    (subst (λ xs. ArePatterns (scope_patterns (scope_of xs))) c.entries_at.ensures
    c.in_ok-scope.ensures.patterns)
    (subst (λ xs. ArePatterns (flat_map by_patterns (by_of xs))) c.entries_at-2.ensures
    c.in_ok-by.ensures.patterns)
    (subst (λ xs. ArePatterns (flat_map type_patterns (map type_of xs))) c.entries_at-3.ensures
    c.in_ok-types.ensures.patterns)
