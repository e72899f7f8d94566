use Rattle.std.proofs.Common.{◌∙◌, ◌+◌, drop, map, ap, sym}
use Rattle.rb_causes.proofs.Lists.{item_at}
use Rattle.rb_yaml.specs.Tree.{YamlTree, yaml_tree}
use Rattle.rb_values.specs.Values.{map_entries}
use Rattle.rb_manifest.specs.Forms.{unknown_of}
use Rattle.rb_manifest.specs.Rules.{form_of}
use Rattle.rb_manifest.proofs.Firsts.{first, flat_here, flat_on}
use Rattle.rb_manifest.proofs.flaws.unknown_key.Goals as goal

pub returns-then-is_some : goal.returns-then-is_some
returns-then-is_some c =
    let xs = c.args.items.now in
    let i = c.loop-item.item-index in
    let x = c.item-item.result in
    let here = item_at yaml_tree xs i x c.loop-item-test.true c.item-item.is in
    flat_here (λ (item : YamlTree). unknown_of (form_of c.args.kind).keys (map_entries item))
    (yaml_tree x) _ (drop (i + 1) (map yaml_tree xs)) c.in_ok-flaw.flaw _ here
    (c.in_ok-flaw.ensures
    ∙ ap (λ es. first (unknown_of (form_of c.args.kind).keys es)) c.map_entries.ensures)
    (sym c.is_some.ensures ∙ c.if-is_some.true) c.loop-item.invariant

pub loop-item-preserved : goal.loop-item-preserved
loop-item-preserved c =
    let xs = c.args.items.now in
    let i = c.loop-item.item-index in
    let x = c.item-item.result in
    let here = item_at yaml_tree xs i x c.loop-item-test.true c.item-item.is in
    flat_on (λ (item : YamlTree). unknown_of (form_of c.args.kind).keys (map_entries item))
    (yaml_tree x) _ (drop (i + 1) (map yaml_tree xs)) c.in_ok-flaw.flaw _ here
    (c.in_ok-flaw.ensures
    ∙ ap (λ es. first (unknown_of (form_of c.args.kind).keys es)) c.map_entries.ensures)
    (sym c.is_some.ensures ∙ c.if-is_some.false) c.loop-item.invariant
