use Rattle.std.proofs.Common.{◌≡◌, ◌+◌, ◌++◌, ◌∷◌, [], List, ℕ, Result, map, drop, true, false, ap, sym, ◌∙◌, subst, rules}
use Rattle.std.proofs.lemmas.Result.{err_from_is_err_and}
use Rattle.std.proofs.lemmas.List.{map_push}
use Rattle.rb_yaml.specs.declared.flaw.Fault.{Fault}
use Rattle.rb_causes.specs.SeenTexts.{HasSeen}
use Rattle.rb_yaml.specs.Faults.{Reads}
use Rattle.rb_yaml.specs.PartsView.{part_view}
use Rattle.rb_yaml.specs.Signs.{begins_item}
use Rattle.rb_yaml.specs.Keys.{begins_with_key}
use Rattle.rb_yaml.specs.Tree.{YamlTree, yaml_tree, pair_tree}
use Rattle.rb_yaml.specs.Nodes.{all_items, item_of, all_entries, entry_of, node}
use Rattle.rb_yaml.proofs.NodeFacts.{with_trees, with_entries, items_more, items_stop, entries_more, entries_stop, node_map, node_alone, part_at, seq_stop, map_stop}
use Rattle.rb_yaml.proofs.nodes.+node.Goals as goal

pub read_node-returns-then-branch-2 : goal.read_node-returns-then-branch-2
read_node-returns-then-branch-2 t c =
    let item : begins_item c.args.head.now.text ≡ false = search rules in
    let key : begins_with_key c.args.head.now.text ≡ true = search rules in
    subst (λ (r : Result YamlTree Fault). Reads yaml_tree c.read_map.result r) (node_map c.args.left c.args.floor c.args.head.now c.args.lines.now c.if-left-eq0.false item key) c.read_map.ensures

pub read_node-returns : goal.read_node-returns
read_node-returns t c =
    let item : begins_item c.args.head.now.text ≡ false = search rules in
    let key : begins_with_key c.args.head.now.text ≡ false = search rules in
    subst (λ (r : Result YamlTree Fault). Reads yaml_tree c.alone-2.result r) (node_alone c.args.left c.args.floor c.args.head.now c.args.lines.now c.if-left-eq0.false item key) c.alone-2.ensures

pub read_sequence-returns-in_err-item : goal.read_sequence-returns-in_err-item
read_sequence-returns-in_err-item t c =
    let p = err_from_is_err_and c.from_residual-in_err-item.result c.from_residual-in_err-item.ensures.1 in
    let items = c.deref-part-items.result.now in
    let read = item_of (node c.args.left) c.indent-indent.result in
    let here = part_at part_view items c.loop-part.part-index c.part-item.result c.loop-part-test.true c.part-item.is in
    let same = sym (ap (λ ps. with_trees (map yaml_tree c.loop-part.items.items) (all_items read ps)) here) ∙ c.loop-part.invariant in
    rw (p.1, p.2) (seq_stop (node c.args.left) c.args.head.now c.args.lines.now c.indent-indent.result (map part_view items) c.in_err-item.field-0.0 c.indent-indent.ensures
    (ap (map part_view) c.deref-part-items.ensures.value ∙ c.in_ok-parts.ensures)
    (items_stop read c.in_err-item.field-0.0 (map yaml_tree c.loop-part.items.items) (part_view c.part-item.result) (drop (c.loop-part.part-index + 1) (map part_view items))
    (all_items read (map part_view items)) c.in_err-item.ensures same))

pub read_sequence-loop-part-preserved : goal.read_sequence-loop-part-preserved
read_sequence-loop-part-preserved t c =
    let items = c.deref-part-items.result.now in
    let read = item_of (node c.args.left) c.indent-indent.result in
    let here = part_at part_view items c.loop-part.part-index c.part-item.result c.loop-part-test.true c.part-item.is in
    let same = sym (ap (λ ps. with_trees (map yaml_tree c.loop-part.items.items) (all_items read ps)) here) ∙ c.loop-part.invariant in
    let pushed : c.push.new.self.items ≡ c.loop-part.items.items ++ c.in_ok-item.item ∷ [] = search rules in
    let more : map yaml_tree c.push.new.self.items ≡ map yaml_tree c.loop-part.items.items ++ yaml_tree c.in_ok-item.item ∷ [] = ap (map yaml_tree) pushed ∙ map_push yaml_tree c.loop-part.items.items c.in_ok-item.item in
    items_more read (map yaml_tree c.loop-part.items.items) (map yaml_tree c.push.new.self.items) (yaml_tree c.in_ok-item.item) (part_view c.part-item.result)
    (drop (c.loop-part.part-index + 1) (map part_view items)) (all_items read (map part_view items)) c.in_ok-item.ensures more same

pub read_map-returns-in_err-pair : goal.read_map-returns-in_err-pair
read_map-returns-in_err-pair t c =
    let p = err_from_is_err_and c.from_residual-in_err-pair.result c.from_residual-in_err-pair.ensures.1 in
    let items = c.deref-part-items.result.now in
    let read = entry_of c.args.left (node c.args.left) c.indent-indent.result in
    let keys = c.loop-part.invariant.0 in
    let here = part_at part_view items c.loop-part.part-index c.part-item.result c.loop-part-test.true c.part-item.is in
    let same = sym (ap (λ ps. with_entries (map pair_tree c.loop-part.entries.items) (all_entries read keys ps)) here) ∙ c.loop-part.invariant.2 in
    rw (p.1, p.2) (map_stop c.args.left (node c.args.left) c.args.head.now c.args.lines.now c.indent-indent.result (map part_view items) c.in_err-pair.field-0.0 c.indent-indent.ensures
    (ap (map part_view) c.deref-part-items.ensures.value ∙ c.in_ok-parts.ensures)
    (entries_stop read keys c.in_err-pair.field-0.0 (map pair_tree c.loop-part.entries.items) (part_view c.part-item.result) (drop (c.loop-part.part-index + 1) (map part_view items))
    (all_entries read [] (map part_view items)) (c.in_err-pair.ensures keys c.loop-part.invariant.1) same))

pub read_map-loop-part-preserved : goal.read_map-loop-part-preserved
read_map-loop-part-preserved t c =
    let items = c.deref-part-items.result.now in
    let read = entry_of c.args.left (node c.args.left) c.indent-indent.result in
    let keys = c.loop-part.invariant.0 in
    let pair = c.in_ok-pair.pair in
    let here = part_at part_view items c.loop-part.part-index c.part-item.result c.loop-part-test.true c.part-item.is in
    let same = sym (ap (λ ps. with_entries (map pair_tree c.loop-part.entries.items) (all_entries read keys ps)) here) ∙ c.loop-part.invariant.2 in
    let pushed : c.push.new.self.items ≡ c.loop-part.entries.items ++ pair ∷ [] = search rules in
    let more : map pair_tree c.push.new.self.items ≡ map pair_tree c.loop-part.entries.items ++ pair_tree pair ∷ [] = ap (map pair_tree) pushed ∙ map_push pair_tree c.loop-part.entries.items pair in
    let added = c.in_ok-note.ensures keys c.loop-part.invariant.1 in (
      keys ++ (pair_tree pair).0 ∷ [],
      subst (λ (k : List ℕ). HasSeen c.note.new.self (keys ++ k ∷ [])) c.key_of.ensures added,
      entries_more read keys (map pair_tree c.loop-part.entries.items) (map pair_tree c.push.new.self.items) (pair_tree pair) (part_view c.part-item.result)
          (drop (c.loop-part.part-index + 1) (map part_view items)) (all_entries read [] (map part_view items)) (c.in_ok-pair.ensures keys c.loop-part.invariant.1) more same,
    )
