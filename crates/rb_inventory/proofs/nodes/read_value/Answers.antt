use Rattle.std.proofs.Common.{◌≡◌, [], List, Option, Some, Result, IfOk, map, unwrap_or, ap, sym, subst, ◌∙◌}
use Rattle.rb_causes.specs.Causes.{unless}
use Rattle.rb_node.specs.declared.node.Node.{Node}
use Rattle.rb_values.specs.Values.{Entry}
use Rattle.rb_values.proofs.Trees.{tree-Map, entry_list_of}
use Rattle.rb_yaml.specs.Tree.{yaml_tree, pair_tree, mapping, entries_of}
use Rattle.rb_inventory.specs.declared.fault.NodeKind.{NodeKind}
use Rattle.rb_inventory.specs.Listings.{attributes_in, attributes_of, flaw_of, node_with}
use Rattle.rb_inventory.proofs.nodes.read_value.Goals as goal

pub returns-in-Map-clause-exact : goal.returns-in-Map-clause-exact
returns-in-Map-clause-exact c =
    let es = map pair_tree c.in-Map.entries.items in
    let tree : yaml_tree c.args.value.now ≡ mapping c.in-Map.line (entries_of es) = ap yaml_tree c.in-Map.is ∙ tree-Map c.in-Map.line c.in-Map.entries in
    let read : Option (List Entry) → Result Node NodeKind = λ o. unless (flaw_of o) (node_with c.args.name.now (unwrap_or o [])) in
    subst (λ (r : Result Node NodeKind). IfOk c.read_map.result (λ node. node ≡ r))
    (ap (λ xs. read (Some (map pair_tree xs))) c.as_slice.ensures.value
    ∙ sym (ap read (ap attributes_in tree ∙ ap Some (entry_list_of es))))
    c.read_map.ensures

pub returns-in-Map-clause-form : goal.returns-in-Map-clause-form
returns-in-Map-clause-form c = λ e.
    let tree : yaml_tree c.args.value.now ≡ mapping c.in-Map.line (entries_of (map pair_tree c.in-Map.entries.items)) = ap yaml_tree c.in-Map.is ∙ tree-Map c.in-Map.line c.in-Map.entries in
    let some = sym (ap (λ v. attributes_of (Some v)) tree) ∙ e in
    absurd (cc)
