-- The trees of values that the code opens, and trees and entries as lists.
use Rattle.std.proofs.Common.{◌≡◌, ℕ, List, [], ◌∷◌, Vec, Global, map, refl, ap, sym, ◌∙◌}
use Rattle.rb_yaml.specs.declared.yaml.Yaml.{Yaml}
use Rattle.rb_yaml.specs.declared.yaml.Yaml.TheOpen.{Yaml-F}
use Rattle.rb_yaml.specs.declared.yaml.Yaml.TheFolds.{fold-roll-Yaml, fold_out-Pair}
use Rattle.rb_yaml.specs.declared.yaml.Yaml.TheVariants.{Seq, Map, rolls-Seq, rolls-Map}
use Rattle.rb_yaml.specs.declared.yaml.Pair.{Pair}
use Rattle.rb_yaml.specs.Tree.{YamlTree, seq, mapping, trees_of, entries_of, yaml_step, pair_step, yaml_tree, pair_tree}
use Rattle.rb_values.specs.Values.{Entry, tree_list, entry_list}

pub tree-Seq : (line : ℕ) (items : Vec Yaml Global) → yaml_tree (Seq line items) ≡ seq line (trees_of (map yaml_tree items.items))
tree-Seq line items = ap yaml_tree (sym (rolls-Seq line items)) ∙ fold-roll-Yaml YamlTree Entry yaml_step pair_step (Yaml-F.Seq line items)

pub tree-Map : (line : ℕ) (entries : Vec Pair Global) → yaml_tree (Map line entries) ≡ mapping line (entries_of (map pair_tree entries.items))
tree-Map line entries = ap yaml_tree (sym (rolls-Map line entries)) ∙ fold-roll-Yaml YamlTree Entry yaml_step pair_step (Yaml-F.Map line entries)

pub tree_list_of : (ts : List YamlTree) → tree_list (trees_of ts) ≡ ts
tree_list_of [] = refl
tree_list_of (t ∷ ts) = ap (λ more. t ∷ more) (tree_list_of ts)

pub entry_list_of : (es : List Entry) → entry_list (entries_of es) ≡ es
entry_list_of [] = refl
entry_list_of (e ∷ es) = ap (λ more. e ∷ more) (entry_list_of es)

-- the value of an entry
pub pair_value : (p : Pair) → (pair_tree p).1 ≡ yaml_tree p.value
pair_value p = ap (λ (e : Entry). e.1) (fold_out-Pair YamlTree Entry yaml_step pair_step p)
