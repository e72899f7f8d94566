-- A value counts itself, so documents are no more than their values.
use Rattle.std.proofs.Common.{◌≤◌, List, [], ◌∷◌, length, arith}
use Rattle.rb_yaml.specs.Tree.{YamlTree, scalar, seq, mapping}
use Rattle.rb_yaml.specs.TreeSizes.{tree_size, docs_size}

pub tree_some : (value : YamlTree) → 1 ≤ tree_size value
unfolding tree_size
tree_some (scalar line text) = omega arith
tree_some (seq line items) = omega arith
tree_some (mapping line entries) = omega arith

pub docs_count : (docs : List YamlTree) → length docs ≤ docs_size docs
docs_count [] = omega arith
docs_count (doc ∷ docs) = omega (arith, tree_some doc, docs_count docs)
