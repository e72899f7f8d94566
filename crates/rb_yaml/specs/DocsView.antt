-- Documents as the code holds them.
use Rattle.std.specs.Prelude.{List, [], ◌∷◌, Option, Some, None, Vec}
use Rattle.std.specs.declared.alloc.Global.{Global}
use Rattle.rb_yaml.specs.declared.yaml.Doc.{Doc}
use Rattle.rb_yaml.specs.declared.yaml.Yaml.{Yaml}
use Rattle.rb_yaml.specs.Tree.{YamlTree, yaml_tree, docs_tree}

abbrev pub doc_view : Option Yaml → List YamlTree
doc_view None = []
doc_view (Some root) = yaml_tree root ∷ []

abbrev pub docs_view : Vec Doc Global → List YamlTree
docs_view docs = docs_tree docs.items
