use Rattle.std.proofs.Common.{arith}
use Rattle.std.proofs.lemmas.List.{length-map}
use Rattle.rb_yaml.specs.Tree.{docs_tree, yaml_tree}
use Rattle.rb_yaml.proofs.SizeFacts.{docs_count}
use Rattle.rb_imports.proofs.readings.read_file.Goals as goal

pub read_policies-requires : goal.read_policies-requires
read_policies-requires c =
    omega (arith, c.requires, docs_count (docs_tree c.args.docs.now), length-map c.args.docs.now (λ d. yaml_tree d.root))
