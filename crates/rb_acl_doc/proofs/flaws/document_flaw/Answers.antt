use Rattle.std.proofs.Common.{codes, map}
use Rattle.rb_yaml.specs.Tree.{yaml_tree, pair_tree}
use Rattle.rb_acl_doc.specs.Keys.{document_keys, all_parts}
use Rattle.rb_acl_doc.proofs.Foremost.{map_told}
use Rattle.rb_acl_doc.proofs.flaws.document_flaw.Goals as goal

pub returns-in_ok-flaw-in-Some : goal.returns-in_ok-flaw-in-Some
returns-in_ok-flaw-in-Some c =
    map_told document_keys all_parts (codes "document") (yaml_tree c.args.doc.now)
    (map pair_tree c.in-Some.entries.now) _ _
    c.sooner.result c.in-Some.ensures c.in_ok-flaw-in-Some.ensures (c.missing_flaw.ensures
    (codes "document")) c.sooner.ensures
