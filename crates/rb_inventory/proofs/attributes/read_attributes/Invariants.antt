use Rattle.std.proofs.Common.{◌≡◌, ◌++◌, drop, map}
use Rattle.std.specs.Option.{option_or}
use Rattle.rb_yaml.specs.Tree.{pair_tree}
use Rattle.rb_inventory.specs.Attributes.{attrs_of, first_flaw}
use Rattle.rb_inventory.specs.Tags.{tags_under}
use Rattle.rb_inventory.proofs.attributes.read_attributes.Given as goal

-- the first flaw is among the entries that are left, and what they give with what was added is all
abbrev pub invariant-loop-entry : goal.invariant-loop-entry
invariant-loop-entry l =
    let all = map pair_tree l.entries in
    record {
      flaw : first_flaw (drop l.entry-index all) ≡ first_flaw all;
      kept : l.attributes.kept ++ attrs_of (drop l.entry-index all) ≡ attrs_of all;
      tags : option_or l.attributes.tags (tags_under (drop l.entry-index all)) ≡ tags_under all;
    }
