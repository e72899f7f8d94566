use Rattle.std.proofs.Common.{◌≡◌, drop, true}
use Rattle.std.specs.List.{list_all}
use Rattle.rb_node.specs.Selection.{part_holds}
use Rattle.rb_text.specs.Values.{is_plain_value}
use Rattle.rb_node.proofs.clause.all_hold.Given as goal

-- the parts that are left hold where all do
abbrev pub invariant-loop-part : goal.invariant-loop-part
invariant-loop-part l = record {
  found : list_all (part_holds l.node l.attr) (drop l.part-index l.parts)
      ≡ list_all (part_holds l.node l.attr) l.parts;
  memory : list_all is_plain_value l.parts ≡ true
      → list_all is_plain_value (drop l.part-index l.parts) ≡ true;
}
