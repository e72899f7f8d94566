use Rattle.std.proofs.Common.{◌≡◌, ◌++◌, drop, map, true}
use Rattle.rb_node.specs.declared.filter_err.FilterErr.{FilterErr}
use Rattle.rb_node.specs.Values.{part_value, are_filled, AreRead, IsFirstFaultOf}
use Rattle.rb_node.proofs.compiling.parts.Given as goal

-- what is read so far, with what the rest gives, is all, and a fault of the rest is one of all
abbrev pub invariant-loop-text : goal.invariant-loop-text
invariant-loop-text l = record {
  ok : l.values ++ map part_value (drop l.text-index l.texts) ≡ map part_value l.texts;
  filled : are_filled (map part_value (drop l.text-index l.texts)) ≡ true
      → are_filled (map part_value l.texts) ≡ true;
  read : AreRead (map part_value (drop l.text-index l.texts)) → AreRead (map part_value l.texts);
  stops : (e : FilterErr) → IsFirstFaultOf (map part_value (drop l.text-index l.texts)) e
      → IsFirstFaultOf (map part_value l.texts) e;
}
