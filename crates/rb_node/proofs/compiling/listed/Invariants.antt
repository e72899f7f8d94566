use Rattle.std.proofs.Common.{◌≡◌, ◌++◌, drop, map, true}
use Rattle.rb_node.specs.declared.filter_err.FilterErr.{FilterErr}
use Rattle.rb_node.specs.Values.{alternative_values, in_order, are_filled, AreRead, IsFirstFaultOf}
use Rattle.rb_node.proofs.compiling.listed.Given as goal

-- what is read so far, with what the rest gives, is all, and a fault of the rest is one of all
abbrev pub invariant-loop-text : goal.invariant-loop-text
invariant-loop-text l = record {
  ok : l.all ++ map (alternative_values l.attr) (drop l.text-index l.texts) ≡ map (alternative_values l.attr) l.texts;
  filled : are_filled (in_order (map (alternative_values l.attr) (drop l.text-index l.texts))) ≡ true
      → are_filled (in_order (map (alternative_values l.attr) l.texts)) ≡ true;
  read : AreRead (in_order (map (alternative_values l.attr) (drop l.text-index l.texts)))
      → AreRead (in_order (map (alternative_values l.attr) l.texts));
  stops : (e : FilterErr) → IsFirstFaultOf
      (in_order (map (alternative_values l.attr) (drop l.text-index l.texts))) e
      → IsFirstFaultOf (in_order (map (alternative_values l.attr) l.texts)) e;
}
