use Rattle.std.proofs.Common.{◌≡◌, ◌++◌, drop, map, true}
use Rattle.rb_node.specs.declared.filter_err.FilterErr.{FilterErr}
use Rattle.rb_node.specs.Values.{drafted_values, clause_of, are_filled, AreRead, IsFirstFaultOf}
use Rattle.rb_node.proofs.compiling.compile_all.Given as goal

-- what is read so far, with what the rest gives, is all, and a fault of the rest is one of all
abbrev pub invariant-loop-draft : goal.invariant-loop-draft
invariant-loop-draft l = record {
  ok : l.clauses ++ map clause_of (drop l.draft-index l.drafts) ≡ map clause_of l.drafts;
  filled : are_filled (drafted_values (drop l.draft-index l.drafts)) ≡ true
      → are_filled (drafted_values l.drafts) ≡ true;
  read : AreRead (drafted_values (drop l.draft-index l.drafts)) → AreRead (drafted_values l.drafts);
  stops : (e : FilterErr) → IsFirstFaultOf (drafted_values (drop l.draft-index l.drafts)) e
      → IsFirstFaultOf (drafted_values l.drafts) e;
}
