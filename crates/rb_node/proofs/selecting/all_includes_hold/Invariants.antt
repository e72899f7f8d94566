use Rattle.std.proofs.Common.{◌≡◌, drop, true}
use Rattle.std.specs.List.{list_all}
use Rattle.rb_node.specs.Selection.{clause_holds, includes, is_plain_clause}
use Rattle.rb_node.proofs.selecting.all_includes_hold.Given as goal

-- the include clauses that are left hold where all do
abbrev pub invariant-loop-clause : goal.invariant-loop-clause
invariant-loop-clause l = record {
  found : list_all (clause_holds l.node) (includes (drop l.clause-index l.clauses))
      ≡ list_all (clause_holds l.node) (includes l.clauses);
  memory : list_all is_plain_clause l.clauses ≡ true
      → list_all is_plain_clause (drop l.clause-index l.clauses) ≡ true;
}
