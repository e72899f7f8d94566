use Rattle.std.proofs.Common.{◌≡◌, drop, true}
use Rattle.std.specs.List.{list_any, list_all}
use Rattle.rb_node.specs.Selection.{clause_holds, excludes, is_plain_clause}
use Rattle.rb_node.proofs.selecting.excluded.Given as goal

-- one of the exclude clauses that are left holds where one of all does
abbrev pub invariant-loop-clause : goal.invariant-loop-clause
invariant-loop-clause l = record {
  found : list_any (clause_holds l.node) (excludes (drop l.clause-index l.clauses))
      ≡ list_any (clause_holds l.node) (excludes l.clauses);
  memory : list_all is_plain_clause l.clauses ≡ true
      → list_all is_plain_clause (drop l.clause-index l.clauses) ≡ true;
}
