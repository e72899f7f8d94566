use Rattle.std.proofs.Common.{◌≡◌, drop}
use Rattle.rb_node.specs.Selection.{includes, no_clause}
use Rattle.rb_node.proofs.selecting.has_no_include.Given as goal

-- no include clause is left where there is none
abbrev pub invariant-loop-clause : goal.invariant-loop-clause
invariant-loop-clause l = no_clause (includes (drop l.clause-index l.clauses))
    ≡ no_clause (includes l.clauses)
