use Rattle.std.proofs.Common.{◌≡◌, drop}
use Rattle.rb_node.specs.Selection.{excludes, no_clause}
use Rattle.rb_node.proofs.selecting.has_exclude.Given as goal

-- an exclude clause is left where there is one
abbrev pub invariant-loop-clause : goal.invariant-loop-clause
invariant-loop-clause l = no_clause (excludes (drop l.clause-index l.clauses))
    ≡ no_clause (excludes l.clauses)
