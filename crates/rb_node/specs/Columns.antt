-- Marks of many nodes at once: one for each, in their order.
use Rattle.std.specs.Prelude.{ℕ, Bool, ◌&&◌, ◌||◌, List}
use Rattle.std.specs.List.{list_all, list_any}
use Rattle.rb_text.specs.Values.{value_is}
use Rattle.rb_text.specs.declared.value.Value.{Value}
use Rattle.rb_node.specs.Selection.{clause_holds}
use Rattle.rb_node.specs.declared.node.Node.{Node}
use Rattle.rb_node.specs.declared.clause.FilterClause.{FilterClause}

-- each of the parts holds of one of the texts
abbrev pub parts_hold : List Value → List (List ℕ) → Bool
parts_hold parts texts = list_all (λ value. list_any (value_is value) texts) parts

-- so do the parts of one of the alternatives
abbrev pub one_holds : List (List Value) → List (List ℕ) → Bool
one_holds alternatives texts = list_any (λ parts. parts_hold parts texts) alternatives

-- the clause is an exclude clause, or holds
abbrev pub is_included : Node → FilterClause → Bool
is_included node clause = clause.exclude || clause_holds node clause

-- the clause is an exclude clause, and holds
abbrev pub is_excluded : Node → FilterClause → Bool
is_excluded node clause = clause.exclude && clause_holds node clause
