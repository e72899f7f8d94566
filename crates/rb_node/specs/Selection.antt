-- Which nodes the clauses of a filter select.
use Rattle.std.specs.Prelude.{ℕ, Bool, true, false, not, ◌&&◌, ◌||◌, List, [], ◌∷◌, filter, option_to_list, if◌then◌else◌}
use Rattle.std.specs.List.{list_all, list_any}
use Rattle.rb_causes.specs.Texts.{is_tags}
use Rattle.rb_text.specs.Values.{is_plain_value, value_is}
use Rattle.rb_text.specs.declared.value.Value.{Value}
use Rattle.rb_node.specs.Nodes.{attribute}
use Rattle.rb_node.specs.declared.node.Node.{Node}
use Rattle.rb_node.specs.declared.clause.FilterClause.{FilterClause}

-- the texts that a node shows under the name of an attribute: each tag, or its one text, or none
-- where it lacks it
abbrev pub shown : Node → List ℕ → List (List ℕ)
shown node attr = if is_tags attr then node.tags else option_to_list (attribute node attr)

-- a part holds where its value holds of some text that the node shows
abbrev pub part_holds : Node → List ℕ → Value → Bool
part_holds node attr value = list_any (value_is value) (shown node attr)

-- a clause holds where all parts of one of its alternatives hold
abbrev pub clause_holds : Node → FilterClause → Bool
clause_holds node clause =
    list_any (λ parts. list_all (part_holds node clause.attr) parts) clause.alternatives

-- the clauses that include nodes, and those that exclude them
abbrev pub includes : List FilterClause → List FilterClause
includes clauses = filter (λ c. not c.exclude) clauses

abbrev pub excludes : List FilterClause → List FilterClause
excludes clauses = filter (λ c. c.exclude) clauses

-- there are no such clauses
abbrev pub no_clause : List FilterClause → Bool
no_clause [] = true
no_clause (c ∷ cs) = false

-- included: all include clauses hold, or, where there is none, there is an exclude clause
abbrev pub included : List FilterClause → Node → Bool
included clauses node =
    if no_clause (includes clauses) then not (no_clause (excludes clauses))
    else list_all (clause_holds node) (includes clauses)

-- excluded: some exclude clause holds
abbrev pub excluded : List FilterClause → Node → Bool
excluded clauses node = list_any (clause_holds node) (excludes clauses)

-- the exclude clauses count: they go first, or there is no include clause
abbrev pub heeds_excludes : List FilterClause → Bool → Bool
heeds_excludes clauses exclude_first = exclude_first || no_clause (includes clauses)

-- selected: included, and not excluded where that counts
abbrev pub selected : List FilterClause → Bool → Node → Bool
selected clauses exclude_first node =
    included clauses node && not (heeds_excludes clauses exclude_first && excluded clauses node)

-- a clause without a pattern
abbrev pub is_plain_clause : FilterClause → Bool
is_plain_clause clause = list_all (λ parts. list_all is_plain_value parts) clause.alternatives
