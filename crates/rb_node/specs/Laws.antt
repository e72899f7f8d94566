-- What a selection means, and what a refusal does.
use Rattle.std.specs.Prelude.{◌≡◌, ◌≢◌, ℕ, Bool, true, false, List, [], ◌∷◌, Ok, Err, chars}
use Rattle.rb_text.specs.Matching.{IsSure}
use Rattle.rb_text.specs.declared.pattern_err.PatternErr.{PatternErr}
use Rattle.rb_text.specs.declared.value.Value.{Value}
use Rattle.rb_text.specs.declared.value.Value.TheVariants.{Plain, Pattern}
use Rattle.rb_node.specs.declared.node.Node.{Node}
use Rattle.rb_node.specs.declared.clause.FilterClause.{FilterClause}
use Rattle.rb_node.specs.declared.filter_err.FilterErr.{FilterErr}
use Rattle.rb_node.specs.declared.filter_err.FilterErr.TheVariants.{BadPattern}
use Rattle.rb_causes.specs.Words.{Split, words_in}
use Rattle.rb_node.specs.Drafts.{drafts_of}
use Rattle.rb_node.specs.Values.{drafted_values}
use Rattle.rb_node.specs.Selection.{includes, no_clause, included, excluded, selected}
use Rattle.rb_node.specs.Filters.{selects, IsFirstFaultIn}

-- the empty filter selects nothing
abbrev pub EmptySelectsNothing : Type 0
EmptySelectsNothing = (exclude_first : Bool) (node : Node) → selects [] exclude_first node ≡ false

-- where exclude clauses go first, an excluded node is not selected
abbrev pub ExcludedIsNotSelected : Type 0
ExcludedIsNotSelected =
    (clauses : List FilterClause) (node : Node) → excluded clauses node ≡ true →
    selected clauses true node ≡ false

-- where they do not and there is an include clause, an included node is selected
abbrev pub IncludedIsSelected : Type 0
IncludedIsSelected =
    (clauses : List FilterClause) (node : Node) → no_clause (includes clauses) ≡ false →
    included clauses node ≡ true → selected clauses false node ≡ true

-- only what is included is selected
abbrev pub SelectedIsIncluded : Type 0
SelectedIsIncluded =
    (clauses : List FilterClause) (exclude_first : Bool) (node : Node) →
    selected clauses exclude_first node ≡ true → included clauses node ≡ true

-- each pattern is refused for want of memory alone
abbrev pub AreSure : List Value → Type 0
AreSure [] = Unit {0}
AreSure (Plain text ∷ vs) = AreSure vs
AreSure (Pattern text ∷ vs) = IsSure text × AreSure vs

abbrev pub AreSureIn : Split → Type 0
AreSureIn (Ok words) = AreSure (drafted_values (drafts_of words).drafts)
AreSureIn (Err before) = Unit {0}

-- so is a filter whose patterns are such
abbrev pub SureIsNotBad : Type 0
SureIsNotBad =
    (text : List ℕ) (e : FilterErr) (why : PatternErr) → AreSureIn (words_in (chars text)) →
    IsFirstFaultIn text e → e ≢ BadPattern why
