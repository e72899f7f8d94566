-- The values of a clause, and how reading them ends.
use Rattle.std.specs.Prelude.{◌≡◌, ◌≢◌, ◌⊎◌, ℕ, ◌-◌, Bool, true, false, not, ◌&&◌, nat_eq, nat_le, List, [], ◌∷◌, ◌++◌, length, map, take, drop, get_or, if◌then◌else◌}
use Rattle.std.specs.List.{list_all}
use Rattle.rb_causes.specs.Signs.{comma, plus, slash}
use Rattle.rb_causes.specs.Texts.{is_empty, pieces, is_tags}
use Rattle.rb_text.specs.Causes.{IsCause}
use Rattle.rb_text.specs.Matching.{IsPatternText}
use Rattle.rb_text.specs.Values.{value_of}
use Rattle.rb_text.specs.declared.pattern_err.PatternErr.{PatternErr}
use Rattle.rb_text.specs.declared.pattern_err.PatternErr.TheVariants as refusal
use Rattle.rb_text.specs.declared.value.Value.{Value}
use Rattle.rb_text.specs.declared.value.Value.TheVariants.{Plain, Pattern}
use Rattle.rb_node.specs.Drafts.{spelled}
use Rattle.rb_node.specs.declared.drafting.Draft.{Draft}
use Rattle.rb_node.specs.declared.clause.FilterClause.{FilterClause}
use Rattle.rb_node.specs.declared.filter_err.FilterErr.{FilterErr}
use Rattle.rb_node.specs.declared.filter_err.FilterErr.TheVariants.{BadClause, BadPattern, EmptyValue, TooLong, NoMemory}

-- the parts of an alternative: for the tags those between plus signs, else the whole
abbrev pub parts_of : List ℕ → List ℕ → List (List ℕ)
parts_of attr alternative =
    if is_tags attr then pieces (λ c. nat_eq c plus) alternative else alternative ∷ []

-- between slashes
abbrev pub is_slashed : List ℕ → Bool
is_slashed value =
    nat_le 2 (length value)
    && (nat_eq (get_or value 0 0) slash && nat_eq (get_or value (length value - 1) 0) slash)

-- what stands between them
abbrev pub between_slashes : List ℕ → List ℕ
between_slashes value = take (length value - 2) (drop 1 value)

abbrev pub part_value : List ℕ → Value
part_value part = value_of (spelled part)

-- the values of an alternative
abbrev pub alternative_values : List ℕ → List ℕ → List Value
alternative_values attr alternative = map part_value (parts_of attr alternative)

-- the alternatives of a value, each with its parts: between slashes it is one pattern, else it is
-- parted at commas
abbrev pub alternatives_of : List ℕ → List ℕ → List (List Value)
alternatives_of attr value =
    if is_slashed value then (Pattern (spelled (between_slashes value)) ∷ []) ∷ []
    else map (alternative_values attr) (pieces (λ c. nat_eq c comma) value)

-- the clause of a draft
abbrev pub clause_of : Draft → FilterClause
clause_of d = record {
  exclude = d.exclude;
  attr = d.attr;
  alternatives = alternatives_of d.attr d.value;
}

-- one list behind the other
abbrev pub in_order : List (List Value) → List Value
in_order [] = []
in_order (vs ∷ more) = vs ++ in_order more

-- the values of a draft as written
abbrev pub draft_values : Draft → List Value
draft_values d = in_order (alternatives_of d.attr d.value)

-- the values of clauses as written
abbrev pub drafted_values : List Draft → List Value
drafted_values drafts = in_order (map draft_values drafts)

-- no empty part
abbrev pub is_filled : Value → Bool
is_filled (Plain text) = not (is_empty text)
is_filled (Pattern text) = true

abbrev pub are_filled : List Value → Bool
are_filled values = list_all is_filled values

-- the pattern is read in both its forms
abbrev pub IsRead : Value → Type 0
IsRead (Plain text) = Unit {0}
IsRead (Pattern text) = IsPatternText text

-- each pattern is
abbrev pub AreRead : List Value → Type 0
AreRead [] = Unit {0}
AreRead (v ∷ vs) = IsRead v × AreRead vs

-- it is a pattern that is refused for this cause, which is not want of memory
abbrev pub IsBad : PatternErr → Value → Type 0
IsBad e (Plain text) = ⊥
IsBad e (Pattern text) = IsCause text e × (e ≢ refusal.NoMemory)

-- what a fault tells of a value: it is empty, or it is a pattern that is refused, and why
abbrev pub IsValueFault : Value → FilterErr → Type 0
IsValueFault v EmptyValue = is_filled v ≡ false
IsValueFault v (BadPattern e) = IsBad e v
IsValueFault v NoMemory = Unit {0}
IsValueFault v TooLong = ⊥
IsValueFault v (BadClause at) = ⊥

-- it tells of the first faulty value as written: none before it is empty or a pattern that is not
-- read
abbrev pub IsFirstFaultOf : List Value → FilterErr → Type 0
IsFirstFaultOf [] e = e ≡ NoMemory
IsFirstFaultOf (v ∷ vs) e =
    IsValueFault v e ⊎ ((is_filled v ≡ true) × IsRead v × IsFirstFaultOf vs e)

-- how a refusal by rb_text is told
abbrev pub told_as : PatternErr → FilterErr
told_as refusal.NoMemory = NoMemory
told_as refusal.BadPattern = BadPattern refusal.BadPattern
told_as refusal.TooLong = BadPattern refusal.TooLong
told_as refusal.TooBig = BadPattern refusal.TooBig

-- characters in front of the first piece
abbrev pub onto_piece : List ℕ → List (List ℕ) → List (List ℕ)
onto_piece cs [] = cs ∷ []
onto_piece cs (p ∷ ps) = (cs ++ p) ∷ ps
