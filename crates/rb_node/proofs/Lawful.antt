-- The laws of selections and refusals.
use Rattle.std.proofs.Common.{◌≡◌, ◌≢◌, ◌≤◌, ◌+◌, ℕ, Bool, true, false, not, ◌&&◌, List, [], ◌∷◌, length, Option, Some, None, Ok, Err, chars, refl, sym, ap, subst, ◌∙◌, inl, inr, arith}
use Rattle.std.proofs.lemmas.Str.{chars-nil}
use Rattle.std.proofs.Math.Bool.{and-false}
use Rattle.std.proofs.lemmas.Bool.{and_parts}
use Rattle.rb_text.specs.Causes.{IsCause}
use Rattle.rb_text.specs.Matching.{IsSure}
use Rattle.rb_text.specs.declared.pattern_err.PatternErr.{PatternErr}
use Rattle.rb_text.specs.declared.pattern_err.PatternErr.TheVariants as refusal
use Rattle.rb_text.specs.declared.value.Value.{Value}
use Rattle.rb_text.specs.declared.value.Value.TheVariants.{Plain, Pattern}
use Rattle.rb_node.specs.declared.drafting.Drafts.{Drafts}
use Rattle.rb_node.specs.declared.filter_err.FilterErr.{FilterErr}
use Rattle.rb_node.specs.declared.filter_err.FilterErr.TheVariants.{BadClause, BadPattern, NoMemory}
use Rattle.rb_causes.specs.Words.{Split, words_in}
use Rattle.rb_node.specs.Drafts.{drafts_of}
use Rattle.rb_node.specs.Values.{drafted_values, IsValueFault, IsBad, IsFirstFaultOf}
use Rattle.rb_node.specs.Selection.{includes, no_clause, included, excluded}
use Rattle.rb_node.specs.Filters.{of_words, selected_by, FailsAtWord, IsFaultOfDrafts, IsFaultOfWords}
use Rattle.rb_node.specs.Laws.{EmptySelectsNothing, ExcludedIsNotSelected, IncludedIsSelected, SelectedIsIncluded, AreSure, AreSureIn, SureIsNotBad}

pub empty : EmptySelectsNothing
empty exclude_first node = ap (λ cs. selected_by (of_words (words_in cs)) exclude_first node)
    chars-nil

pub excluded_law : ExcludedIsNotSelected
excluded_law clauses node h = ap (λ x. included clauses node && not x) h
    ∙ and-false (included clauses node)

included_by : (a b c : Bool) → a ≡ true → b ≡ false → (a && not (b && c)) ≡ true
included_by true false c h g = refl
included_by true true c h g = let never : ⊥ = cc in absurd never
included_by false b c h g = let never : ⊥ = cc in absurd never

pub included_law : IncludedIsSelected
included_law clauses node some h =
    included_by (included clauses node) (no_clause (includes clauses))
    (excluded clauses node) h some

pub selected_law : SelectedIsIncluded
selected_law clauses exclude_first node h = (and_parts (included clauses node) _ h).0

-- a sure text is refused for want of memory alone
cause_sure : (text : List ℕ) (e : PatternErr) → IsSure text → IsCause text e → e ≢ refusal.NoMemory
    → ⊥
cause_sure text refusal.NoMemory sure cause ne = ne refl
cause_sure text refusal.BadPattern sure (short, inl unread) ne = sure.plain unread
cause_sure text refusal.BadPattern sure (short, inr unread) ne = sure.whole unread
cause_sure text refusal.TooLong sure cause ne = let low : length text ≤ 256 = sure.short in
    absurd (omega (arith, low, cause))
cause_sure text refusal.TooBig sure cause ne = let never : false ≡ true =
    sym cause.3 ∙ sure.light in cc

stops_sure : (vs : List Value) (e : FilterErr) (why : PatternErr) → AreSure vs → IsFirstFaultOf vs e
    → e ≡ BadPattern why → ⊥
stops_sure [] e why sure h is = let never : NoMemory ≡ BadPattern why = sym h ∙ is in cc
stops_sure (Plain text ∷ vs) e why sure (inl h) is = subst (IsValueFault (Plain text)) is h
stops_sure (Plain text ∷ vs) e why sure (inr h) is = stops_sure vs e why sure h.2 is
stops_sure (Pattern text ∷ vs) e why sure (inl h) is =
    let bad : IsBad why (Pattern text) = subst (IsValueFault (Pattern text)) is h in
    cause_sure text why sure.0 bad.0 bad.1
stops_sure (Pattern text ∷ vs) e why sure (inr h) is = stops_sure vs e why sure.1 h.2 is

ends_sure : (bad : Option ℕ) (e : FilterErr) (why : PatternErr) → FailsAtWord bad e
    → e ≡ BadPattern why → ⊥
ends_sure None e why h is = h
ends_sure (Some at) e why h is = let never : BadClause at ≡ BadPattern why = sym h ∙ is in cc

drafts_sure : (d : Drafts) (e : FilterErr) (why : PatternErr) → AreSure (drafted_values d.drafts)
    → IsFaultOfDrafts d e → e ≡ BadPattern why → ⊥
drafts_sure d e why sure (inl h) is = stops_sure (drafted_values d.drafts) e why sure h is
drafts_sure d e why sure (inr h) is = ends_sure d.bad e why h.2 is

words_sure : (w : Split) (e : FilterErr) (why : PatternErr) → AreSureIn w → IsFaultOfWords w e
    → e ≡ BadPattern why → ⊥
words_sure (Ok ws) e why sure h is = drafts_sure (drafts_of ws) e why sure h is
words_sure (Err before) e why sure (inl h) is =
    let never : BadClause (before + 1) ≡ BadPattern why = sym h ∙ is in cc
words_sure (Err before) e why sure (inr h) is =
    let never : NoMemory ≡ BadPattern why = sym h ∙ is in cc

pub sure_law : SureIsNotBad
sure_law text e why sure h is = words_sure (words_in (chars text)) e why sure h is
