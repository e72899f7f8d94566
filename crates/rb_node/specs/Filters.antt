-- What a text means as a filter, and why it is none.
use Rattle.std.specs.Prelude.{◌≡◌, ◌⊎◌, ◌≤◌, ◌+◌, ℕ, Bool, true, false, nat_le, List, length, map, Option, Some, None, Result, Ok, Err, IsOk, chars, if◌then◌else◌}
use Rattle.std.specs.List.{list_all}
use Rattle.rb_causes.specs.Words.{Split, words_in}
use Rattle.rb_causes.specs.declared.splitting.SplitErr.{SplitErr}
use Rattle.rb_causes.specs.declared.splitting.SplitErr.TheVariants.{OpenQuote}
use Rattle.rb_causes.specs.declared.splitting.SplitErr.TheVariants as split
use Rattle.rb_node.specs.Drafts.{drafts_of}
use Rattle.rb_node.specs.Values.{clause_of, drafted_values, are_filled, AreRead, IsFirstFaultOf}
use Rattle.rb_node.specs.Selection.{selected, is_plain_clause}
use Rattle.rb_node.specs.declared.node.Node.{Node}
use Rattle.rb_node.specs.declared.drafting.Draft.{Draft}
use Rattle.rb_node.specs.declared.drafting.Drafts.{Drafts}
use Rattle.rb_node.specs.declared.clause.FilterClause.{FilterClause}
use Rattle.rb_node.specs.declared.filter_err.FilterErr.{FilterErr}
use Rattle.rb_node.specs.declared.filter_err.FilterErr.TheVariants.{BadClause, EmptyValue, TooLong, NoMemory}

-- clauses as written, unless a word behind them is none
abbrev pub of_end : List Draft → Option ℕ → Result (List FilterClause) FilterErr
of_end drafts None = Ok (map clause_of drafts)
of_end drafts (Some at) = Err (BadClause at)

-- an empty value comes before a word behind it
abbrev pub of_drafts : Drafts → Result (List FilterClause) FilterErr
of_drafts d = if are_filled (drafted_values d.drafts) then of_end d.drafts d.bad else Err EmptyValue

abbrev pub of_words : Split → Result (List FilterClause) FilterErr
of_words (Ok words) = of_drafts (drafts_of words)
of_words (Err before) = Err (BadClause (before + 1))

-- how a refusal to split the text is told: words are numbered from 1
abbrev pub split_fault : SplitErr → FilterErr
split_fault (OpenQuote before) = BadClause (before + 1)
split_fault split.NoMemory = NoMemory

-- a filter's text is too short for more words before an open quote
abbrev pub IsCounted : SplitErr → Type 0
IsCounted (OpenQuote before) = before ≤ 1025
IsCounted split.NoMemory = Unit {0}

-- the clauses of a text, or its first fault but for patterns that are refused
abbrev pub filter_of : List ℕ → Result (List FilterClause) FilterErr
filter_of text =
    if nat_le (length text) 1024 then of_words (words_in (chars text)) else Err TooLong

-- the fault of the first word that is no clause
abbrev pub FailsAtWord : Option ℕ → FilterErr → Type 0
FailsAtWord None e = ⊥
FailsAtWord (Some at) e = e ≡ BadClause at

-- the first fault is that of a value, or where each value is filled and read that of the word
-- behind them
abbrev pub IsFaultOfDrafts : Drafts → FilterErr → Type 0
IsFaultOfDrafts d e =
    IsFirstFaultOf (drafted_values d.drafts) e
    ⊎ ((are_filled (drafted_values d.drafts) ≡ true) × AreRead (drafted_values d.drafts)
    × FailsAtWord d.bad e)

-- a quote that is not closed comes first
abbrev pub IsFaultOfWords : Split → FilterErr → Type 0
IsFaultOfWords (Ok words) e = IsFaultOfDrafts (drafts_of words) e
IsFaultOfWords (Err before) e = (e ≡ BadClause (before + 1)) ⊎ (e ≡ NoMemory)

-- each pattern of the words is read
abbrev pub AreReadIn : Split → Type 0
AreReadIn (Ok words) = AreRead (drafted_values (drafts_of words).drafts)
AreReadIn (Err before) = Unit {0}

-- each pattern of the text as a filter is read
abbrev pub ArePatternsRead : List ℕ → Type 0
ArePatternsRead text = AreReadIn (words_in (chars text))

-- a filter, if there is one, is read with each of its patterns
abbrev pub IsReadFilter : Option (List ℕ) → Type 0
IsReadFilter None = Unit {0}
IsReadFilter (Some text) = IsOk (filter_of text) × ArePatternsRead text

-- the first fault of a text of at most 1,024 bytes
abbrev pub IsFirstFaultIn : List ℕ → FilterErr → Type 0
IsFirstFaultIn text e = IsFaultOfWords (words_in (chars text)) e

abbrev pub selected_by : Result (List FilterClause) FilterErr → Bool → Node → Bool
selected_by (Ok clauses) exclude_first node = selected clauses exclude_first node
selected_by (Err e) exclude_first node = false

-- whether the filter of the text selects the node
abbrev pub selects : List ℕ → Bool → Node → Bool
selects text exclude_first node = selected_by (filter_of text) exclude_first node

abbrev pub are_plain_clauses : Result (List FilterClause) FilterErr → Bool
are_plain_clauses (Ok clauses) = list_all is_plain_clause clauses
are_plain_clauses (Err e) = false

-- no pattern stands in the filter
abbrev pub is_plain_filter : List ℕ → Bool
is_plain_filter text = are_plain_clauses (filter_of text)
