-- Pairs of a name and a value that are written as words.
use Rattle.std.specs.Prelude.{◌≡◌, ℕ, ◌+◌, not, nat_eq, ◌&&◌, List, [], ◌∷◌, ◌++◌, Option, Some, None, Result, Ok, Err, if◌then◌else◌}
use Rattle.rb_causes.specs.Signs.{hyphen}
use Rattle.rb_causes.specs.Texts.{is_empty}
use Rattle.rb_causes.specs.Words.{words_of}
use Rattle.rb_causes.specs.declared.items.Prop.{Prop}
use Rattle.rb_option.specs.declared.option_err.ArgsErr.{ArgsErr}
use Rattle.rb_option.specs.declared.option_err.ArgsErr.TheVariants.{OpenQuote, NotAnOption, NoValue, NoMemory}

-- the name that a word gives: what stands behind its dash, if it has one and something stands there
abbrev pub dashed_name : List ℕ → Option (List ℕ)
dashed_name [] = None
dashed_name (b ∷ bs) = if nat_eq b hyphen && not (is_empty bs) then Some bs else None

-- a pair in front of those that follow, unless one of these is refused
abbrev pub pair_onto : List ℕ → List ℕ → Result (List Prop) ArgsErr → Result (List Prop) ArgsErr
pair_onto name value (Ok pairs) = Ok (record { key = name; text = value } ∷ pairs)
pair_onto name value (Err e) = Err e

-- a word in a name's place that has no word behind it
abbrev pub lone : ℕ → Option (List ℕ) → Result (List Prop) ArgsErr
lone at None = Err (NotAnOption at)
lone at (Some name) = Err (NoValue name)

-- a word in a name's place, with its value and what the words behind it give
abbrev pub paired :
    ℕ → Option (List ℕ) → List ℕ → Result (List Prop) ArgsErr → Result (List Prop) ArgsErr
paired at None value rest = Err (NotAnOption at)
paired at (Some name) value rest = pair_onto name value rest

-- the pairs of words, the first of which has this number
abbrev pub pairs_from : ℕ → List (List ℕ) → Result (List Prop) ArgsErr
pairs_from at [] = Ok []
pairs_from at (word ∷ []) = lone at (dashed_name word)
pairs_from at (word ∷ value ∷ words) =
    paired at (dashed_name word) value (pairs_from (at + 2) words)

abbrev pub pairs_in : Option (List (List ℕ)) → Result (List Prop) ArgsErr
pairs_in None = Err OpenQuote
pairs_in (Some words) = pairs_from 1 words

-- the pairs of a text, or its first fault
abbrev pub args_of : List ℕ → Result (List Prop) ArgsErr
args_of text = pairs_in (words_of text)

-- a refusal tells the fault, unless memory was wanting
abbrev pub IsArgsFault : Result (List Prop) ArgsErr → ArgsErr → Type 0
IsArgsFault args OpenQuote = args ≡ Err OpenQuote
IsArgsFault args (NotAnOption at) = args ≡ Err (NotAnOption at)
IsArgsFault args (NoValue name) = args ≡ Err (NoValue name)
IsArgsFault args NoMemory = Unit {0}

-- the pair of a word that gives a name with the word behind it
abbrev pub IsPair : List ℕ → List ℕ → Prop → Type 0
IsPair word value pair = (dashed_name word ≡ Some pair.key) × (pair.text ≡ value)

-- the word of this number gives no name, unless memory was wanting
abbrev pub IsNoPair : ℕ → List ℕ → ArgsErr → Type 0
IsNoPair at word (NotAnOption n) = (dashed_name word ≡ None) × (n ≡ at)
IsNoPair at word NoMemory = Unit {0}
IsNoPair at word OpenQuote = ⊥
IsNoPair at word (NoValue name) = ⊥

-- pairs in front of those that follow
abbrev pub pairs_onto : List Prop → Result (List Prop) ArgsErr → Result (List Prop) ArgsErr
pairs_onto pairs (Ok more) = Ok (pairs ++ more)
pairs_onto pairs (Err e) = Err e
