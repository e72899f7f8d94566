-- How words are written: what a text may be laid out of, and what that says.
use Rattle.std.specs.Prelude.{◌≡◌, ℕ, Bool, true, not, ◌||◌, nat_eq, List, [], ◌∷◌, ◌++◌, map, Ok, Err}
use Rattle.std.specs.List.{list_all, flat_map}
use Rattle.rb_causes.specs.Signs.{single_quote, double_quote, backslash}
use Rattle.rb_causes.specs.Words.{Split, is_quote, is_escapable, bare, quoted, letters_onto, word_ended, words_in}
use Rattle.rb_causes.specs.declared.letter.Letter.{Letter}
use Rattle.rb_causes.specs.Texts.{is_trimmed_off}

-- What stands between double quotes: a plain character, one with a backslash that escapes it, or
-- one with a backslash that escapes nothing.
pub data Inner : Type 0 where
  plain : ℕ → Inner
  escaped : ℕ → Inner
  unescaped : ℕ → Inner

abbrev pub inner_text : Inner → List ℕ
inner_text (plain c) = c ∷ []
inner_text (escaped c) = backslash ∷ c ∷ []
inner_text (unescaped c) = backslash ∷ c ∷ []

-- a backslash that escapes nothing stands in the word
abbrev pub inner_means : Inner → List Letter
inner_means (plain c) = quoted c ∷ []
inner_means (escaped c) = quoted c ∷ []
inner_means (unescaped c) = quoted backslash ∷ quoted c ∷ []

-- a double quote and a backslash are escaped, and nothing else is
abbrev pub is_inner : Inner → Bool
is_inner (plain c) = not (is_escapable c)
is_inner (escaped c) = is_escapable c
is_inner (unescaped c) = not (is_escapable c)

abbrev pub no_single_quote : List ℕ → Bool
no_single_quote text = list_all (λ c. not (nat_eq c single_quote)) text

-- a piece of a word: a bare character, a text between single quotes, or what stands between double
-- quotes
pub data Piece : Type 0 where
  one : ℕ → Piece
  single : List ℕ → Piece
  double : List Inner → Piece

abbrev pub piece_text : Piece → List ℕ
piece_text (one c) = c ∷ []
piece_text (single text) = single_quote ∷ (text ++ single_quote ∷ [])
piece_text (double inners) = double_quote ∷ (flat_map inner_text inners ++ double_quote ∷ [])

abbrev pub piece_means : Piece → List Letter
piece_means (one c) = bare c ∷ []
piece_means (single text) = map quoted text
piece_means (double inners) = flat_map inner_means inners

-- a bare character is no blank and no quote, and a text between single quotes has none
abbrev pub is_piece : Piece → Bool
is_piece (one c) = not (is_trimmed_off c || is_quote c)
is_piece (single text) = no_single_quote text
is_piece (double inners) = list_all is_inner inners

-- what a quote opens and nothing closes; behind a double quote a backslash may be the last
-- character
pub data Tail : Type 0 where
  single_tail : List ℕ → Tail
  double_tail : List Inner → Tail
  cut_tail : List Inner → Tail

abbrev pub tail_text : Tail → List ℕ
tail_text (single_tail text) = single_quote ∷ text
tail_text (double_tail inners) = double_quote ∷ flat_map inner_text inners
tail_text (cut_tail inners) = double_quote ∷ (flat_map inner_text inners ++ backslash ∷ [])

abbrev pub is_tail : Tail → Bool
is_tail (single_tail text) = no_single_quote text
is_tail (double_tail inners) = list_all is_inner inners
is_tail (cut_tail inners) = list_all is_inner inners

mutual
  -- what a text says, outside of words
  pub data SaysWords : List ℕ → Split → Type 0 where
    -- nothing, and no word
    nothing : SaysWords [] (Ok [])
    -- a blank counts for nothing
    blank : {cs : List ℕ} {split : Split} (c : ℕ) → is_trimmed_off c ≡ true → SaysWords cs split →
        SaysWords (c ∷ cs) split
    -- a piece begins a word
    word : {cs : List ℕ} {split : Split} (piece : Piece) → is_piece piece ≡ true → GoesOn cs split →
        SaysWords (piece_text piece ++ cs) (letters_onto (piece_means piece) split)
    -- a quote begins one and is not closed
    open_quote : (tail : Tail) → is_tail tail ≡ true → SaysWords (tail_text tail) (Err 0)

  -- what it says behind a piece of a word
  pub data GoesOn : List ℕ → Split → Type 0 where
    -- the word ends with the text
    word_end : GoesOn [] (Ok ([] ∷ []))
    -- a blank ends the word
    gap : {cs : List ℕ} {split : Split} (c : ℕ) → is_trimmed_off c ≡ true → SaysWords cs split →
        GoesOn (c ∷ cs) (word_ended split)
    -- another piece belongs to it
    more : {cs : List ℕ} {split : Split} (piece : Piece) → is_piece piece ≡ true → GoesOn cs split →
        GoesOn (piece_text piece ++ cs) (letters_onto (piece_means piece) split)
    -- a quote in it is not closed
    open_in_word : (tail : Tail) → is_tail tail ≡ true → GoesOn (tail_text tail) (Err 0)

-- Each text is laid out so, and says the words that are read in it, or that a quote is open behind
-- so many words.
abbrev pub EachTextIsLaid : Type 0
EachTextIsLaid = (cs : List ℕ) → SaysWords cs (words_in cs)

-- It says nothing else: so no text has two readings, nor words and an open quote.
abbrev pub OneReading : Type 0
OneReading = (cs : List ℕ) (split : Split) → SaysWords cs split → words_in cs ≡ split

-- a text that has no single quote is one word between two of them
abbrev pub QuotedIsOneWord : Type 0
QuotedIsOneWord = (cs : List ℕ) → no_single_quote cs ≡ true →
    words_in (single_quote ∷ (cs ++ single_quote ∷ [])) ≡ Ok (map quoted cs ∷ [])
