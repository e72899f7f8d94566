-- The words of a text: runs of bare characters and of quoted texts, parted by blanks.
use Rattle.std.specs.Prelude.{◌≡◌, ℕ, ◌+◌, Bool, true, false, ◌||◌, nat_eq, List, [], ◌∷◌, map, chars, Option, Some, None, Result, Ok, Err, if◌then◌else◌}
use Rattle.std.specs.Str.{encode_utf8_all}
use Rattle.rb_causes.specs.Signs.{single_quote, double_quote, backslash}
use Rattle.rb_causes.specs.Texts.{is_trimmed_off}
use Rattle.rb_causes.specs.declared.letter.Letter.{Letter}
use Rattle.rb_causes.specs.declared.splitting.SplitErr.{SplitErr}
use Rattle.rb_causes.specs.declared.splitting.SplitErr.TheVariants.{OpenQuote, NoMemory}
use Rattle.rb_causes.specs.declared.splitting.WordPlace.{WordPlace}
use Rattle.rb_causes.specs.declared.splitting.WordPlace.TheVariants.{Outside, Bare, Single, Double, Escape}

-- a single or a double quote
abbrev pub is_quote : ℕ → Bool
is_quote c = nat_eq c single_quote || nat_eq c double_quote

-- what a backslash between double quotes makes ordinary: a double quote or a backslash
abbrev pub is_escapable : ℕ → Bool
is_escapable c = nat_eq c double_quote || nat_eq c backslash

-- a bare character, and one that a quote holds
abbrev pub bare : ℕ → Letter
bare c = record { sign = c; is_quoted = false }

abbrev pub quoted : ℕ → Letter
quoted c = record { sign = c; is_quoted = true }

-- where a character leads that no quote holds
abbrev pub opened : ℕ → WordPlace
opened c =
    if is_trimmed_off c then Outside
    else (if nat_eq c single_quote then Single
    else (if nat_eq c double_quote then Double else Bare))

-- where a character leads: a quote leads to its own kind and back, and a backslash counts between
-- double quotes alone
abbrev pub next : WordPlace → ℕ → WordPlace
next Outside c = opened c
next Bare c = opened c
next Single c = if nat_eq c single_quote then Bare else Single
next Double c =
    if nat_eq c double_quote then Bare else (if nat_eq c backslash then Escape else Double)
next Escape c = Double

-- the character ends the word
abbrev pub ends_word : WordPlace → ℕ → Bool
ends_word Bare c = is_trimmed_off c
ends_word Outside c = false
ends_word Single c = false
ends_word Double c = false
ends_word Escape c = false

abbrev pub kept_bare : ℕ → List Letter
kept_bare c = if is_trimmed_off c || is_quote c then [] else bare c ∷ []

-- What stands in the word of it: all but blanks and quotes that count, with the backslash before it
-- that was no escape.
abbrev pub kept : WordPlace → ℕ → List Letter
kept Outside c = kept_bare c
kept Bare c = kept_bare c
kept Single c = if nat_eq c single_quote then [] else quoted c ∷ []
kept Double c = if is_escapable c then [] else quoted c ∷ []
kept Escape c = if is_escapable c then quoted c ∷ [] else quoted backslash ∷ quoted c ∷ []

-- words, or how many stand before the one whose quote is not closed
abbrev pub Split : Type 0
Split = Result (List (List Letter)) ℕ

-- a letter of the word in front of what is left of it
abbrev pub onto_first : Letter → List (List Letter) → List (List Letter)
onto_first l [] = (l ∷ []) ∷ []
onto_first l (w ∷ ws) = (l ∷ w) ∷ ws

abbrev pub onto_one : Letter → Split → Split
onto_one l (Ok ws) = Ok (onto_first l ws)
onto_one l (Err before) = Err before

abbrev pub letters_onto : List Letter → Split → Split
letters_onto [] words = words
letters_onto (l ∷ ls) words = onto_one l (letters_onto ls words)

-- a word that ends here stands before the words behind it
abbrev pub word_ended : Split → Split
word_ended (Ok ws) = Ok ([] ∷ ws)
word_ended (Err before) = Err (before + 1)

-- what a character makes of the words behind it
abbrev pub char_put : WordPlace → ℕ → Split → Split
char_put place c words =
    if ends_word place c then word_ended words else letters_onto (kept place c) words

-- the end of the text: an empty rest of a word, or a quote that is not closed
abbrev pub at_end : WordPlace → Split
at_end Outside = Ok []
at_end Bare = Ok ([] ∷ [])
at_end Single = Err 0
at_end Double = Err 0
at_end Escape = Err 0

-- the words from a place in the text on, with the rest of the word at hand as the first
abbrev pub words_from : WordPlace → List ℕ → Split
words_from place [] = at_end place
words_from place (c ∷ cs) = char_put place c (words_from (next place c) cs)

-- the words of these characters, each with its letters
abbrev pub words_in : List ℕ → Split
words_in cs = words_from Outside cs

-- the refusal tells of the word whose quote is not closed; want of memory tells of nothing
abbrev pub IsOpenBehind : Split → SplitErr → Type 0
IsOpenBehind words (OpenQuote before) = words ≡ Err before
IsOpenBehind words NoMemory = Unit {0}

-- the text that a word stands for
abbrev pub word_text : List Letter → List ℕ
word_text word = encode_utf8_all (map (λ l. l.sign) word)

abbrev pub texts_of : Split → Option (List (List ℕ))
texts_of (Ok words) = Some (map word_text words)
texts_of (Err before) = None

-- the words of a text, and none where a quote is not closed
abbrev pub words_of : List ℕ → Option (List (List ℕ))
words_of text = texts_of (words_in (chars text))
