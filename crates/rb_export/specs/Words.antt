-- Words as one text, from which they are read again.
use Rattle.std.specs.Prelude.{ℕ, List, [], ◌∷◌, ◌++◌, map, chars, if◌then◌else◌}
use Rattle.std.specs.List.{flat_map}
use Rattle.std.specs.Str.{encode_utf8_all}
use Rattle.rb_causes.specs.Signs.{space, double_quote, backslash, hyphen}
use Rattle.rb_causes.specs.Texts.{joined}
use Rattle.rb_causes.specs.Words.{is_escapable}
use Rattle.rb_causes.specs.declared.items.Prop.{Prop}

-- a double quote and a backslash stand behind a backslash
abbrev pub escaped : ℕ → List ℕ
escaped c = if is_escapable c then backslash ∷ c ∷ [] else c ∷ []

-- the characters of a word in double quotes
abbrev pub quoted_chars : List ℕ → List ℕ
quoted_chars cs = double_quote ∷ flat_map escaped cs ++ double_quote ∷ []

abbrev pub word_quoted : List ℕ → List ℕ
word_quoted word = encode_utf8_all (quoted_chars (chars word))

-- a word behind another
abbrev pub word_behind : List ℕ → List ℕ
word_behind word = space ∷ word_quoted word

-- words in double quotes, parted by one blank
abbrev pub words_text : List (List ℕ) → List ℕ
words_text words = joined space (map word_quoted words)

-- an option's name with its dash
abbrev pub dashed : List ℕ → List ℕ
dashed name = hyphen ∷ name

-- an option's name with its dash, and its value
abbrev pub pair_words : Prop → List (List ℕ)
pair_words pair = dashed pair.key ∷ pair.text ∷ []

abbrev pub pairs_text : List Prop → List ℕ
pairs_text pairs = words_text (flat_map pair_words pairs)
