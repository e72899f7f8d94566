-- Texts whose names are replaced by values.
use Rattle.std.specs.Prelude.{ℕ, List, [], map, find, bytes_eq, chars, encode_utf8, option_map, unwrap_or}
use Rattle.std.specs.List.{flat_map}
use Rattle.std.specs.Str.{encode_utf8_all}
use Rattle.rb_causes.specs.declared.items.Prop.{Prop}
use Rattle.rb_expand.specs.Pieces.{TextPiece, kept, named, pieces_of}
use Rattle.rb_expand.specs.declared.style.Style.{Style}
use Rattle.rb_expand.specs.declared.style.Style.TheVariants.{Word, Script}

-- the text that is listed under a name, or nothing where none is
abbrev pub listed_text : List Prop → List ℕ → List ℕ
listed_text names wanted =
    unwrap_or (option_map (λ p. p.text) (find (λ p. bytes_eq p.key wanted) names)) []

-- what a piece becomes
abbrev pub expanded_piece : List Prop → TextPiece → List ℕ
expanded_piece names (kept c) = encode_utf8 c
expanded_piece names (named name) = listed_text names (encode_utf8_all name)

abbrev pub pieces_text : List Prop → List TextPiece → List ℕ
pieces_text names pieces = flat_map (expanded_piece names) pieces

-- a text with the values of its names; what is put in is not read again
abbrev pub expanded : Style → List Prop → List ℕ → List ℕ
expanded style names text = pieces_text names (pieces_of style (chars text))

-- a word
abbrev pub word_expanded : List Prop → List ℕ → List ℕ
word_expanded names word = expanded Word names word

-- the words of a command, each expanded by itself
abbrev pub words_expanded : List Prop → List (List ℕ) → List (List ℕ)
words_expanded names words = map (word_expanded names) words

-- a script
abbrev pub script_expanded : List Prop → List ℕ → List ℕ
script_expanded names text = expanded Script names text
