-- What the pieces of a text are, and what expansion leaves as it is.
use Rattle.std.specs.Prelude.{◌≡◌, ℕ, Bool, true, not, ◌&&◌, List, [], ◌∷◌, ◌++◌, length, chars, is_some, IsUtf8}
use Rattle.std.specs.List.{list_all}
use Rattle.std.specs.Str.{encode_utf8_all}
use Rattle.rb_causes.specs.declared.items.Prop.{Prop}
use Rattle.rb_causes.specs.Texts.{is_name_sign}
use Rattle.rb_expand.specs.Pieces.{TextPiece, kept, named, opening, closing_of_style, behind_opening, is_replaced, pieces_of}
use Rattle.rb_expand.specs.Expanded.{expanded, words_expanded}
use Rattle.rb_expand.specs.declared.style.Style.{Style}

-- a name that is replaced: signs of names alone, and of one of the three kinds
abbrev pub is_replaced_name : List ℕ → Bool
is_replaced_name name = list_all is_name_sign name && is_replaced (encode_utf8_all name)

-- a name between its signs, in front of a text
abbrev pub in_front : Style → List ℕ → List ℕ → List ℕ
in_front style name rest = opening style ++ (name ++ closing_of_style style ∷ rest)

-- no such name stands at the front
abbrev pub BeginsNoName : Style → List ℕ → Type 0
BeginsNoName style text =
    (name rest : List ℕ) → is_replaced_name name ≡ true → text ≡ in_front style name rest → ⊥

-- A text is cut into pieces from left to right: a name between its signs is one piece, and any
-- other character too.
pub data CutIntoPieces (style : Style) : List ℕ → List TextPiece → Type 0 where
  nothing : CutIntoPieces style [] []
  name : {rest : List ℕ} {pieces : List TextPiece} (found : List ℕ) →
      is_replaced_name found ≡ true → CutIntoPieces style rest pieces →
      CutIntoPieces style (in_front style found rest) (named found ∷ pieces)
  character : {rest : List ℕ} {pieces : List TextPiece} (c : ℕ) →
      BeginsNoName style (c ∷ rest) → CutIntoPieces style rest pieces →
      CutIntoPieces style (c ∷ rest) (kept c ∷ pieces)

-- the pieces of a text are cut out of it so
abbrev pub PiecesAreCut : Type 0
PiecesAreCut = (style : Style) (text : List ℕ) → CutIntoPieces style text (pieces_of style text)

-- and there is one way to cut it
abbrev pub OneCut : Type 0
OneCut =
    (style : Style) (text : List ℕ) (pieces : List TextPiece) → CutIntoPieces style text pieces →
    pieces_of style text ≡ pieces

-- the signs that open a name stand nowhere in the text
abbrev pub opens_nowhere : Style → List ℕ → Bool
opens_nowhere style [] = true
opens_nowhere style (c ∷ cs) =
    not (is_some (behind_opening style (c ∷ cs))) && opens_nowhere style cs

-- such a text stays as it is
abbrev pub OthersStay : Type 0
OthersStay =
    (style : Style) (names : List Prop) (text : List ℕ) → IsUtf8 text →
    opens_nowhere style (chars text) ≡ true →
    expanded style names text ≡ text

-- as many words as before, whatever is put in
abbrev pub WordsStayApart : Type 0
WordsStayApart =
    (names : List Prop) (words : List (List ℕ)) → length (words_expanded names words) ≡ length words
