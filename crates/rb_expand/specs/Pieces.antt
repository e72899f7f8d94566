-- Texts as pieces: characters that are kept, and names that are replaced.
use Rattle.std.specs.Prelude.{ℕ, ◌+◌, zero, suc, Bool, false, ◌||◌, nat_eq, List, [], ◌∷◌, length, take, codes, slice_get, Option, Some, None, if◌then◌else◌}
use Rattle.std.specs.List.{starts_with}
use Rattle.std.specs.Str.{encode_utf8_all}
use Rattle.rb_causes.specs.Signs.{dollar, at_sign, opening_brace, closing_brace}
use Rattle.rb_causes.specs.Texts.{is_name_sign}
use Rattle.rb_expand.specs.declared.style.Style.{Style}
use Rattle.rb_expand.specs.declared.style.Style.TheVariants.{Word, Script}

-- a character that stands for itself, or a name for which a value is put in
pub data TextPiece : Type 0 where
  kept : ℕ → TextPiece
  named : List ℕ → TextPiece

-- the signs that open a name, and the one that closes it
abbrev pub opening : Style → List ℕ
opening Word = dollar ∷ opening_brace ∷ []
opening Script = at_sign ∷ []

abbrev pub closing_of_style : Style → ℕ
closing_of_style Word = closing_brace
closing_of_style Script = at_sign

-- what stands behind a sign at the front of a text
abbrev pub behind_sign : ℕ → List ℕ → Option (List ℕ)
behind_sign sign [] = None
behind_sign sign (c ∷ cs) = if nat_eq c sign then Some cs else None

abbrev pub then_behind : ℕ → Option (List ℕ) → Option (List ℕ)
then_behind sign None = None
then_behind sign (Some text) = behind_sign sign text

-- what stands behind the signs that open a name
abbrev pub behind_opening : Style → List ℕ → Option (List ℕ)
behind_opening Word text = then_behind opening_brace (behind_sign dollar text)
behind_opening Script text = behind_sign at_sign text

-- how many such signs stand at the front
abbrev pub name_len : List ℕ → ℕ
name_len [] = 0
name_len (c ∷ cs) = if is_name_sign c then name_len cs + 1 else 0

-- the names that are replaced, by their text: those of options, of nodes and of jobs
abbrev pub is_replaced : List ℕ → Bool
is_replaced text =
    starts_with nat_eq text (codes "option.")
    || (starts_with nat_eq text (codes "node.") || starts_with nat_eq text (codes "job."))

-- this sign stands at the place
abbrev pub is_sign : ℕ → Option ℕ → Bool
is_sign sign None = false
is_sign sign (Some c) = nat_eq c sign

-- the name in front, if the closing sign stands behind it
abbrev pub closed_name : ℕ → List ℕ → Option (List ℕ)
closed_name sign rest =
    if is_sign sign (slice_get rest (name_len rest)) then Some (take (name_len rest) rest) else None

abbrev pub name_behind : Style → Option (List ℕ) → Option (List ℕ)
name_behind style None = None
name_behind style (Some rest) = closed_name (closing_of_style style) rest

-- the name between its signs at the front of a text, whatever it is
abbrev pub any_name_at : Style → List ℕ → Option (List ℕ)
any_name_at style text = name_behind style (behind_opening style text)

-- a name, if it is replaced
abbrev pub if_replaced : Option (List ℕ) → Option (List ℕ)
if_replaced None = None
if_replaced (Some name) = if is_replaced (encode_utf8_all name) then Some name else None

-- the replaced name at the front of a text
abbrev pub name_at : Style → List ℕ → Option (List ℕ)
name_at style text = if_replaced (any_name_at style text)

-- the piece at the front of a text that begins with this character, and how many more characters it
-- takes
abbrev pub piece_by : ℕ → Option (List ℕ) → TextPiece
piece_by c None = kept c
piece_by c (Some name) = named name

abbrev pub passed_by : Style → Option (List ℕ) → ℕ
passed_by style None = 0
passed_by style (Some name) = length (opening style) + length name

-- the pieces of a text from left to right, behind so many characters of a name that are passed over
abbrev pub pieces_behind : Style → ℕ → List ℕ → List TextPiece
pieces_behind style passed [] = []
pieces_behind style (suc passed) (c ∷ cs) = pieces_behind style passed cs
pieces_behind style zero (c ∷ cs) =
    piece_by c (name_at style (c ∷ cs))
    ∷ pieces_behind style (passed_by style (name_at style (c ∷ cs))) cs

abbrev pub pieces_of : Style → List ℕ → List TextPiece
pieces_of style text = pieces_behind style zero text
