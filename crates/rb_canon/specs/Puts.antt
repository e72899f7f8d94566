-- What the calls that write a text piece by piece do.
use Rattle.std.specs.Prelude.{◌≡◌, ◌≤◌, ◌<◌, ◌+◌, ℕ, Bool, true, false, codes, replicate, List, [], ◌∷◌, ◌++◌, length, Result, Err, OnOk}
use Rattle.rb_causes.specs.Signs.{line_feed, space, hyphen, colon}
use Rattle.rb_canon.specs.declared.canon_err.CanonErr.{CanonErr}
use Rattle.rb_canon.specs.declared.canon_err.CanonErr.TheVariants.{TooLarge}
use Rattle.rb_canon.specs.Values.{CanonKey, CanonTree, Canons, Fields}
use Rattle.rb_canon.specs.Layout.{in_quotes, key_shown, Line, lines_bytes, lines_of, item_lines, field_lines, lines_behind, canon_docs_of, most_bytes}

-- A piece was added to a text, which has not become too large; or it would have; or memory ran out.
pub record Puts (piece before after : List ℕ) (result : Result (Unit {0}) CanonErr) : Type 0 where
  pub ok : OnOk result (after ≡ before ++ piece)
  pub short : OnOk result (length before ≤ most_bytes → length after ≤ most_bytes)
  pub large : result ≡ Err TooLarge → most_bytes < length before + length piece

-- the bytes of lines of which the first begins with so many blanks, whatever its indent
abbrev pub led : ℕ → List Line → List ℕ
led blanks [] = []
led blanks (first ∷ lines) =
    replicate blanks space ++ first.text ++ line_feed ∷ lines_bytes lines

-- ---- the pieces of a text

-- a value behind the blanks of its first line
unfoldable pub value_piece : ℕ → CanonTree → List ℕ
value_piece indent value = led 0 (lines_of indent value)

-- the items of a list, and the fields of a map, the first behind so many blanks
unfoldable pub items_piece : ℕ → ℕ → Canons → List ℕ
items_piece blanks indent values = led blanks (item_lines indent values)

unfoldable pub fields_piece : ℕ → ℕ → Fields → List ℕ
fields_piece blanks indent fields = led blanks (field_lines indent fields)

-- a key with its colon, and what stands behind the colon
unfoldable pub key_piece : CanonKey → List ℕ
key_piece key = key_shown key ++ colon ∷ []

unfoldable pub behind_piece : ℕ → CanonTree → List ℕ
behind_piece indent value = led 0 (lines_behind indent [] value)

-- a text in double quotes with the line's end
unfoldable pub text_piece : List ℕ → List ℕ
text_piece text = in_quotes text ++ line_feed ∷ []

-- an item behind its blanks
unfoldable pub item_piece : ℕ → CanonTree → List ℕ
item_piece indent value = hyphen ∷ space ∷ value_piece (indent + 2) value

-- all documents
unfoldable pub docs_piece : List CanonTree → List ℕ
docs_piece values = canon_docs_of values

-- what stands before a document
abbrev pub mark_before : Bool → List ℕ
mark_before true = []
mark_before false = codes "---\n"
