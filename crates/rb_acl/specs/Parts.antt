-- A part of a text at its commas, and the item that it is.
use Rattle.std.specs.Prelude.{ℕ, List, Bool, not, ◌&&◌, ◌||◌, bytes_eq}
use Rattle.rb_causes.specs.Texts.{has_text, is_empty, trimmed}

-- trimmed it is this item; an empty one is none
abbrev pub is_item : List ℕ → List ℕ → Bool
is_item item part = not (is_empty (trimmed part)) && bytes_eq (trimmed part) item

-- trimmed it is empty, or one of these
abbrev pub is_listed : List (List ℕ) → List ℕ → Bool
is_listed texts part = is_empty (trimmed part) || has_text texts (trimmed part)
