-- What a text means as a pattern, and what it matches whole.
use Rattle.std.specs.Prelude.{◌≤◌, ◌<◌, ◌⊎◌, ◌≡◌, ℕ, List, ◌++◌, Bool, true, false, Option, Some, None, IfSome, is_some, length, codes, chars}
use Rattle.regex_syntax.specs.Brackets.{Nested}
use Rattle.regex_syntax.specs.Grammar.{Names, read}
use Rattle.regex.specs.Patterns.{Re, find_str, default_config}
use Rattle.rb_text.specs.Light.{is_light}

-- the form that matches a whole text and no part of one: between \A(?: and )\z
abbrev pub whole_form : List ℕ → List ℕ
whole_form text = codes "\\A(?:" ++ text ++ codes ")\\z"

-- what `regex` reads in a text, with the depth to which it nests, if it reads a pattern there
abbrev pub reading : List ℕ → Option (Nested Re × Names)
reading text = read default_config (chars text)

-- what is read there nests deeper than `regex` takes by its usual options
abbrev pub NestsTooDeep : List ℕ → Type 0
NestsTooDeep text = IfSome (reading text) (λ r. default_config.nest_limit < r.0.depth)

-- `regex` reads no pattern there, or one that nests too deep for it
abbrev pub IsUnread : List ℕ → Type 0
IsUnread text = (reading text ≡ None) ⊎ NestsTooDeep text

-- as a pattern the text has at most 256 bytes, and `regex` reads both it and its whole form
abbrev pub IsPatternText : List ℕ → Type 0
IsPatternText text =
    (length text ≤ 256) × (IsUnread text → ⊥) × (IsUnread (whole_form text) → ⊥)

-- what is refused for want of memory alone: it is read in both forms, neither nests too deep, and
-- it is light
pub record IsSure (text : List ℕ) : Type 0 where
  pub short : length text ≤ 256
  pub plain : IsUnread text → ⊥
  pub whole : IsUnread (whole_form text) → ⊥
  pub light : is_light text ≡ true

-- a match of what was read stands somewhere in the text
abbrev pub finds : Option (Nested Re × Names) → List ℕ → Bool
finds None s = false
finds (Some r) s = is_some (find_str r.0.value s 0)

-- the whole match: the whole form has a match in the text
abbrev pub matches_whole : List ℕ → List ℕ → Bool
matches_whole text s = finds (reading (whole_form text)) s
