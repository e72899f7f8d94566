-- The tags that a text writes.
use Rattle.std.specs.Prelude.{ℕ, not, List, [], ◌∷◌, filter, bytes_eq}
use Rattle.rb_causes.specs.Texts.{comma_items}

-- each text once, where it first stands
abbrev pub once : List (List ℕ) → List (List ℕ)
once [] = []
once (t ∷ ts) = t ∷ filter (λ other. not (bytes_eq t other)) (once ts)

-- the tags of a text: what stands between its commas, each once
abbrev pub tags_in : List ℕ → List (List ℕ)
tags_in text = once (comma_items text)
