-- The texts that a set was told of.
use Rattle.std.specs.Prelude.{◌≡◌, ℕ, List}
use Rattle.std.specs.BTreeSet.{contains_text}
use Rattle.rb_causes.specs.Texts.{has_text}
use Rattle.rb_causes.specs.declared.seen_texts.SeenTexts.{SeenTexts}

-- the set holds exactly these texts
abbrev pub HasSeen : SeenTexts → List (List ℕ) → Type 0
HasSeen seen texts = (text : List ℕ) → contains_text seen.texts text ≡ has_text texts text
