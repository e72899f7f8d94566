-- What the reader's tests of a row find, said of the row's text alone.
use Rattle.std.specs.Prelude.{◌≡◌, ℕ, Bool, true, false, List, [], ◌∷◌, ◌++◌}
use Rattle.rb_causes.specs.Signs.{colon, comma, hash}
use Rattle.rb_causes.specs.Texts.{is_blank}
use Rattle.rb_yaml.specs.Signs.{ends_sign, has_colon, has_comment, plain_part, without_end}
use Rattle.rb_yaml.specs.FlowScalars.{flow_word}
use Rattle.rb_yaml_laws.specs.Keys.{HasHash}

-- The first comment of a text: a hash with a blank before it, and none such in what stands before.
pub record FirstComment (text : List ℕ) : Type 0 where
  pub front : List ℕ
  pub blank : ℕ
  pub behind : List ℕ
  pub is : text ≡ front ++ blank ∷ hash ∷ behind
  pub is_blank : is_blank blank ≡ true
  pub first : HasHash (front ++ blank ∷ []) → ⊥
  pub said : plain_part text ≡ without_end (front ++ blank ∷ [])

-- A plain text ends at its first comment; where it has none it is said whole.
abbrev pub PlainEndsAtComment : Type 0
PlainEndsAtComment = (text : List ℕ)
    → (has_comment text ≡ true → FirstComment text)
    × (has_comment text ≡ false → (HasHash text → ⊥) × (plain_part text ≡ without_end text))

-- a colon that a blank or the end follows
pub record HasKeySign (text : List ℕ) : Type 0 where
  pub front : List ℕ
  pub behind : List ℕ
  pub is : text ≡ front ++ colon ∷ behind
  pub ends : ends_sign behind ≡ true

-- a text is told to have the sign of a key exactly where it has one
abbrev pub KeySignIsFound : Type 0
KeySignIsFound = (text : List ℕ)
    → (has_colon text ≡ true → HasKeySign text) × (HasKeySign text → has_colon text ≡ true)

-- A plain scalar of a flow ends before this text, which stands behind the byte `last`: at the end,
-- a comma, the closing sign, a comment or, as a key, its colon.
pub data EndsWord (key : Bool) (close last : ℕ) : List ℕ → Type 0 where
  at_end : EndsWord key close last []
  at_comma : (behind : List ℕ) → EndsWord key close last (comma ∷ behind)
  at_close : (behind : List ℕ) → EndsWord key close last (close ∷ behind)
  at_comment : (behind : List ℕ) → is_blank last ≡ true → EndsWord key close last (hash ∷ behind)
  at_colon : (behind : List ℕ) → key ≡ true → ends_sign behind ≡ true →
      EndsWord key close last (colon ∷ behind)

-- the text up to the first place behind its first byte where a scalar ends
pub data WordIn (key : Bool) (close : ℕ) : ℕ → List ℕ → List ℕ → Type 0 where
  ends : {last : ℕ} {text : List ℕ} → EndsWord key close last text → WordIn key close last text []
  goes_on : {last : ℕ} {text word : List ℕ} (b : ℕ) → (EndsWord key close last (b ∷ text) → ⊥) →
      WordIn key close b text word → WordIn key close last (b ∷ text) (b ∷ word)

-- the word of a flow is that text, without the blanks at its end
abbrev pub FlowWordIsFirst : Type 0
FlowWordIsFirst = (key : Bool) (close first : ℕ) (text : List ℕ) →
    (word : List ℕ) × WordIn key close first text word
    × (flow_word key close (first ∷ text) ≡ without_end (first ∷ word))
