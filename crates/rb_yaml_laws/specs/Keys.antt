-- The key that a row begins with, and the keys of one map.
use Rattle.std.specs.Prelude.{◌≡◌, ◌≢◌, ◌⊎◌, ◌≤◌, ℕ, true, false, None, List, [], ◌∷◌, ◌++◌, length}
use Rattle.std.specs.List.{AllByRecursion as Each}
use Rattle.rb_causes.specs.Signs.{double_quote, hash, single_quote, colon}
use Rattle.rb_causes.specs.Texts.{is_blank}
use Rattle.rb_yaml.specs.Rows.{past_blanks}
use Rattle.rb_yaml.specs.Signs.{ends_sign, without_end, start_flaw}
use Rattle.rb_yaml.specs.Keys.{is_lone_sign}
use Rattle.rb_yaml_laws.specs.Quotes.{Single, Double}
use Rattle.rb_yaml_laws.specs.Plain.{begins_other}

-- A plain key with this before its colon: it begins with no other sign. A question mark or a hyphen
-- that the colon follows directly is a key.
abbrev pub PlainKey : List ℕ → List ℕ → Type 0
PlainKey front key =
    ((is_lone_sign front ≡ true) × (key ≡ front))
    ⊎ ((start_flaw (without_end front) ≡ None) × (key ≡ without_end front))

-- a comment begins in the text: a hash with a blank before it
pub record HasHash (text : List ℕ) : Type 0 where
  pub front : List ℕ
  pub blank : ℕ
  pub behind : List ℕ
  pub is : text ≡ front ++ blank ∷ hash ∷ behind
  pub is_blank : is_blank blank ≡ true

-- The first colon behind this text that is the sign of a key: none comes before it, and no comment.
pub record IsFirstColon (front behind : List ℕ) : Type 0 where
  pub ends : ends_sign behind ≡ true
  pub no_comment : HasHash front → ⊥
  pub first : (before after : List ℕ) → front ++ colon ∷ behind ≡ before ++ colon ∷ after →
      ends_sign after ≡ true → length front ≤ length before

-- A text that begins with a key, and what stands behind the colon, which a blank or the end
-- follows.
pub data Key : List ℕ → List ℕ → List ℕ → Type 0 where
  -- in single quotes
  single : {text key rest behind : List ℕ} → Single text key rest →
      past_blanks rest ≡ colon ∷ behind → ends_sign behind ≡ true →
      Key (single_quote ∷ text) key behind
  -- in double quotes
  double : {text key rest behind : List ℕ} → Double text key rest →
      past_blanks rest ≡ colon ∷ behind → ends_sign behind ≡ true →
      Key (double_quote ∷ text) key behind
  -- a plain text, up to the first sign of a key behind its first byte
  plain : {text key behind : List ℕ} (first : ℕ) (front : List ℕ) →
      text ≡ first ∷ front ++ colon ∷ behind → begins_other text ≡ false →
      IsFirstColon front behind → PlainKey (first ∷ front) key → Key text key behind

-- no two keys are the same
abbrev pub Differ : List (List ℕ) → Type 0
Differ [] = Unit {0}
Differ (key ∷ keys) = Each (λ other. key ≢ other) keys × Differ keys
