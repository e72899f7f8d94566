-- What the reader's scans of a row find.
use Rattle.std.proofs.Common.{◌≡◌, ◌∙◌, ◌<◌, ◌⊎◌, inl, inr, ℕ, suc, Bool, true, false, ◌&&◌, ◌||◌, nat_eq, List, [], ◌∷◌, ◌++◌, length, take, refl, ap, sym, subst, arith, append_assoc, length-append}
use Rattle.std.proofs.Math.Seq.{take-append_seam, take-length}
use Rattle.std.proofs.lemmas.Bool.{and_from, and_parts, eqb-true, eq-eqb, le-ltb, lt-ltb, or_cases, or_left, or_right}
use Rattle.rb_causes.specs.Signs.{colon, comma, hash}
use Rattle.rb_causes.specs.Texts.{is_blank}
use Rattle.rb_yaml.specs.Signs.{begins_sign, comment_at, ends_sign, has_colon, has_comment, plain_part, without_end}
use Rattle.rb_yaml.specs.FlowScalars.{ends_plain, plain_len}
use Rattle.rb_yaml_laws.specs.Keys.{HasHash}
use Rattle.rb_yaml_laws.specs.Scanned.{FirstComment, PlainEndsAtComment, HasKeySign, KeySignIsFound, EndsWord, at_end, at_comma, at_close, at_comment, at_colon, WordIn, ends, goes_on, FlowWordIsFirst}
use Rattle.rb_yaml_laws.proofs.ColonFacts.{NoHash, has_hash}

-- ---- comments

-- whether a blank stands behind this text, where one stood before it
abbrev blank_behind : Bool → List ℕ → Bool
blank_behind blank [] = blank
blank_behind blank (b ∷ bs) = blank_behind (is_blank b) bs

-- no comment, or the first
record NoneIn (blank : Bool) (text : List ℕ) : Type 0 where
  pub none : NoHash blank text
  pub past : comment_at blank text ≡ length text

record SomeIn (blank : Bool) (text : List ℕ) : Type 0 where
  pub front : List ℕ
  pub behind : List ℕ
  pub is : text ≡ front ++ hash ∷ behind
  pub none : NoHash blank front
  pub spaced : blank_behind blank front ≡ true
  pub at : comment_at blank text ≡ length front

scan_by : (t : Bool) (blank : Bool) (b : ℕ) (bs : List ℕ) → (blank && nat_eq b hash) ≡ t
    → NoneIn (is_blank b) bs ⊎ SomeIn (is_blank b) bs
    → NoneIn blank (b ∷ bs) ⊎ SomeIn blank (b ∷ bs)
scan_by true blank b bs is more = let parts = and_parts blank (nat_eq b hash) is in
    inr (record {
      front = [];
      behind = bs;
      is = ap (λ x. x ∷ bs) (eqb-true b hash parts.1);
      none = tt;
      spaced = parts.0;
      at = rw is refl;
    })
scan_by false blank b bs is (inl more) = inl (record {
  none = (is, more.none);
  past = rw is (ap suc more.past);
})
scan_by false blank b bs is (inr more) = inr (record {
  front = b ∷ more.front;
  behind = more.behind;
  is = ap (λ xs. b ∷ xs) more.is;
  none = (is, more.none);
  spaced = more.spaced;
  at = rw is (ap suc more.at);
})

scan : (blank : Bool) (text : List ℕ) → NoneIn blank text ⊎ SomeIn blank text
scan blank [] = inl (record { none = tt; past = refl })
scan blank (b ∷ bs) = scan_by (blank && nat_eq b hash) blank b bs refl (scan (is_blank b) bs)

record EndsBlank (front : List ℕ) : Type 0 where
  pub init : List ℕ
  pub last : ℕ
  pub is : front ≡ init ++ last ∷ []
  pub is_blank : is_blank last ≡ true

ends_blank : (b : ℕ) (bs : List ℕ) → blank_behind (is_blank b) bs ≡ true → EndsBlank (b ∷ bs)
ends_blank b [] h = record { init = []; last = b; is = refl; is_blank = h }
ends_blank b (c ∷ cs) h = let more = ends_blank c cs h in record {
  init = b ∷ more.init;
  last = more.last;
  is = ap (λ xs. b ∷ xs) more.is;
  is_blank = more.is_blank;
}

begun : (front : List ℕ) → blank_behind false front ≡ true → EndsBlank front
begun [] h = absurd (cc)
begun (b ∷ bs) h = ends_blank b bs h

no_hash : (text : List ℕ) → NoHash false text → HasHash text → ⊥
no_hash text none h = has_hash text false h.front h.blank h.behind none h.is h.is_blank

first_comment : (text : List ℕ) → SomeIn false text → FirstComment text
first_comment text s = let e = begun s.front s.spaced in record {
  front = e.init;
  blank = e.last;
  behind = s.behind;
  is = s.is ∙ ap (λ xs. xs ++ hash ∷ s.behind) e.is
      ∙ append_assoc e.init (e.last ∷ []) (hash ∷ s.behind);
  is_blank = e.is_blank;
  first = λ h. no_hash s.front s.none (subst HasHash (sym e.is) h);
  said = ap without_end (ap (λ n. take n text) s.at ∙ ap (take (length s.front)) s.is
      ∙ take-append_seam s.front (hash ∷ s.behind) ∙ e.is);
}

shorter : (text : List ℕ) (s : SomeIn false text) → comment_at false text < length text
shorter text s = let all : length text ≡ length (s.front ++ hash ∷ s.behind) = ap length s.is in
    omega (arith, s.at, all, length-append s.front (hash ∷ s.behind))

with_comment : (text : List ℕ) → NoneIn false text ⊎ SomeIn false text
    → has_comment text ≡ true → FirstComment text
with_comment text (inl n) h =
    let none : has_comment text ≡ false =
    le-ltb (comment_at false text) (length text) (omega (arith, n.past)) in
    let wrong : true ≡ false = sym h ∙ none in absurd (cc)
with_comment text (inr s) h = first_comment text s

with_none : (text : List ℕ) → NoneIn false text ⊎ SomeIn false text → has_comment text ≡ false
    → (HasHash text → ⊥) × (plain_part text ≡ without_end text)
with_none text (inl n) h = (
  no_hash text n.none,
  ap without_end (ap (λ k. take k text) n.past ∙ take-length text),
)
with_none text (inr s) h =
    let some : has_comment text ≡ true =
    lt-ltb (comment_at false text) (length text) (shorter text s) in
    let wrong : true ≡ false = sym some ∙ h in absurd (cc)

pub plain_ends_at_comment : PlainEndsAtComment
plain_ends_at_comment text =
    (with_comment text (scan false text), with_none text (scan false text))

-- ---- signs of keys

sign_found : (text : List ℕ) → has_colon text ≡ true → HasKeySign text
sign_found [] h = absurd (cc)
sign_found (b ∷ bs) h = elim (or_cases (begins_sign colon (b ∷ bs)) (has_colon bs) h) [
  | inl here ↦ let parts = and_parts (nat_eq b colon) (ends_sign bs) here in record {
    front = [];
    behind = bs;
    is = ap (λ x. x ∷ bs) (eqb-true b colon parts.0);
    ends = parts.1;
  }
  | inr later ↦ let more = sign_found bs later in record {
    front = b ∷ more.front;
    behind = more.behind;
    is = ap (λ xs. b ∷ xs) more.is;
    ends = more.ends;
  }
]

sign_behind : (front behind : List ℕ) → ends_sign behind ≡ true
    → has_colon (front ++ colon ∷ behind) ≡ true
sign_behind [] behind h = or_left (begins_sign colon (colon ∷ behind)) (has_colon behind) h
sign_behind (b ∷ front) behind h = or_right (begins_sign colon (b ∷ front ++ colon ∷ behind))
    (has_colon (front ++ colon ∷ behind)) (sign_behind front behind h)

pub key_sign_is_found : KeySignIsFound
key_sign_is_found text = (
  sign_found text,
  λ h. ap has_colon h.is ∙ sign_behind h.front h.behind h.ends,
)

-- ---- words of a flow

module _ (key : Bool) (close last b : ℕ) (bs : List ℕ) where
  abbrev comma_or_close : Bool
  comma_or_close = nat_eq b comma || nat_eq b close

  abbrev comment : Bool
  comment = is_blank last && nat_eq b hash

  abbrev key_colon : Bool
  key_colon = key && begins_sign colon (b ∷ bs)

  word_ends : ends_plain key close (is_blank last) (b ∷ bs) ≡ true
      → EndsWord key close last (b ∷ bs)
  word_ends h = elim (or_cases (comma_or_close || comment) key_colon h) [
    | inl sign ↦ elim (or_cases comma_or_close comment sign) [
      | inl either ↦ elim (or_cases (nat_eq b comma) (nat_eq b close) either) [
        | inl is ↦ subst (λ x. EndsWord key close last (x ∷ bs)) (sym (eqb-true b comma is))
            (at_comma bs)
        | inr is ↦ subst (λ x. EndsWord key close last (x ∷ bs)) (sym (eqb-true b close is))
            (at_close bs)
      ]
      | inr is ↦ let parts = and_parts (is_blank last) (nat_eq b hash) is in
          subst (λ x. EndsWord key close last (x ∷ bs)) (sym (eqb-true b hash parts.1))
          (at_comment bs parts.0)
    ]
    | inr is ↦ let parts = and_parts key (begins_sign colon (b ∷ bs)) is in
        let sign = and_parts (nat_eq b colon) (ends_sign bs) parts.1 in
        subst (λ x. EndsWord key close last (x ∷ bs)) (sym (eqb-true b colon sign.0))
        (at_colon bs parts.0 sign.1)
  ]

ends_are_read : (key : Bool) (close last b : ℕ) (bs : List ℕ) → EndsWord key close last (b ∷ bs)
    → ends_plain key close (is_blank last) (b ∷ bs) ≡ true
ends_are_read key close last _ _ (at_comma behind) = refl
ends_are_read key close last _ _ (at_close behind) =
    or_left _ (key && begins_sign colon (close ∷ behind))
    (or_left (nat_eq close comma || nat_eq close close) (is_blank last && nat_eq close hash)
    (or_right (nat_eq close comma) (nat_eq close close) (eq-eqb close close refl)))
ends_are_read key close last _ _ (at_comment behind blank) =
    or_left _ (key && begins_sign colon (hash ∷ behind))
    (or_right (nat_eq hash comma || nat_eq hash close) (is_blank last && nat_eq hash hash)
    (and_from (is_blank last) (nat_eq hash hash) blank refl))
ends_are_read key close last _ _ (at_colon behind is sign) =
    or_right _ (key && begins_sign colon (colon ∷ behind))
    (and_from key (begins_sign colon (colon ∷ behind)) is sign)

record Scanned (key : Bool) (close last : ℕ) (text : List ℕ) : Type 0 where
  pub word : List ℕ
  pub is : WordIn key close last text word
  pub read : take (plain_len key close (is_blank last) text) text ≡ word

scanned_by : (t : Bool) (key : Bool) (close last b : ℕ) (bs : List ℕ)
    → ends_plain key close (is_blank last) (b ∷ bs) ≡ t → Scanned key close b bs
    → Scanned key close last (b ∷ bs)
scanned_by true key close last b bs h more = record {
  word = [];
  is = ends (word_ends key close last b bs h);
  read = rw h refl;
}
scanned_by false key close last b bs h more = record {
  word = b ∷ more.word;
  is = goes_on b (λ e. (let wrong : true ≡ false = sym (ends_are_read key close last b bs e) ∙ h in cc))
      more.is;
  read = rw h (ap (λ xs. b ∷ xs) more.read);
}

scanned : (key : Bool) (close last : ℕ) (text : List ℕ) → Scanned key close last text
scanned key close last [] = record { word = []; is = ends at_end; read = refl }
scanned key close last (b ∷ bs) =
    scanned_by (ends_plain key close (is_blank last) (b ∷ bs)) key close last b bs refl
    (scanned key close b bs)

pub flow_word_is_first : FlowWordIsFirst
flow_word_is_first key close first text = let s = scanned key close first text in
    (s.word, s.is, ap (λ xs. without_end (first ∷ xs)) s.read)
