-- The line of a field: its key, and what it begins with.
use Rattle.std.proofs.Common.{◌≡◌, ◌≤◌, ℕ, Bool, true, false, ◌||◌, nat_eq, List, [], ◌∷◌, ◌++◌, length, drop, reverse, None, inr, refl, sym, ap, subst, ◌∙◌, arith, append_assoc}
use Rattle.std.proofs.lemmas.Bool.{eqb-true, eqb-false, and_parts, and_from}
use Rattle.std.proofs.lemmas.List.{reverse-append, reverse-reverse}
use Rattle.std.proofs.lemmas.List.Folds.{list_all-append}
use Rattle.std.specs.List.{list_all}
use Rattle.rb_causes.specs.Numbers.{is_letter}
use Rattle.rb_causes.specs.Texts.{is_blank}
use Rattle.rb_yaml.specs.Rows.{past_blanks}
use Rattle.rb_yaml.specs.Signs.{ends_sign, without_end, start_flaw}
use Rattle.rb_yaml_laws.specs.Quotes.{Double}
use Rattle.rb_yaml_laws.specs.Keys.{HasHash, IsFirstColon, Key}
use Rattle.rb_yaml_laws.specs.Plain.{begins_other}
use Rattle.rb_canon.specs.Values.{CanonKey, plain, quoted, key_text}
use Rattle.rb_canon.specs.Layout.{escaped_byte, escapes, key_shown}
use Rattle.rb_canon_laws.specs.Writable.{IsWritableKey}

-- ---- texts in double quotes

pub plain_byte : (b : ℕ) → nat_eq b 10 ≡ false → nat_eq b 9 ≡ false → nat_eq b 92 ≡ false → nat_eq b 34 ≡ false → escaped_byte b ≡ b ∷ []
plain_byte b h k l m = rw (h, k, l, m) refl

quoted_by : (s t u v : Bool) (b : ℕ) (text rest : List ℕ) → nat_eq b 10 ≡ s → nat_eq b 9 ≡ t → nat_eq b 92 ≡ u → nat_eq b 34 ≡ v →
    Double (escapes text ++ 34 ∷ rest) text rest → Double (escapes (b ∷ text) ++ 34 ∷ rest) (b ∷ text) rest
quoted_by true t u v b text rest h k l m d = subst (λ (x : ℕ). Double (escapes (x ∷ text) ++ 34 ∷ rest) (x ∷ text) rest) (sym (eqb-true b 10 h)) (Double.escape {b = 110} refl d)
quoted_by false true u v b text rest h k l m d = subst (λ (x : ℕ). Double (escapes (x ∷ text) ++ 34 ∷ rest) (x ∷ text) rest) (sym (eqb-true b 9 k)) (Double.escape {b = 116} refl d)
quoted_by false false true v b text rest h k l m d = subst (λ (x : ℕ). Double (escapes (x ∷ text) ++ 34 ∷ rest) (x ∷ text) rest) (sym (eqb-true b 92 l)) (Double.escape {b = 92} refl d)
quoted_by false false false true b text rest h k l m d = subst (λ (x : ℕ). Double (escapes (x ∷ text) ++ 34 ∷ rest) (x ∷ text) rest) (sym (eqb-true b 34 m)) (Double.escape {b = 34} refl d)
quoted_by false false false false b text rest h k l m d =
    subst (λ (xs : List ℕ). Double ((xs ++ escapes text) ++ 34 ∷ rest) (b ∷ text) rest) (sym (plain_byte b h k l m)) (Double.other (eqb-false b 34 m) (eqb-false b 92 l) d)

pub quoted_text : (text rest : List ℕ) → Double (escapes text ++ 34 ∷ rest) text rest
quoted_text [] rest = Double.closing
quoted_text (b ∷ text) rest = quoted_by (nat_eq b 10) (nat_eq b 9) (nat_eq b 92) (nat_eq b 34) b text rest refl refl refl refl (quoted_text text rest)

-- ---- words of letters

unlike_by : (t : Bool) (b x : ℕ) → nat_eq b x ≡ t → is_letter b ≡ true → is_letter x ≡ false → nat_eq b x ≡ false
unlike_by true b x h k l = let same = eqb-true b x h in let never : true ≡ false = sym k ∙ ap is_letter same ∙ l in absurd (cc)
unlike_by false b x h k l = h

-- a letter is none of the signs
pub unlike : (b x : ℕ) → is_letter b ≡ true → is_letter x ≡ false → nat_eq b x ≡ false
unlike b x k l = unlike_by (nat_eq b x) b x refl k l

pub letter_dark : (b : ℕ) → is_letter b ≡ true → is_blank b ≡ false
letter_dark b h = rw (unlike b 32 h refl, unlike b 9 h refl) refl

letters_start : (b : ℕ) (bs : List ℕ) → is_letter b ≡ true → start_flaw (b ∷ bs) ≡ None
letters_start b bs h =
    rw (
      unlike b 38 h refl,
      unlike b 42 h refl,
      unlike b 33 h refl,
      unlike b 62 h refl,
      unlike b 63 h refl,
      unlike b 37 h refl,
      unlike b 64 h refl,
      unlike b 96 h refl,
      unlike b 44 h refl,
      unlike b 93 h refl,
      unlike b 125 h refl,
      unlike b 58 h refl,
      unlike b 45 h refl,
    ) refl

letters_other : (b : ℕ) (bs : List ℕ) → is_letter b ≡ true → begins_other (b ∷ bs) ≡ false
letters_other b bs h = rw (unlike b 124 h refl, unlike b 39 h refl, unlike b 34 h refl, unlike b 91 h refl, unlike b 123 h refl) refl

reverse_cons : (b : ℕ) (bs : List ℕ) → reverse (b ∷ bs) ≡ reverse bs ++ b ∷ []
reverse_cons b bs = reverse-append (b ∷ []) bs

letters_reverse : (bs : List ℕ) → list_all is_letter bs ≡ true → list_all is_letter (reverse bs) ≡ true
letters_reverse [] h = refl
letters_reverse (b ∷ bs) h =
    let parts = and_parts (is_letter b) (list_all is_letter bs) h in
    let more = letters_reverse bs parts.1 in
    ap (list_all is_letter) (reverse_cons b bs) ∙ list_all-append is_letter (reverse bs) (b ∷ [])
    ∙ and_from (list_all is_letter (reverse bs)) (list_all is_letter (b ∷ [])) more (and_from (is_letter b) true parts.0 refl)

dark_first : (bs : List ℕ) → list_all is_letter bs ≡ true → past_blanks bs ≡ bs
dark_first [] h = refl
dark_first (b ∷ bs) h = rw (letter_dark b (and_parts (is_letter b) (list_all is_letter bs) h).0) refl

letters_end : (bs : List ℕ) → list_all is_letter bs ≡ true → without_end bs ≡ bs
letters_end bs h = ap reverse (dark_first (reverse bs) (letters_reverse bs h)) ∙ reverse-reverse bs

-- ---- keys

no_hash : (front : List ℕ) → list_all is_letter front ≡ true → HasHash front → ⊥
no_hash front h k =
    let all : list_all is_letter (k.front ++ k.blank ∷ 35 ∷ k.behind) ≡ true = ap (list_all is_letter) (sym k.is) ∙ h in
    let both = sym (list_all-append is_letter k.front (k.blank ∷ 35 ∷ k.behind)) ∙ all in
    let last = (and_parts (list_all is_letter k.front) (list_all is_letter (k.blank ∷ 35 ∷ k.behind)) both).1 in
    let never = (and_parts (is_letter k.blank) false last).1 in
    cc

first_by : (front before after behind : List ℕ) → list_all is_letter front ≡ true → front ++ 58 ∷ behind ≡ before ++ 58 ∷ after → length front ≤ length before
first_by [] before after behind h e = omega arith
first_by (c ∷ front) [] after behind h e =
    let same : c ≡ 58 = cc in
    let letter = (and_parts (is_letter c) (list_all is_letter front) h).0 in
    let never : true ≡ false = sym letter ∙ ap is_letter same in
    absurd (cc)
first_by (c ∷ front) (d ∷ before) after behind h e =
    let more = first_by front before after behind (and_parts (is_letter c) (list_all is_letter front) h).1 (ap (drop 1) e) in
    omega arith

first_colon : (front behind : List ℕ) → list_all is_letter front ≡ true → ends_sign behind ≡ true → IsFirstColon front behind
first_colon front behind h e = record {
  ends = e;
  no_comment = no_hash front h;
  first = λ before after same ends. first_by front before after behind h same;
}

-- the colon behind a key, and behind a quote
pub key_end : (xs behind : List ℕ) → (xs ++ 58 ∷ []) ++ behind ≡ xs ++ 58 ∷ behind
key_end xs behind = append_assoc xs (58 ∷ []) behind

pub quote_end : (xs behind : List ℕ) → ((xs ++ 34 ∷ []) ++ 58 ∷ []) ++ behind ≡ xs ++ 34 ∷ 58 ∷ behind
quote_end xs behind = key_end (xs ++ 34 ∷ []) behind ∙ append_assoc xs (34 ∷ []) (58 ∷ behind)

pub shown_key : (key : CanonKey) → IsWritableKey key → (behind : List ℕ) → ends_sign behind ≡ true → Key ((key_shown key ++ 58 ∷ []) ++ behind) (key_text key) behind
shown_key (plain []) h behind e = let never = h.0 in absurd (cc)
shown_key (plain (b ∷ bs)) h behind e =
    let parts = and_parts (is_letter b) (list_all is_letter bs) h.1 in
    Key.plain b bs (ap (λ (xs : List ℕ). b ∷ xs) (key_end bs behind)) (letters_other b ((bs ++ 58 ∷ []) ++ behind) parts.0) (first_colon bs behind parts.1 e)
    (inr (ap start_flaw (letters_end (b ∷ bs) h.1) ∙ letters_start b bs parts.0, sym (letters_end (b ∷ bs) h.1)))
shown_key (quoted key) h behind e =
    subst (λ (xs : List ℕ). Key (34 ∷ xs) key behind) (sym (quote_end (escapes key) behind)) (Key.double (quoted_text key (58 ∷ behind)) refl e)

-- the first byte of a field's line: a letter or a double quote
abbrev pub is_lead : ℕ → Bool
is_lead b = is_letter b || nat_eq b 34

pub record Leads (text : List ℕ) : Type 0 where
  pub first : ℕ
  pub more : List ℕ
  pub is : text ≡ first ∷ more
  pub leads : is_lead first ≡ true

lead_letter : (b : ℕ) → is_letter b ≡ true → is_lead b ≡ true
lead_letter b h = rw h refl

pub key_leads : (key : CanonKey) → IsWritableKey key → (behind : List ℕ) → Leads ((key_shown key ++ 58 ∷ []) ++ behind)
key_leads (plain []) h behind = let never = h.0 in absurd (cc)
key_leads (plain (b ∷ bs)) h behind = record {
  first = b;
  more = (bs ++ 58 ∷ []) ++ behind;
  is = refl;
  leads = lead_letter b (and_parts (is_letter b) (list_all is_letter bs) h.1).0;
}
key_leads (quoted key) h behind = record { first = 34; more = ((escapes key ++ 34 ∷ []) ++ 58 ∷ []) ++ behind; is = refl; leads = refl }

lead_unlike_by : (t : Bool) (b x : ℕ) → nat_eq b x ≡ t → is_lead b ≡ true → is_lead x ≡ false → nat_eq b x ≡ false
lead_unlike_by true b x h k l = let same = eqb-true b x h in let never : true ≡ false = sym k ∙ ap is_lead same ∙ l in absurd (cc)
lead_unlike_by false b x h k l = h

pub lead_unlike : (b x : ℕ) → is_lead b ≡ true → is_lead x ≡ false → nat_eq b x ≡ false
lead_unlike b x k l = lead_unlike_by (nat_eq b x) b x refl k l
