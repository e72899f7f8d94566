-- The first colon of a text that is the sign of a key: the reader and the relation agree.
use Rattle.std.proofs.Common.{◌≡◌, ◌≤◌, ℕ, suc, Bool, true, false, cond, nat_eq, ◌&&◌, List, [], ◌∷◌, ◌++◌, length, Option, Some, None, option_map, refl, ap, ◌∙◌, arith}
use Rattle.std.proofs.lemmas.Bool.{eqb-true, eq-eqb, and_parts}
use Rattle.rb_causes.specs.Texts.{is_blank}
use Rattle.rb_yaml.specs.Signs.{ends_sign, begins_sign, colon_at}
use Rattle.rb_yaml_laws.specs.Keys.{HasHash, IsFirstColon}

-- ---- what is meant is read

-- no byte of the text is a hash behind a blank; is a blank before the text?
abbrev pub NoHash : Bool → List ℕ → Type 0
NoHash blank [] = Unit {0}
NoHash blank (b ∷ bs) = ((blank && nat_eq b 35) ≡ false) × NoHash (is_blank b) bs

hash_free : (blank : Bool) (b : ℕ) (bs : List ℕ) → ((front : List ℕ) (c : ℕ) (behind : List ℕ) → b ∷ bs ≡ front ++ c ∷ 35 ∷ behind → is_blank c ≡ true → ⊥) → NoHash (is_blank b) bs
hash_free blank b [] h = tt
hash_free blank b (c ∷ bs) h = (
  by (is_blank b) (nat_eq c 35) refl refl,
  hash_free blank c bs (λ front d behind e k. h (b ∷ front) d behind (ap (λ xs. b ∷ xs) e) k),
)
  where
    by : (s t : Bool) → is_blank b ≡ s → nat_eq c 35 ≡ t → (is_blank b && nat_eq c 35) ≡ false
    by false t p q = rw p refl
    by true false p q = rw (p, q) refl
    by true true p q = absurd (h [] b bs (ap (λ x. b ∷ x ∷ bs) (eqb-true c 35 q)) p)

colon_here : (behind : List ℕ) (blank : Bool) → ends_sign behind ≡ true → colon_at blank (58 ∷ behind) ≡ Some 0
colon_here behind true h = rw h refl
colon_here behind false h = rw h refl

colon_on : (t s : Bool) (b : ℕ) (bs : List ℕ) (n : ℕ) → t ≡ false → s ≡ false → colon_at (is_blank b) bs ≡ Some n → cond t None (cond s (Some 0) (option_map suc (colon_at (is_blank b) bs))) ≡ Some (suc n)
colon_on t s b bs n p q h = rw (p, q, h) refl

sign_by : (t : Bool) (b : ℕ) (bs : List ℕ) → begins_sign 58 (b ∷ bs) ≡ t → ((b ≡ 58) → ends_sign bs ≡ true → ⊥) → begins_sign 58 (b ∷ bs) ≡ false
sign_by false b bs e h = e
sign_by true b bs e h = absurd (h (eqb-true b 58 ((and_parts (nat_eq b 58) (ends_sign bs) e).0)) ((and_parts (nat_eq b 58) (ends_sign bs) e).1))

colon_reads : (front behind : List ℕ) (blank : Bool) → ends_sign behind ≡ true → NoHash blank front →
    ((before after : List ℕ) → front ++ 58 ∷ behind ≡ before ++ 58 ∷ after → ends_sign after ≡ true → length front ≤ length before) → colon_at blank (front ++ 58 ∷ behind) ≡ Some (length front)
colon_reads [] behind blank h n f = colon_here behind blank h
colon_reads (b ∷ front) behind blank h n f =
    let rest = front ++ 58 ∷ behind in
    let none : begins_sign 58 (b ∷ rest) ≡ false = sign_by (begins_sign 58 (b ∷ rest)) b rest refl (λ e k. (let l = f [] rest (ap (λ x. x ∷ rest) e) k in absurd (omega (arith, l)))) in
    colon_on (blank && nat_eq b 35) (begins_sign 58 (b ∷ rest)) b rest (length front) n.0 none
    (colon_reads front behind (is_blank b) h n.1 (λ before after e k. (let l = f (b ∷ before) after (ap (λ xs. b ∷ xs) e) k in omega (arith, l))))

no_hash_first : (front : List ℕ) → (HasHash front → ⊥) → NoHash false front
no_hash_first [] h = tt
no_hash_first (b ∷ front) h = (refl, hash_free false b front (λ f c behind e k. h (record { front = f; blank = c; behind = behind; is = e; is_blank = k })))

pub colon_read : (front behind : List ℕ) → IsFirstColon front behind → colon_at false (front ++ 58 ∷ behind) ≡ Some (length front)
colon_read front behind c = colon_reads front behind false c.ends (no_hash_first front c.no_comment) c.first

-- ---- what is read is meant

-- where the colon was found
pub record ColonAt (blank : Bool) (text : List ℕ) (at : ℕ) : Type 0 where
  pub front : List ℕ
  pub behind : List ℕ
  pub is : text ≡ front ++ 58 ∷ behind
  pub at_is : length front ≡ at
  pub ends : ends_sign behind ≡ true
  pub no_hash : NoHash blank front
  pub first : (before after : List ℕ) → text ≡ before ++ 58 ∷ after → ends_sign after ≡ true → length front ≤ length before

first_on : (b : ℕ) (bs front : List ℕ) → begins_sign 58 (b ∷ bs) ≡ false → ((before after : List ℕ) → bs ≡ before ++ 58 ∷ after → ends_sign after ≡ true → length front ≤ length before) →
    (before after : List ℕ) → b ∷ bs ≡ before ++ 58 ∷ after → ends_sign after ≡ true → suc (length front) ≤ length before
first_on b bs front n h [] after e k =
    let same : b ≡ 58 = cc in
    let rest : bs ≡ after = cc in
    let sign : begins_sign 58 (b ∷ bs) ≡ true = rw (eq-eqb b 58 same, ap ends_sign rest ∙ k) refl in
    absurd (cc)
first_on b bs front n h (c ∷ before) after e k = let rest : bs ≡ before ++ 58 ∷ after = cc in let l = h before after rest k in omega (arith, l)

colon_by : (t s : Bool) (o : Option ℕ) (blank : Bool) (b : ℕ) (bs : List ℕ) (at : ℕ) → (blank && nat_eq b 35) ≡ t → begins_sign 58 (b ∷ bs) ≡ s → colon_at (is_blank b) bs ≡ o →
    ((n : ℕ) → colon_at (is_blank b) bs ≡ Some n → ColonAt (is_blank b) bs n) → colon_at blank (b ∷ bs) ≡ Some at → ColonAt blank (b ∷ bs) at
colon_by true s o blank b bs at ht hs ho more e = let never = rw ht at e in absurd (cc)
colon_by false true o blank b bs at ht hs ho more e =
    let n : 0 ≡ at = let k = rw (ht, hs) at e in cc in
    record {
      front = [];
      behind = bs;
      is = ap (λ x. x ∷ bs) (eqb-true b 58 ((and_parts (nat_eq b 58) (ends_sign bs) hs).0));
      at_is = n;
      ends = (and_parts (nat_eq b 58) (ends_sign bs) hs).1;
      no_hash = tt;
      first = λ before after e k. omega arith;
    }
colon_by false false None blank b bs at ht hs ho more e = let never = rw (ht, hs, ho) at e in absurd (cc)
colon_by false false (Some n) blank b bs at ht hs ho more e =
    let same : suc n ≡ at = let k = rw (ht, hs, ho) at e in cc in
    let m = more n ho in
    record {
      front = b ∷ m.front;
      behind = m.behind;
      is = ap (λ xs. b ∷ xs) m.is;
      at_is = ap suc m.at_is ∙ same;
      ends = m.ends;
      no_hash = (ht, m.no_hash);
      first = first_on b bs m.front hs m.first;
    }

colon_found : (text : List ℕ) (blank : Bool) (at : ℕ) → colon_at blank text ≡ Some at → ColonAt blank text at
colon_found [] blank at e = absurd (cc)
colon_found (b ∷ bs) blank at e = colon_by (blank && nat_eq b 35) (begins_sign 58 (b ∷ bs)) (colon_at (is_blank b) bs) blank b bs at refl refl refl (λ n k. colon_found bs (is_blank b) n k) e

pub has_hash : (front : List ℕ) (blank : Bool) (before : List ℕ) (c : ℕ) (behind : List ℕ) → NoHash blank front → front ≡ before ++ c ∷ 35 ∷ behind → is_blank c ≡ true → ⊥
has_hash [] blank [] c behind n e k = cc
has_hash [] blank (d ∷ before) c behind n e k = cc
has_hash (b ∷ []) blank [] c behind n e k = cc
has_hash (b ∷ d ∷ front) blank [] c behind n e k =
    let same : b ≡ c = cc in
    let hash : d ≡ 35 = cc in
    let never : (is_blank b && nat_eq d 35) ≡ true = rw (ap is_blank same ∙ k, eq-eqb d 35 hash) refl in
    let no = n.1.0 in cc
has_hash (b ∷ front) blank (d ∷ before) c behind n e k = has_hash front (is_blank b) before c behind n.1 (cc) k

pub record ColonMeant (text : List ℕ) (at : ℕ) : Type 0 where
  pub front : List ℕ
  pub behind : List ℕ
  pub is : text ≡ front ++ 58 ∷ behind
  pub at_is : length front ≡ at
  pub colon : IsFirstColon front behind

pub colon_meant : (text : List ℕ) (at : ℕ) → colon_at false text ≡ Some at → ColonMeant text at
colon_meant text at e =
    let m = colon_found text false at e in
    record {
      front = m.front;
      behind = m.behind;
      is = m.is;
      at_is = m.at_is;
      colon = record {
        ends = m.ends;
        no_comment = λ h. has_hash m.front false h.front h.blank h.behind m.no_hash h.is h.is_blank;
        first = λ before after e k. m.first before after (m.is ∙ e) k;
      };
    }
