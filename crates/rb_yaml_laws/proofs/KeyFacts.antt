-- The key of a row: the reader and the relation agree.
use Rattle.std.proofs.Common.{◌≡◌, ◌⊎◌, inl, inr, ◌+◌, ℕ, suc, Bool, true, false, ◌||◌, nat_eq, List, [], ◌∷◌, ◌++◌, length, take, drop, Result, Option, Some, None, Ok, refl, sym, ap, subst, ◌∙◌, arith}
use Rattle.rb_yaml.specs.Rows.{past_blanks, begins}
use Rattle.rb_yaml.specs.Signs.{ends_sign, begins_sign, colon_at, without_end, start_flaw}
use Rattle.rb_yaml.specs.Quotes.{Quoted, single_from, double_from}
use Rattle.rb_yaml.specs.Keys.{KeyPart, is_lone_sign, plain_key, quoted_key_part, plain_key_part, key_part}
use Rattle.rb_yaml_laws.specs.Plain.{begins_other}
use Rattle.rb_yaml_laws.specs.Keys as keys
use Rattle.rb_yaml_laws.specs.Keys.{IsFirstColon, PlainKey, Key}
use Rattle.rb_yaml_laws.proofs.ColonFacts.{colon_read, ColonMeant, colon_meant}
use Rattle.std.proofs.lemmas.List.{take_at, drop_at, drop-drop}
use Rattle.std.proofs.lemmas.Bool.{eqb-true, and_parts, or_parts, or_from}
use Rattle.rb_causes.specs.Causes.{unless}
use Rattle.rb_yaml_laws.proofs.QuoteFacts.{quoted, single_read, double_read, single_meant, double_meant}
use Rattle.rb_yaml_laws.proofs.BlankFacts.{begins_is}
use Rattle.rb_yaml_laws.proofs.Binds.{only_none}

-- ---- what is meant is read

quoted_part : (key rest behind : List ℕ) → past_blanks rest ≡ 58 ∷ behind → ends_sign behind ≡ true → quoted_key_part (quoted key (Some rest)) ≡ Some (record { key = Ok key; behind = behind })
quoted_part key rest behind e h = rw (e, h) refl

lone_by : (t : Bool) (b : ℕ) → nat_eq b 63 ≡ t → (t || nat_eq b 45) ≡ true → start_flaw (without_end (b ∷ [])) ≡ None → ⊥
lone_by true b h k e = let never = subst (λ x. start_flaw (without_end (x ∷ [])) ≡ None) (eqb-true b 63 h) e in cc
lone_by false b h k e = let never = subst (λ x. start_flaw (without_end (x ∷ [])) ≡ None) (eqb-true b 45 k) e in cc

-- a lone sign is no plain text
lone_starts : (front : List ℕ) → is_lone_sign front ≡ true → start_flaw (without_end front) ≡ None → ⊥
lone_starts [] h e = cc
lone_starts (b ∷ []) h e = lone_by (nat_eq b 63) b refl h e
lone_starts (b ∷ c ∷ bs) h e = cc

plain_key_read : (t : Bool) (front key : List ℕ) → is_lone_sign front ≡ t → PlainKey front key → plain_key front ≡ Ok key
plain_key_read true front key h (inl k) = rw h (ap Ok (sym k.1))
plain_key_read true front key h (inr k) = absurd (lone_starts front h k.0)
plain_key_read false front key h (inl k) = let l = k.0 in absurd (cc)
plain_key_read false front key h (inr k) = rw (h, k.0) (ap Ok (sym k.1))

-- a text that a plain key begins, cut at its colon
cut_front : (first : ℕ) (front behind : List ℕ) → take (suc (length front)) (first ∷ front ++ 58 ∷ behind) ≡ first ∷ front
cut_front first front behind = ap (λ xs. first ∷ xs) (take_at front (58 ∷ behind) (length front) refl)

cut_behind : (first : ℕ) (front behind : List ℕ) → drop (length front + 2) (first ∷ front ++ 58 ∷ behind) ≡ behind
cut_behind first front behind =
    let n : length front + 2 ≡ suc (length front + 1) = omega arith in
    ap (λ k. drop k (first ∷ front ++ 58 ∷ behind)) n ∙ sym (drop-drop 1 (length front) (front ++ 58 ∷ behind)) ∙ ap (drop 1) (drop_at front (58 ∷ behind) (length front) refl)

pub plain_part_read : (text : List ℕ) → begins_other text ≡ false → key_part text ≡ plain_key_part text
plain_part_read text o =
    let o₁ = (or_parts (begins 124 text || begins 39 text) (begins 34 text || (begins 91 text || begins 123 text)) o).0 in
    let o₂ = (or_parts (begins 124 text || begins 39 text) (begins 34 text || (begins 91 text || begins 123 text)) o).1 in
    let o₃ = (or_parts (begins 34 text) (begins 91 text || begins 123 text) o₂).1 in
    rw ((or_parts (begins 34 text) (begins 91 text || begins 123 text) o₂).0, (or_parts (begins 124 text) (begins 39 text) o₁).1, o₃, (or_parts (begins 124 text) (begins 39 text) o₁).0) refl

plain_read : (text key behind : List ℕ) (first : ℕ) (front : List ℕ) → text ≡ first ∷ front ++ 58 ∷ behind → begins_other text ≡ false → IsFirstColon front behind → PlainKey (first ∷ front) key →
    key_part text ≡ Some (record { key = Ok key; behind = behind })
plain_read text key behind first front e o c k =
    let whole = first ∷ front ++ 58 ∷ behind in
    let found = colon_read front behind c in
    let key_is = ap plain_key (cut_front first front behind) ∙ plain_key_read (is_lone_sign (first ∷ front)) (first ∷ front) key refl k in
    let made = λ (x : Result (List ℕ) _) (b : List ℕ). let p : KeyPart = record { key = x; behind = b } in Some p in
    plain_part_read text o ∙ ap plain_key_part e
    ∙ rw found (ap (λ x. made x (drop (length front + 2) whole)) key_is ∙ ap (made (Ok key)) (cut_behind first front behind))

pub key_read : {text key behind : List ℕ} → Key text key behind → key_part text ≡ Some (record { key = Ok key; behind = behind })
key_read (keys.Key.single {key = key} {rest = rest} {behind = behind} s e h) = rw (single_read s) (quoted_part key rest behind e h)
key_read (keys.Key.double {key = key} {rest = rest} {behind = behind} d e h) = rw (double_read d) (quoted_part key rest behind e h)
key_read (keys.Key.plain {text = text} {key = key} {behind = behind} first front e o c k) = plain_read text key behind first front e o c k

-- ---- what is read is meant

sign_at : (text : List ℕ) → begins_sign 58 text ≡ true → (text ≡ 58 ∷ drop 1 text) × (ends_sign (drop 1 text) ≡ true)
sign_at [] h = absurd (cc)
sign_at (b ∷ bs) h = (ap (λ x. x ∷ bs) (eqb-true b 58 ((and_parts (nat_eq b 58) (ends_sign bs) h).0)), (and_parts (nat_eq b 58) (ends_sign bs) h).1)

one_part : (x y : KeyPart) → Some x ≡ Some y → x ≡ y
one_part x y e = cc

-- a quoted text that is a key
pub record QuotedKey (q : Quoted) (key behind : List ℕ) : Type 0 where
  pub rest : List ℕ
  pub closed : q.rest ≡ Some rest
  pub good : q.good ≡ true
  pub is : q.text ≡ key
  pub colon : past_blanks rest ≡ 58 ∷ behind
  pub ends : ends_sign behind ≡ true

quoted_key : (o : Option (List ℕ)) (t g : Bool) (q : Quoted) (key behind : List ℕ) → q.rest ≡ o → (rest : List ℕ) → (o ≡ Some rest → begins_sign 58 (past_blanks rest) ≡ t) → q.good ≡ g →
    (o ≡ None) ⊎ (o ≡ Some rest) → quoted_key_part q ≡ Some (record { key = Ok key; behind = behind }) → QuotedKey q key behind
quoted_key o t g q key behind h rest sign good (inl n) e = let k : q.rest ≡ None = h ∙ n in let never = rw k at e in absurd (cc)
quoted_key o false g q key behind h rest sign good (inr s) e = let k : q.rest ≡ Some rest = h ∙ s in let never = rw (k, sign s) at e in absurd (cc)
quoted_key o true false q key behind h rest sign good (inr s) e =
    let k : q.rest ≡ Some rest = h ∙ s in
    let f = one_part _ (record { key = Ok key; behind = behind }) (rw (k, sign s, good) at e) in
    let never = ap (λ p. p.key) f in absurd (cc)
quoted_key o true true q key behind h rest sign good (inr s) e =
    let k : q.rest ≡ Some rest = h ∙ s in
    let f = one_part _ (record { key = Ok key; behind = behind }) (rw (k, sign s, good) at e) in
    let is : q.text ≡ key = let read = ap (λ p. p.key) f in cc in
    let same : drop 1 (past_blanks rest) ≡ behind = ap (λ p. p.behind) f in
    let at = sign_at (past_blanks rest) (sign s) in
    record { rest = rest; closed = k; good = good; is = is; colon = at.0 ∙ ap (λ xs. 58 ∷ xs) same; ends = sym (ap ends_sign same) ∙ at.1 }

quoted_by : (o : Option (List ℕ)) (q : Quoted) (key behind : List ℕ) → q.rest ≡ o → quoted_key_part q ≡ Some (record { key = Ok key; behind = behind }) → QuotedKey q key behind
quoted_by None q key behind h e = quoted_key None true q.good q key behind h [] (λ k. absurd (cc)) refl (inl refl) e
quoted_by (Some rest) q key behind h e = quoted_key (Some rest) (begins_sign 58 (past_blanks rest)) q.good q key behind h rest (λ k. refl) refl (inr refl) e

single_key : (text key behind : List ℕ) → key_part (39 ∷ text) ≡ Some (record { key = Ok key; behind = behind }) → Key (39 ∷ text) key behind
single_key text key behind e =
    let m = quoted_by (single_from false text).rest (single_from false text) key behind refl e in
    subst (λ xs. Key (39 ∷ text) xs behind) m.is (keys.Key.single (single_meant text m.rest m.closed) m.colon m.ends)

double_key : (text key behind : List ℕ) → key_part (34 ∷ text) ≡ Some (record { key = Ok key; behind = behind }) → Key (34 ∷ text) key behind
double_key text key behind e =
    let m = quoted_by (double_from false text).rest (double_from false text) key behind refl e in
    subst (λ xs. Key (34 ∷ text) xs behind) m.is (keys.Key.double (double_meant text m.rest m.good m.closed) m.colon m.ends)

plain_key_meant : (t : Bool) (front key : List ℕ) → is_lone_sign front ≡ t → plain_key front ≡ Ok key → PlainKey front key
plain_key_meant true front key h e = let k = rw h at e in let same : front ≡ key = cc in inl (h, sym same)
plain_key_meant false front key h e =
    let only = only_none (λ o. unless o (without_end front)) (start_flaw (without_end front)) key (λ x k. cc) (rw h at e) in
    let same : without_end front ≡ key = let k = only.1 in cc in
    inr (only.0, sym same)

plain_found : (text key behind : List ℕ) (first : ℕ) (bs : List ℕ) (at : ℕ) → text ≡ first ∷ bs → begins_other text ≡ false → ColonMeant bs at →
    plain_key (take (suc at) text) ≡ Ok key → drop (at + 2) text ≡ behind → Key text key behind
plain_found text key behind first bs at e o m k d =
    let whole : text ≡ first ∷ m.front ++ 58 ∷ m.behind = e ∙ ap (λ xs. first ∷ xs) m.is in
    let front : take (suc at) text ≡ first ∷ m.front = ap (λ n. take (suc n) text) (sym m.at_is) ∙ ap (take (suc (length m.front))) whole ∙ cut_front first m.front m.behind in
    let rest : m.behind ≡ behind = sym (cut_behind first m.front m.behind) ∙ ap (drop (length m.front + 2)) (sym whole) ∙ ap (λ n. drop (n + 2) text) m.at_is ∙ d in
    let read = sym (ap plain_key front) ∙ k in
    subst (Key text key) rest (keys.Key.plain first m.front whole o m.colon (plain_key_meant (is_lone_sign (first ∷ m.front)) (first ∷ m.front) key refl read))

plain_at : (xs : List ℕ) (text key behind : List ℕ) (at : ℕ) → text ≡ xs → begins_other text ≡ false → colon_at false (drop 1 text) ≡ Some at →
    plain_key (take (suc at) text) ≡ Ok key → drop (at + 2) text ≡ behind → Key text key behind
plain_at [] text key behind at e o c k d = let never : colon_at false [] ≡ Some at = sym (ap (λ xs. colon_at false (drop 1 xs)) e) ∙ c in absurd (cc)
plain_at (first ∷ bs) text key behind at e o c k d =
    plain_found text key behind first bs at e o (colon_meant bs at (sym (ap (λ xs. colon_at false (drop 1 xs)) e) ∙ c)) k d

plain_by : (o : Option ℕ) (text key behind : List ℕ) → begins_other text ≡ false → colon_at false (drop 1 text) ≡ o → plain_key_part text ≡ Some (record { key = Ok key; behind = behind }) → Key text key behind
plain_by None text key behind other h e = let never = rw h at e in absurd (cc)
plain_by (Some at) text key behind other h e =
    let f = one_part (record { key = plain_key (take (suc at) text); behind = drop (at + 2) text }) (record { key = Ok key; behind = behind }) (rw h at e) in
    let is : plain_key (take (suc at) text) ≡ Ok key = ap (λ p. p.key) f in
    let same : drop (at + 2) text ≡ behind = ap (λ p. p.behind) f in
    plain_at text text key behind at refl other h is same

key_by : (t₁ t₂ t₃ t₄ t₅ : Bool) (text key behind : List ℕ) → begins 34 text ≡ t₁ → begins 39 text ≡ t₂ → begins 91 text ≡ t₃ → begins 123 text ≡ t₄ → begins 124 text ≡ t₅ →
    key_part text ≡ Some (record { key = Ok key; behind = behind }) → Key text key behind
key_by true t₂ t₃ t₄ t₅ text key behind h₁ h₂ h₃ h₄ h₅ e =
    let is = begins_is 34 text h₁ in
    subst (λ xs. Key xs key behind) (sym is) (double_key (drop 1 text) key behind (subst (λ xs. key_part xs ≡ Some (record { key = Ok key; behind = behind })) is e))
key_by false true t₃ t₄ t₅ text key behind h₁ h₂ h₃ h₄ h₅ e =
    let is = begins_is 39 text h₂ in
    subst (λ xs. Key xs key behind) (sym is) (single_key (drop 1 text) key behind (subst (λ xs. key_part xs ≡ Some (record { key = Ok key; behind = behind })) is e))
key_by false false true t₄ t₅ text key behind h₁ h₂ h₃ h₄ h₅ e = let never = rw (h₁, h₂, h₃) at e in absurd (cc)
key_by false false false true t₅ text key behind h₁ h₂ h₃ h₄ h₅ e = let never = rw (h₁, h₂, h₃, h₄) at e in absurd (cc)
key_by false false false false true text key behind h₁ h₂ h₃ h₄ h₅ e = let never = rw (h₁, h₂, h₃, h₄, h₅) at e in absurd (cc)
key_by false false false false false text key behind h₁ h₂ h₃ h₄ h₅ e =
    let other : begins_other text ≡ false =
    or_from (begins 124 text || begins 39 text) (begins 34 text || (begins 91 text || begins 123 text)) (or_from (begins 124 text) (begins 39 text) h₅ h₂)
    (or_from (begins 34 text) (begins 91 text || begins 123 text) h₁ (or_from (begins 91 text) (begins 123 text) h₃ h₄)) in
    plain_by (colon_at false (drop 1 text)) text key behind other refl (rw (h₁, h₂, h₃, h₄, h₅) at e)

pub key_meant : (text key behind : List ℕ) → key_part text ≡ Some (record { key = Ok key; behind = behind }) → Key text key behind
key_meant text key behind e = key_by (begins 34 text) (begins 39 text) (begins 91 text) (begins 123 text) (begins 124 text) text key behind refl refl refl refl refl e
