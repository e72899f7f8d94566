-- Texts in double quotes: no control character stands in them, no line end, and they are UTF-8.
use Rattle.std.proofs.Common.{◌≡◌, ◌⊎◌, inl, inr, ◌≤◌, ◌<◌, ℕ, ◌+◌, ◌/◌, Bool, true, false, not, ◌&&◌, ◌||◌, cond, ltb, nat_eq, nat_lt, List, [], ◌∷◌, ◌++◌, refl, sym, ap, subst, ◌∙◌, arith, append_assoc, append-nil}
use Rattle.std.proofs.lemmas.Bool.{eqb-true, ne_eqb, ltb-true, ltb-false, le-ltb, and_parts, and_from, and_left, and_right, and_cases, or_parts, or_from, cases_lt, not-true, not_from_false}
use Rattle.std.proofs.lemmas.Str.{IsUtf8-append, IsUtf8-encode, IsUtf8-nil, encode_ascii}
use Rattle.std.specs.Str.{IsUtf8}
use Rattle.std.specs.List.{AllByRecursion as Each}
use lib.Utf8.{encode, encodes, next, scalar, scalars, low_scalar}
use Rattle.rb_yaml.specs.Documents.{begins_low, begins_control, has_control}
use Rattle.rb_canon.specs.Layout.{escaped_byte, escapes, in_quotes}
use Rattle.rb_canon_laws.specs.Writable.{is_clean}
use Rattle.rb_canon_laws.proofs.KeyLines.{plain_byte}
use Rattle.rb_canon_laws.proofs.RowsRead.{stays, all_stay}

-- ---- bytes that stand for themselves

high_not : (b x : ℕ) → 128 ≤ b → x < 128 → nat_eq b x ≡ false
high_not b x h k = ne_eqb b x (λ e. omega arith)

pub high_plain : (b : ℕ) → 128 ≤ b → escaped_byte b ≡ b ∷ []
high_plain b h = plain_byte b (high_not b 10 h (omega arith)) (high_not b 9 h (omega arith)) (high_not b 92 h (omega arith)) (high_not b 34 h (omega arith))

pub escapes_append : (xs ys : List ℕ) → escapes (xs ++ ys) ≡ escapes xs ++ escapes ys
escapes_append [] ys = refl
escapes_append (x ∷ xs) ys = ap (λ (zs : List ℕ). escaped_byte x ++ zs) (escapes_append xs ys) ∙ sym (append_assoc (escaped_byte x) (escapes xs) (escapes ys))

-- what is shown of a byte is shown where it holds of each escape and of a byte that is none
pub record Byte (b : ℕ) : Type 0 where
  pub feed : nat_eq b 10 ≡ false
  pub tab : nat_eq b 9 ≡ false
  pub slash : nat_eq b 92 ≡ false
  pub quote : nat_eq b 34 ≡ false

by_byte_with : (P : ℕ → Type 0) (s t u v : Bool) (b : ℕ) → nat_eq b 10 ≡ s → nat_eq b 9 ≡ t → nat_eq b 92 ≡ u → nat_eq b 34 ≡ v →
    P 10 → P 9 → P 92 → P 34 → (Byte b → P b) → P b
by_byte_with P true t u v b h k l m p q r o f = subst P (sym (eqb-true b 10 h)) p
by_byte_with P false true u v b h k l m p q r o f = subst P (sym (eqb-true b 9 k)) q
by_byte_with P false false true v b h k l m p q r o f = subst P (sym (eqb-true b 92 l)) r
by_byte_with P false false false true b h k l m p q r o f = subst P (sym (eqb-true b 34 m)) o
by_byte_with P false false false false b h k l m p q r o f = f (record { feed = h; tab = k; slash = l; quote = m })

pub by_byte : (P : ℕ → Type 0) (b : ℕ) → P 10 → P 9 → P 92 → P 34 → (Byte b → P b) → P b
by_byte P b p q r o f = by_byte_with P (nat_eq b 10) (nat_eq b 9) (nat_eq b 92) (nat_eq b 34) b refl refl refl refl p q r o f

pub itself : (b : ℕ) → Byte b → escaped_byte b ≡ b ∷ []
itself b n = plain_byte b n.feed n.tab n.slash n.quote

-- ---- UTF-8

-- one byte of ASCII
pub ascii_byte : (b : ℕ) → b < 128 → IsUtf8 (b ∷ [])
ascii_byte b h = subst IsUtf8 (encode_ascii b h) (IsUtf8-encode b (low_scalar b (omega arith)))

high_same : (xs : List ℕ) → Each (λ b. 128 ≤ b) xs → escapes xs ≡ xs
high_same [] h = refl
high_same (x ∷ xs) h = rw (high_plain x h.0) (ap (λ (ys : List ℕ). x ∷ ys) (high_same xs h.1))

-- the bytes of a character that is no sign of ASCII
high_by : (t u : Bool) (c : ℕ) → 128 ≤ c → ltb c 2048 ≡ t → ltb c 65536 ≡ u →
    Each (λ b. 128 ≤ b) (cond t ((192 + c / 64) ∷ next c ∷ []) (cond u ((224 + c / 4096) ∷ next (c / 64) ∷ next c ∷ []) ((240 + c / 262144) ∷ next (c / 4096) ∷ next (c / 64) ∷ next c ∷ [])))
high_by true u c h k l = (omega arith, (omega arith, tt))
high_by false true c h k l = (omega arith, (omega arith, (omega arith, tt)))
high_by false false c h k l = (omega arith, (omega arith, (omega arith, (omega arith, tt))))

high_bytes : (c : ℕ) → 128 ≤ c → Each (λ b. 128 ≤ b) (encode c)
unfolding encode
high_bytes c h = rw (le-ltb c 128 h) (high_by (ltb c 2048) (ltb c 65536) c h refl refl)

escaped_ascii : (b : ℕ) → b < 128 → IsUtf8 (escaped_byte b)
escaped_ascii b h =
    by_byte (λ x. IsUtf8 (escaped_byte x)) b (IsUtf8-append (92 ∷ []) (110 ∷ []) (ascii_byte 92 (omega arith)) (ascii_byte 110 (omega arith)))
    (IsUtf8-append (92 ∷ []) (116 ∷ []) (ascii_byte 92 (omega arith)) (ascii_byte 116 (omega arith)))
    (IsUtf8-append (92 ∷ []) (92 ∷ []) (ascii_byte 92 (omega arith)) (ascii_byte 92 (omega arith)))
    (IsUtf8-append (92 ∷ []) (34 ∷ []) (ascii_byte 92 (omega arith)) (ascii_byte 34 (omega arith)))
    (λ n. subst IsUtf8 (sym (itself b n)) (ascii_byte b h))

escaped_char_by : (c : ℕ) → scalar c ≡ true → (c < 128) ⊎ (128 ≤ c) → IsUtf8 (escapes (encode c))
escaped_char_by c s (inl h) = subst (λ (xs : List ℕ). IsUtf8 (escapes xs)) (sym (encode_ascii c h)) (subst IsUtf8 (sym (append-nil (escaped_byte c))) (escaped_ascii c h))
escaped_char_by c s (inr h) = subst IsUtf8 (sym (high_same (encode c) (high_bytes c h))) (IsUtf8-encode c s)

escaped_chars : (cs : List ℕ) → scalars cs ≡ true → IsUtf8 (escapes (encodes cs))
escaped_chars [] h = IsUtf8-nil
escaped_chars (c ∷ cs) h =
    let parts = and_parts (scalar c) (scalars cs) h in
    subst IsUtf8 (sym (escapes_append (encode c) (encodes cs)))
    (IsUtf8-append (escapes (encode c)) (escapes (encodes cs)) (escaped_char_by c parts.0 (cases_lt c 128)) (escaped_chars cs parts.1))

pub escapes_utf8 : (text : List ℕ) → IsUtf8 text → IsUtf8 (escapes text)
escapes_utf8 text u = subst (λ (xs : List ℕ). IsUtf8 (escapes xs)) u.1.1 (escaped_chars u.0 u.1.0)

pub quotes_utf8 : (text : List ℕ) → IsUtf8 text → IsUtf8 (in_quotes text)
quotes_utf8 text u =
    IsUtf8-append (34 ∷ []) (escapes text ++ 34 ∷ []) (ascii_byte 34 (omega arith))
    (IsUtf8-append (escapes text) (34 ∷ []) (escapes_utf8 text u) (ascii_byte 34 (omega arith)))

-- ---- the byte before U+0080 to U+00BF never ends a text

abbrev pub ends_lead : List ℕ → Bool
ends_lead [] = false
ends_lead (b ∷ []) = nat_eq b 194
ends_lead (b ∷ c ∷ bs) = ends_lead (c ∷ bs)

lead_append : (xs ys : List ℕ) → ends_lead xs ≡ false → ends_lead ys ≡ false → ends_lead (xs ++ ys) ≡ false
lead_append [] ys h k = k
lead_append (x ∷ []) [] h k = h
lead_append (x ∷ []) (y ∷ ys) h k = k
lead_append (x ∷ z ∷ xs) ys h k = lead_append (z ∷ xs) ys h k

last_not : (b : ℕ) → nat_eq (next b) 194 ≡ false
last_not b = ne_eqb (next b) 194 (λ e. omega arith)

lead_by : (s t u : Bool) (c : ℕ) → ltb c 128 ≡ s →
    ends_lead (cond s (c ∷ []) (cond t ((192 + c / 64) ∷ next c ∷ []) (cond u ((224 + c / 4096) ∷ next (c / 64) ∷ next c ∷ []) ((240 + c / 262144) ∷ next (c / 4096) ∷ next (c / 64) ∷ next c ∷ [])))) ≡ false
lead_by true t u c h = ne_eqb c 194 (λ e. let below = ltb-true c 128 h in omega arith)
lead_by false true u c h = last_not c
lead_by false false true c h = last_not c
lead_by false false false c h = last_not c

lead_char : (c : ℕ) → ends_lead (encode c) ≡ false
unfolding encode
lead_char c = lead_by (ltb c 128) (ltb c 2048) (ltb c 65536) c refl

lead_chars : (cs : List ℕ) → ends_lead (encodes cs) ≡ false
lead_chars [] = refl
lead_chars (c ∷ cs) = lead_append (encode c) (encodes cs) (lead_char c) (lead_chars cs)

pub utf8_ends : (text : List ℕ) → IsUtf8 text → ends_lead text ≡ false
utf8_ends text u = subst (λ (xs : List ℕ). ends_lead xs ≡ false) u.1.1 (lead_chars u.0)

-- ---- control characters

begins_none : (b : ℕ) (bs : List ℕ) → Byte b → (nat_eq b 10 || not (begins_control (b ∷ bs))) ≡ true → begins_control (b ∷ bs) ≡ false
begins_none b bs n h = not-true (begins_control (b ∷ bs)) (rw n.feed at h)

low_kept : (c : ℕ) (cs rest : List ℕ) → begins_low (c ∷ cs) ≡ false → begins_low (escapes (c ∷ cs) ++ rest) ≡ false
low_kept c cs rest h =
    subst (λ (xs : List ℕ). begins_low ((xs ++ escapes cs) ++ rest) ≡ false) (sym (high_plain c (let above = ltb-false c 160 h in omega arith))) h

-- no control character begins the escapes of a text behind this byte
low_behind : (b : ℕ) (bs rest : List ℕ) → ends_lead (b ∷ bs) ≡ false → (nat_eq b 194 && begins_low bs) ≡ false → (nat_eq b 194 && begins_low (escapes bs ++ rest)) ≡ false
low_behind b [] rest h k = and_left (nat_eq b 194) (begins_low rest) h
low_behind b (c ∷ cs) rest h k = by_cases (and_cases (nat_eq b 194) (begins_low (c ∷ cs)) k)
  where
    by_cases : (nat_eq b 194 ≡ false) ⊎ (begins_low (c ∷ cs) ≡ false) → (nat_eq b 194 && begins_low (escapes (c ∷ cs) ++ rest)) ≡ false
    by_cases (inl l) = and_left (nat_eq b 194) (begins_low (escapes (c ∷ cs) ++ rest)) l
    by_cases (inr l) = and_right (nat_eq b 194) (begins_low (escapes (c ∷ cs) ++ rest)) (low_kept c cs rest l)

control_itself : (b : ℕ) (bs rest : List ℕ) → begins_control (b ∷ bs) ≡ false → ends_lead (b ∷ bs) ≡ false → begins_control (b ∷ (escapes bs ++ rest)) ≡ false
control_itself b bs rest h l =
    let parts = or_parts ((nat_lt b 32 && not (nat_eq b 9)) || nat_eq b 127) (nat_eq b 194 && begins_low bs) h in
    or_from ((nat_lt b 32 && not (nat_eq b 9)) || nat_eq b 127) (nat_eq b 194 && begins_low (escapes bs ++ rest)) parts.0 (low_behind b bs rest l parts.1)

lead_more : (b : ℕ) (bs : List ℕ) → ends_lead (b ∷ bs) ≡ false → ends_lead bs ≡ false
lead_more b [] h = refl
lead_more b (c ∷ cs) h = h

pub control_escapes : (text rest : List ℕ) → is_clean text ≡ true → ends_lead text ≡ false → has_control rest ≡ false → has_control (escapes text ++ rest) ≡ false
control_escapes [] rest h l k = k
control_escapes (b ∷ bs) rest h l k =
    let parts = and_parts (nat_eq b 10 || not (begins_control (b ∷ bs))) (is_clean bs) h in
    let more = control_escapes bs rest parts.1 (lead_more b bs l) k in
    by_byte (λ x. has_control ((escaped_byte x ++ escapes bs) ++ rest) ≡ false) b more more more more
    (λ n. subst (λ (xs : List ℕ). has_control ((xs ++ escapes bs) ++ rest) ≡ false) (sym (itself b n))
    (or_from (begins_control (b ∷ (escapes bs ++ rest))) (has_control (escapes bs ++ rest)) (control_itself b bs rest (begins_none b bs n parts.0) l) more))

-- ---- line ends

no_return : (t : Bool) (b : ℕ) (bs : List ℕ) → nat_eq b 13 ≡ t → begins_control (b ∷ bs) ≡ false → nat_eq b 13 ≡ false
no_return true b bs e h =
    let never : true ≡ false = subst (λ (x : ℕ). begins_control (x ∷ bs) ≡ false) (eqb-true b 13 e) h in
    absurd (cc)
no_return false b bs e h = e

pub escapes_stay : (text : List ℕ) → is_clean text ≡ true → all_stay (escapes text) ≡ true
escapes_stay [] h = refl
escapes_stay (b ∷ bs) h =
    let parts = and_parts (nat_eq b 10 || not (begins_control (b ∷ bs))) (is_clean bs) h in
    let more = escapes_stay bs parts.1 in
    by_byte (λ x. all_stay (escaped_byte x ++ escapes bs) ≡ true) b more more more more
    (λ n. subst (λ (xs : List ℕ). all_stay (xs ++ escapes bs) ≡ true) (sym (itself b n))
    (and_from (stays b) (all_stay (escapes bs))
    (and_from (not (nat_eq b 10)) (not (nat_eq b 13)) (not_from_false (nat_eq b 10) n.feed) (not_from_false (nat_eq b 13) (no_return (nat_eq b 13) b bs refl (begins_none b bs n parts.0)))) more))
