-- Texts that can be held, and the rows of a text without control characters.
use Rattle.std.proofs.Common.{◌≡◌, ◌⊎◌, inl, inr, ◌≤◌, ◌<◌, ℕ, suc, ◌+◌, ◌/◌, ◌%◌, Bool, true, false, not, ◌&&◌, ◌||◌, cond, ltb, nat_eq, nat_lt, List, [], ◌∷◌, ◌++◌, drop, refl, sym, ap, subst, ◌∙◌, arith, append_assoc, append-nil}
use Rattle.std.proofs.lemmas.Bool.{eqb-true, eqb-false, ne_eqb, ltb-true, ltb-false, le-ltb, le-leb, and_parts, and_from, and_left, and_right, and_cases, or_parts, or_from, or_right, or_left, cases_lt, not_from_false}
use Rattle.std.proofs.lemmas.Bool.Decides.{nat_tests}
use Rattle.std.proofs.lemmas.Str.{is_utf8-from_IsUtf8, IsUtf8-past_char}
use Rattle.std.specs.Str.{IsUtf8}
use Rattle.std.specs.List.{list_all, slice_split, onto_first, AllByRecursion as Each}
use lib.Utf8.{encode, encodes, next, scalar, scalars}
use Rattle.rb_causes.specs.Texts.{is_line_feed}
use Rattle.rb_yaml.specs.Rows.{Row, spaces, begins, without_return, numbered, rows_of}
use Rattle.rb_yaml.specs.Documents.{begins_low, begins_control, has_control, without_mark}
use Rattle.rb_canon_laws.specs.Writable.{is_clean, IsWritable}
use Rattle.rb_canon_laws.proofs.Fine.{is_fine, Fine, fine_utf8, utf8_before, utf8_after}

-- ---- texts of fine characters are clean

high_clean : (b : ℕ) (rest : List ℕ) → 128 ≤ b → (nat_eq b 194 && begins_low rest) ≡ false → is_clean rest ≡ true → is_clean (b ∷ rest) ≡ true
high_clean b rest h l k =
    and_from (nat_eq b 10 || not (begins_control (b ∷ rest))) (is_clean rest)
    (or_right (nat_eq b 10) (not (begins_control (b ∷ rest)))
    (not_from_false (begins_control (b ∷ rest))
    (or_from ((nat_lt b 32 && not (nat_eq b 9)) || nat_eq b 127) (nat_eq b 194 && begins_low rest)
    (or_from (nat_lt b 32 && not (nat_eq b 9)) (nat_eq b 127) (and_left (nat_lt b 32) (not (nat_eq b 9)) (le-ltb b 32 (omega arith))) (ne_eqb b 127 (λ e. omega arith))) l))) k

next_clean : (c : ℕ) (rest : List ℕ) → is_clean rest ≡ true → is_clean (next c ∷ rest) ≡ true
next_clean c rest k = high_clean (next c) rest (omega arith) (and_left (nat_eq (next c) 194) (begins_low rest) (ne_eqb (next c) 194 (λ e. omega arith))) k

ascii_fine : (c : ℕ) → nat_eq c 10 ≡ false → is_fine c ≡ true → ((nat_lt c 32 && not (nat_eq c 9)) || nat_eq c 127) ≡ false
ascii_fine c n h = grind (arith, nat_tests)

ascii_clean : (t : Bool) (c : ℕ) (rest : List ℕ) → nat_eq c 10 ≡ t → c < 128 → is_fine c ≡ true → is_clean rest ≡ true → is_clean (c ∷ rest) ≡ true
ascii_clean true c rest e s h k = and_from (nat_eq c 10 || not (begins_control (c ∷ rest))) (is_clean rest) (or_left (nat_eq c 10) (not (begins_control (c ∷ rest))) e) k
ascii_clean false c rest e s h k =
    and_from (nat_eq c 10 || not (begins_control (c ∷ rest))) (is_clean rest)
    (or_right (nat_eq c 10) (not (begins_control (c ∷ rest)))
    (not_from_false (begins_control (c ∷ rest))
    (or_from ((nat_lt c 32 && not (nat_eq c 9)) || nat_eq c 127) (nat_eq c 194 && begins_low rest) (ascii_fine c e h)
    (and_left (nat_eq c 194) (begins_low rest) (ne_eqb c 194 (λ q. omega arith)))))) k

fine_gap : (c : ℕ) → is_fine c ≡ true → 127 ≤ c → 160 ≤ c
fine_gap c h k = grind (arith, nat_tests)

two_clean : (c : ℕ) (rest : List ℕ) → 128 ≤ c → is_fine c ≡ true → is_clean rest ≡ true → is_clean ((192 + c / 64) ∷ next c ∷ rest) ≡ true
two_clean c rest h f k =
    let past = fine_gap c f (omega arith) in
    high_clean (192 + c / 64) (next c ∷ rest) (omega arith) (by_lead (cases_lt (c % 64) 32)) (next_clean c rest k)
  where
    by_lead : (c % 64 < 32) ⊎ (32 ≤ c % 64) → (nat_eq (192 + c / 64) 194 && nat_lt (next c) 160) ≡ false
    by_lead (inl l) = let past = fine_gap c f (omega arith) in and_left (nat_eq (192 + c / 64) 194) (nat_lt (next c) 160) (ne_eqb (192 + c / 64) 194 (λ e. omega arith))
    by_lead (inr l) = and_right (nat_eq (192 + c / 64) 194) (nat_lt (next c) 160) (le-ltb (next c) 160 (omega arith))

lead_clean : (b : ℕ) (rest : List ℕ) → 195 ≤ b → is_clean rest ≡ true → is_clean (b ∷ rest) ≡ true
lead_clean b rest h k = high_clean b rest (omega arith) (and_left (nat_eq b 194) (begins_low rest) (ne_eqb b 194 (λ e. omega arith))) k

char_by : (s t u : Bool) (c : ℕ) (rest : List ℕ) → ltb c 128 ≡ s → is_fine c ≡ true → is_clean rest ≡ true →
    is_clean (cond s (c ∷ []) (cond t ((192 + c / 64) ∷ next c ∷ []) (cond u ((224 + c / 4096) ∷ next (c / 64) ∷ next c ∷ []) ((240 + c / 262144) ∷ next (c / 4096) ∷ next (c / 64) ∷ next c ∷ []))) ++ rest) ≡ true
char_by true t u c rest h f k = ascii_clean (nat_eq c 10) c rest refl (ltb-true c 128 h) f k
char_by false true u c rest h f k = two_clean c rest (ltb-false c 128 h) f k
char_by false false true c rest h f k = lead_clean (224 + c / 4096) (next (c / 64) ∷ next c ∷ rest) (omega arith) (next_clean (c / 64) (next c ∷ rest) (next_clean c rest k))
char_by false false false c rest h f k = lead_clean (240 + c / 262144) (next (c / 4096) ∷ next (c / 64) ∷ next c ∷ rest) (omega arith) (next_clean (c / 4096) (next (c / 64) ∷ next c ∷ rest) (next_clean (c / 64) (next c ∷ rest) (next_clean c rest k)))

char_clean : (c : ℕ) (rest : List ℕ) → is_fine c ≡ true → is_clean rest ≡ true → is_clean (encode c ++ rest) ≡ true
unfolding encode
char_clean c rest f k = char_by (ltb c 128) (ltb c 2048) (ltb c 65536) c rest refl f k

chars_clean : (cs : List ℕ) → list_all is_fine cs ≡ true → is_clean (encodes cs) ≡ true
chars_clean [] h = refl
chars_clean (c ∷ cs) h = let parts = and_parts (is_fine c) (list_all is_fine cs) h in char_clean c (encodes cs) parts.0 (chars_clean cs parts.1)

pub fine_writable : (text : List ℕ) → Fine text → IsWritable text
fine_writable text f = record {
  encoded = is_utf8-from_IsUtf8 text (fine_utf8 text f);
  clean = ap is_clean (sym f.spells) ∙ chars_clean f.chars f.good;
}

-- ---- a text without control characters has fine ones

fine_high : (c : ℕ) → scalar c ≡ true → 160 ≤ c → is_fine c ≡ true
fine_high c s h = rw (s, le-ltb c 32 (omega arith), le-ltb c 160 h, le-leb 127 c (omega arith)) refl

fine_ascii : (c : ℕ) → scalar c ≡ true → c < 128 → ((nat_lt c 32 && not (nat_eq c 9)) || nat_eq c 127) ≡ false → is_fine c ≡ true
fine_ascii c s k h = grind (arith, nat_tests)

abbrev First : ℕ → List ℕ → Type 0
First c rest = (is_fine c ≡ true) × (has_control rest ≡ false)

rest_none : (b : ℕ) (rest : List ℕ) → has_control (b ∷ rest) ≡ false → has_control rest ≡ false
rest_none b rest h = (or_parts (begins_control (b ∷ rest)) (has_control rest) h).1

first_none : (b : ℕ) (rest : List ℕ) → has_control (b ∷ rest) ≡ false → (((nat_lt b 32 && not (nat_eq b 9)) || nat_eq b 127) ≡ false) × ((nat_eq b 194 && begins_low rest) ≡ false)
first_none b rest h =
    or_parts ((nat_lt b 32 && not (nat_eq b 9)) || nat_eq b 127) (nat_eq b 194 && begins_low rest) (or_parts (begins_control (b ∷ rest)) (has_control rest) h).0

two_high : (c : ℕ) → 128 ≤ c → (nat_eq (192 + c / 64) 194 ≡ false) ⊎ (nat_lt (next c) 160 ≡ false) → 160 ≤ c
two_high c h (inl e) = let n = eqb-false (192 + c / 64) 194 e in at (cases_lt c 160)
  where
    at : (c < 160) ⊎ (160 ≤ c) → 160 ≤ c
    at (inl l) = absurd (n' (omega arith))
      where
        n' : 192 + c / 64 ≡ 194 → ⊥
        n' = eqb-false (192 + c / 64) 194 e
    at (inr l) = l
two_high c h (inr e) = let above = ltb-false (next c) 160 e in omega arith

first_by : (s t u : Bool) (c : ℕ) (rest : List ℕ) → ltb c 128 ≡ s → ltb c 2048 ≡ t → scalar c ≡ true →
    has_control (cond s (c ∷ []) (cond t ((192 + c / 64) ∷ next c ∷ []) (cond u ((224 + c / 4096) ∷ next (c / 64) ∷ next c ∷ []) ((240 + c / 262144) ∷ next (c / 4096) ∷ next (c / 64) ∷ next c ∷ []))) ++ rest) ≡ false → First c rest
first_by true t u c rest h l s k = (fine_ascii c s (ltb-true c 128 h) (first_none c rest k).0, rest_none c rest k)
first_by false true u c rest h l s k = (
  fine_high c s (two_high c (ltb-false c 128 h) (and_cases (nat_eq (192 + c / 64) 194) (nat_lt (next c) 160) (first_none (192 + c / 64) (next c ∷ rest) k).1)),
  rest_none (next c) rest (rest_none (192 + c / 64) (next c ∷ rest) k),
)
first_by false false true c rest h l s k =
    let above = ltb-false c 2048 l in
    (fine_high c s (omega arith), rest_none (next c) rest (rest_none (next (c / 64)) (next c ∷ rest) (rest_none (224 + c / 4096) (next (c / 64) ∷ next c ∷ rest) k)))
first_by false false false c rest h l s k =
    let above = ltb-false c 2048 l in (
      fine_high c s (omega arith),
      rest_none (next c) rest (rest_none (next (c / 64)) (next c ∷ rest) (rest_none (next (c / 4096)) (next (c / 64) ∷ next c ∷ rest) (rest_none (240 + c / 262144) (next (c / 4096) ∷ next (c / 64) ∷ next c ∷ rest) k))),
    )

first_fine : (c : ℕ) (rest : List ℕ) → scalar c ≡ true → has_control (encode c ++ rest) ≡ false → First c rest
unfolding encode
first_fine c rest s k = first_by (ltb c 128) (ltb c 2048) (ltb c 65536) c rest refl refl s k

all_fine : (cs : List ℕ) → scalars cs ≡ true → has_control (encodes cs) ≡ false → list_all is_fine cs ≡ true
all_fine [] h k = refl
all_fine (c ∷ cs) h k =
    let parts = and_parts (scalar c) (scalars cs) h in
    let one = first_fine c (encodes cs) parts.0 k in
    and_from (is_fine c) (list_all is_fine cs) one.0 (all_fine cs parts.1 one.1)

none_fine : (text : List ℕ) → IsUtf8 text → has_control text ≡ false → Fine text
none_fine text u h = record { chars = u.0; good = all_fine u.0 u.1.0 (ap has_control u.1.1 ∙ h); spells = u.1.1 }

-- ---- rows

abbrev AllParts : List ℕ → List (List ℕ) → Type 0
AllParts pre [] = ⊥
AllParts pre (p ∷ ps) = IsUtf8 (pre ++ p) × Each IsUtf8 ps

all_parts : (ps : List (List ℕ)) → AllParts [] ps → Each IsUtf8 ps
all_parts [] h = tt
all_parts (p ∷ ps) h = h

onto_parts : (pre : List ℕ) (b : ℕ) (ps : List (List ℕ)) → AllParts (pre ++ b ∷ []) ps → AllParts pre (onto_first b ps)
onto_parts pre b [] h = absurd h
onto_parts pre b (p ∷ ps) h = (subst IsUtf8 (append_assoc pre (b ∷ []) p) h.0, h.1)

parts_by : (t : Bool) (b : ℕ) (bs pre : List ℕ) → is_line_feed b ≡ t → IsUtf8 (pre ++ b ∷ bs) →
    ((front : List ℕ) → IsUtf8 (front ++ bs) → AllParts front (slice_split is_line_feed bs)) →
    AllParts pre (cond t ([] ∷ slice_split is_line_feed bs) (onto_first b (slice_split is_line_feed bs)))
parts_by true b bs pre e u more =
    let same = eqb-true b 10 e in
    (subst IsUtf8 (sym (append-nil pre)) (utf8_before pre b bs (omega arith) u), all_parts (slice_split is_line_feed bs) (more [] (utf8_after pre b bs (omega arith) u)))
parts_by false b bs pre e u more = onto_parts pre b (slice_split is_line_feed bs) (more (pre ++ b ∷ []) (subst IsUtf8 (sym (append_assoc pre (b ∷ []) bs)) u))

parts_utf8 : (bs pre : List ℕ) → IsUtf8 (pre ++ bs) → AllParts pre (slice_split is_line_feed bs)
parts_utf8 [] pre u = (u, tt)
parts_utf8 (b ∷ bs) pre u = parts_by (is_line_feed b) b bs pre refl u (parts_utf8 bs)

return_by : (t : Bool) (b : ℕ) → nat_eq b 13 ≡ t → (cond t [] (b ∷ []) ≡ b ∷ []) ⊎ (b ∷ [] ≡ cond t [] (b ∷ []) ++ 13 ∷ [])
return_by true b e = inr (ap (λ (x : ℕ). x ∷ []) (eqb-true b 13 e))
return_by false b e = inl refl

return_more : (b : ℕ) (xs ys : List ℕ) → (xs ≡ ys) ⊎ (ys ≡ xs ++ 13 ∷ []) → (b ∷ xs ≡ b ∷ ys) ⊎ (b ∷ ys ≡ (b ∷ xs) ++ 13 ∷ [])
return_more b xs ys (inl e) = inl (ap (λ (zs : List ℕ). b ∷ zs) e)
return_more b xs ys (inr e) = inr (ap (λ (zs : List ℕ). b ∷ zs) e)

return_split : (xs : List ℕ) → (without_return xs ≡ xs) ⊎ (xs ≡ without_return xs ++ 13 ∷ [])
return_split [] = inl refl
return_split (b ∷ []) = return_by (nat_eq b 13) b refl
return_split (b ∷ c ∷ xs) = return_more b (without_return (c ∷ xs)) (c ∷ xs) (return_split (c ∷ xs))

return_utf8_by : (xs : List ℕ) → IsUtf8 xs → (without_return xs ≡ xs) ⊎ (xs ≡ without_return xs ++ 13 ∷ []) → IsUtf8 (without_return xs)
return_utf8_by xs u (inl e) = subst IsUtf8 (sym e) u
return_utf8_by xs u (inr e) = utf8_before (without_return xs) 13 [] (omega arith) (subst IsUtf8 e u)

spaces_by : (t : Bool) (b : ℕ) (bs : List ℕ) → nat_eq b 32 ≡ t → IsUtf8 (b ∷ bs) → (IsUtf8 bs → IsUtf8 (drop (spaces bs) bs)) → IsUtf8 (drop (cond t (suc (spaces bs)) 0) (b ∷ bs))
spaces_by true b bs e u more = let same = eqb-true b 32 e in more (utf8_after [] b bs (omega arith) u)
spaces_by false b bs e u more = u

spaces_utf8 : (bs : List ℕ) → IsUtf8 bs → IsUtf8 (drop (spaces bs) bs)
spaces_utf8 [] u = u
spaces_utf8 (b ∷ bs) u = spaces_by (nat_eq b 32) b bs refl u (spaces_utf8 bs)

abbrev IsText : Row → Type 0
IsText r = IsUtf8 r.text

numbered_utf8 : (n : ℕ) (ps : List (List ℕ)) → Each IsUtf8 ps → Each IsText (numbered n ps)
numbered_utf8 n [] h = tt
numbered_utf8 n (p ∷ []) h = (spaces_utf8 p h.0, tt)
numbered_utf8 n (p ∷ q ∷ ps) h = (spaces_utf8 (without_return p) (return_utf8_by p h.0 (return_split p)), numbered_utf8 (n + 1) (q ∷ ps) h.1)

abbrev pub RowFine : Row → Type 0
RowFine r = Fine r.text

both_fine : (rows : List Row) → Each IsText rows → Each (λ r. has_control r.text ≡ false) rows → Each RowFine rows
both_fine [] h k = tt
both_fine (r ∷ rows) h k = (none_fine r.text h.0 k.0, both_fine rows h.1 k.1)

mark_is : (bs : List ℕ) → 239 ∷ 187 ∷ 191 ∷ bs ≡ encode 65279 ++ bs
unfolding encode
mark_is bs = refl

mark_by : (t : Bool) (bytes : List ℕ) → ((begins 239 bytes && begins 187 (drop 1 bytes)) && begins 191 (drop 2 bytes)) ≡ t → IsUtf8 bytes → IsUtf8 (cond t (drop 3 bytes) bytes)
mark_by false bytes h u = u
mark_by true [] h u = u
mark_by true (a ∷ []) h u = let never = (and_parts (nat_eq a 239 && false) false h).1 in absurd (cc)
mark_by true (a ∷ b ∷ []) h u = let never = (and_parts (nat_eq a 239 && nat_eq b 187) false h).1 in absurd (cc)
mark_by true (a ∷ b ∷ c ∷ bs) h u =
    let parts = and_parts (nat_eq a 239 && nat_eq b 187) (nat_eq c 191) h in
    let more = and_parts (nat_eq a 239) (nat_eq b 187) parts.0 in
    IsUtf8-past_char (a ∷ b ∷ c ∷ bs) bs 65279 u (rw (eqb-true a 239 more.0, eqb-true b 187 more.1, eqb-true c 191 parts.1) (mark_is bs))

pub text_rows_fine : (bytes : List ℕ) → IsUtf8 bytes → Each (λ r. has_control r.text ≡ false) (rows_of (without_mark bytes)) → Each RowFine (rows_of (without_mark bytes))
text_rows_fine bytes u h =
    let read = mark_by ((begins 239 bytes && begins 187 (drop 1 bytes)) && begins 191 (drop 2 bytes)) bytes refl u in
    both_fine (rows_of (without_mark bytes)) (numbered_utf8 1 (slice_split is_line_feed (without_mark bytes)) (all_parts (slice_split is_line_feed (without_mark bytes)) (parts_utf8 (without_mark bytes) [] read))) h
