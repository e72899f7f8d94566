-- What is left of a text whose blanks were cut off, one after another, at its front or at its end.
use Rattle.std.proofs.Common.{◌≡◌, refl, sym, ap, ◌∙◌, subst, ℕ, ◌-◌, ◌<◌, Bool, true, false, List, [], ◌∷◌, ◌++◌, reverse, take, drop, length, Option, Some, None, IfSome, arith, encode_utf8}
use Rattle.std.specs.Char.{IsScalar, char_set_contains}
use Rattle.std.specs.Str.Pattern.{HasPassingCharAt, FindsPrefixBy, FindsSuffixBy, CutsPrefixes, CutsSuffixes, IsTrimStartMatches, IsTrimEndMatches}
use Rattle.std.proofs.Math.Seq.{drop-length}
use Rattle.std.proofs.lemmas.Grind.{common_steps}
use Rattle.std.proofs.lemmas.Str.{encode_ascii, len_utf8_ascii}
use Rattle.std.proofs.lemmas.Str.Pattern.{drop_at_char}
use Rattle.std.proofs.lemmas.List.{reverse-append, reverse-reverse, take-append-drop}
use Rattle.rb_causes.specs.Texts.{is_trimmed_off, from_text}

-- the text without the blanks at its end
abbrev pub to_text : List ℕ → List ℕ
to_text s = reverse (from_text (reverse s))

are_blanks : (c : ℕ) → char_set_contains (32 ∷ 9 ∷ 13 ∷ 10 ∷ []) c ≡ is_trimmed_off c
are_blanks c = grind (arith, common_steps)

low : (c : ℕ) → is_trimmed_off c ≡ true → c < 128
low c e = grind (arith, common_steps)

scalar : (c : ℕ) → c < 128 → IsScalar c
scalar c l = grind (arith, common_steps)

passed : (c : ℕ) (s : List ℕ) → is_trimmed_off c ≡ true → from_text (c ∷ s) ≡ from_text s
passed c s e = rw (e)

kept : (c : ℕ) (s : List ℕ) → is_trimmed_off c ≡ false → from_text (c ∷ s) ≡ c ∷ s
kept c s e = rw (e)

-- one character fewer at the front
front_step : (s : List ℕ) (n : ℕ) → HasPassingCharAt is_trimmed_off s 0 n → from_text s ≡ from_text (drop n s)
front_step s n at = ap from_text (drop_at_char at.0 s 0 n at.2 (low at.0 at.1)) ∙ passed at.0 (drop n s) at.1

not_empty : (s : List ℕ) (i : ℕ) → HasPassingCharAt is_trimmed_off s i i → ⊥
not_empty s i at = omega (arith, at.2.ends, len_utf8_ascii at.0 (low at.0 at.1))

first_is_kept : (b : ℕ) (bs : List ℕ) (r : Bool) → is_trimmed_off b ≡ r → (is_trimmed_off b ≡ true → is_trimmed_off b ≡ false) → from_text (b ∷ bs) ≡ b ∷ bs
first_is_kept b bs false e h = kept b bs e
first_is_kept b bs true e h = kept b bs (h e)

front_end : (s : List ℕ) (o : Option ℕ) → FindsPrefixBy is_trimmed_off s o → IfSome o (λ n. n ≡ 0) → from_text s ≡ s
front_end s (Some n) at e = absurd (not_empty s 0 (subst (λ k. HasPassingCharAt is_trimmed_off s 0 k) e at))
front_end [] None h _ = refl
front_end (b ∷ bs) None h _ =
    first_is_kept b bs (is_trimmed_off b) refl (λ e. h b bs (scalar b (low b e)) (ap (λ l. l ++ bs) (sym (encode_ascii b (low b e)))))

front_cuts : (R : List ℕ → Option ℕ → Type 0) → ((m : List ℕ) (o : Option ℕ) → R m o → FindsPrefixBy is_trimmed_off m o) → (ns : List ℕ) (s r : List ℕ) → CutsPrefixes R s ns r → from_text s ≡ from_text r
front_cuts R only [] s r cut = ap from_text (sym cut)
front_cuts R only (n ∷ ns) s r cut = front_cuts R only ns s cut.0 cut.1 ∙ front_step cut.0 n (only cut.0 (Some n) cut.2) ∙ ap from_text (sym cut.3)

-- what a pattern of the four blanks finds at the front of a text
abbrev pub FindsBlankInFront : List ℕ → Option ℕ → Type 0
FindsBlankInFront s o = (t : ℕ → Bool) → ((c : ℕ) → char_set_contains (32 ∷ 9 ∷ 13 ∷ 10 ∷ []) c ≡ t c) → FindsPrefixBy t s o

pub front_trimmed : (s r : List ℕ) → IsTrimStartMatches FindsBlankInFront s r → r ≡ from_text s
front_trimmed s r trim =
    let only : (m : List ℕ) (o : Option ℕ) → FindsBlankInFront m o → FindsPrefixBy is_trimmed_off m o = λ m o finds. finds is_trimmed_off are_blanks in
    sym (front_cuts FindsBlankInFront only trim.0.0 s r trim.0.1 ∙ front_end r trim.1.0 (only r trim.1.0 trim.1.1) trim.1.2)

-- the same at the end, where the last character is the first of the text read backwards

last_passed : (front : List ℕ) (c : ℕ) → is_trimmed_off c ≡ true → to_text (front ++ c ∷ []) ≡ to_text front
last_passed front c e = ap (λ l. reverse (from_text l)) (reverse-append front (c ∷ [])) ∙ ap reverse (passed c (reverse front) e)

back_split : (s : List ℕ) (n : ℕ) (at : HasPassingCharAt is_trimmed_off s (length s - n) (length s)) → s ≡ take (length s - n) s ++ at.0 ∷ []
back_split s n at =
    let last = drop_at_char at.0 s (length s - n) (length s) at.2 (low at.0 at.1) ∙ ap (λ l. at.0 ∷ l) (drop-length s) in
    sym (take-append-drop (length s - n) s) ∙ ap (λ l. take (length s - n) s ++ l) last

back_step : (s : List ℕ) (n : ℕ) → HasPassingCharAt is_trimmed_off s (length s - n) (length s) → to_text s ≡ to_text (take (length s - n) s)
back_step s n at = ap to_text (back_split s n at) ∙ last_passed (take (length s - n) s) at.0 at.1

back_first : (s ys : List ℕ) → reverse s ≡ ys → ((c : ℕ) (front : List ℕ) → IsScalar c → s ≡ front ++ encode_utf8 c → is_trimmed_off c ≡ false) → from_text ys ≡ ys
back_first s [] e h = refl
back_first s (c ∷ ys) e h =
    let back : s ≡ reverse ys ++ c ∷ [] = sym (reverse-reverse s) ∙ ap reverse e ∙ reverse-append (c ∷ []) ys in
    first_is_kept c ys (is_trimmed_off c) refl (λ blank. h c (reverse ys) (scalar c (low c blank)) (back ∙ ap (λ l. reverse ys ++ l) (sym (encode_ascii c (low c blank)))))

back_end : (s : List ℕ) (o : Option ℕ) → FindsSuffixBy is_trimmed_off s o → IfSome o (λ n. n ≡ 0) → to_text s ≡ s
back_end s (Some n) at e =
    let here : length s - n ≡ length s = omega (arith, e) in
    absurd (not_empty s (length s) (subst (λ k. HasPassingCharAt is_trimmed_off s k (length s)) here at))
back_end s None h _ = ap reverse (back_first s (reverse s) refl h) ∙ reverse-reverse s

back_cuts : (R : List ℕ → Option ℕ → Type 0) → ((m : List ℕ) (o : Option ℕ) → R m o → FindsSuffixBy is_trimmed_off m o) → (ns : List ℕ) (s r : List ℕ) → CutsSuffixes R s ns r → to_text s ≡ to_text r
back_cuts R only [] s r cut = ap to_text (sym cut)
back_cuts R only (n ∷ ns) s r cut = back_cuts R only ns s cut.0 cut.1 ∙ back_step cut.0 n (only cut.0 (Some n) cut.2) ∙ ap to_text (sym cut.3)

-- what a pattern of the four blanks finds at the end of a text
abbrev pub FindsBlankAtEnd : List ℕ → Option ℕ → Type 0
FindsBlankAtEnd s o = (t : ℕ → Bool) → ((c : ℕ) → char_set_contains (32 ∷ 9 ∷ 13 ∷ 10 ∷ []) c ≡ t c) → FindsSuffixBy t s o

pub back_trimmed : (s r : List ℕ) → IsTrimEndMatches FindsBlankAtEnd s r → r ≡ to_text s
back_trimmed s r trim =
    let only : (m : List ℕ) (o : Option ℕ) → FindsBlankAtEnd m o → FindsSuffixBy is_trimmed_off m o = λ m o finds. finds is_trimmed_off are_blanks in
    sym (back_cuts FindsBlankAtEnd only trim.0.0 s r trim.0.1 ∙ back_end r trim.1.0 (only r trim.1.0 trim.1.1) trim.1.2)
