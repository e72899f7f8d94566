-- Steps over the bytes of a text, and where it may be cut.
use Rattle.std.proofs.Common.{◌≡◌, ℕ, suc, ◌+◌, ◌-◌, ◌<◌, Bool, true, false, cond, ◌&&◌, ◌||◌, nat_eq, List, [], ◌∷◌, length, get_or, take, drop, reverse, Option, Some, None, option_map, IsUtf8, IsCharBoundary, length-drop, refl, ap, sym, ◌∙◌, arith}
use Rattle.std.proofs.lemmas.Bool.Decides.{nat_tests}
use Rattle.std.proofs.lemmas.List.{at_drop_more, take_more, take_rest, reverse-append, reverse-reverse, get_or-drop}
use Rattle.std.proofs.lemmas.Str.{IsCharBoundary-after_ascii, IsCharBoundary-before_ascii}
use Rattle.std.proofs.lemmas.Bool.{and_parts}
use Rattle.rb_causes.specs.Texts.{is_blank}
use Rattle.rb_yaml.specs.Rows.{past_blanks}
use Rattle.rb_yaml.specs.Signs.{ends_sign, begins_sign, has_colon, colon_at, without_end}

pub blank_small : (b : ℕ) → is_blank b ≡ true → b < 128
blank_small b h = grind (arith, nat_tests)

pub past_cons : (b : ℕ) (bs : List ℕ) → is_blank b ≡ true → past_blanks (b ∷ bs) ≡ past_blanks bs
past_cons b bs h = ap (λ t. cond t (past_blanks bs) (b ∷ bs)) h

pub past_kept : (b : ℕ) (bs : List ℕ) → is_blank b ≡ false → past_blanks (b ∷ bs) ≡ b ∷ bs
past_kept b bs h = ap (λ t. cond t (past_blanks bs) (b ∷ bs)) h

-- one blank further
pub past_step : (text : List ℕ) (i : ℕ) → i < length text → is_blank (get_or text i 0) ≡ true → past_blanks (drop (i + 1) text) ≡ past_blanks (drop i text)
past_step text i l h = sym (at_drop_more past_blanks text i 0 l ∙ past_cons (get_or text i 0) (drop (i + 1) text) h)

pub past_stop : (text : List ℕ) (i : ℕ) → i < length text → is_blank (get_or text i 0) ≡ false → past_blanks (drop i text) ≡ drop i text
past_stop text i l h = at_drop_more past_blanks text i 0 l ∙ past_kept (get_or text i 0) (drop (i + 1) text) h ∙ sym (at_drop_more (λ xs. xs) text i 0 l)

pub cut_behind_blank : (text : List ℕ) (i : ℕ) → IsUtf8 text → i < length text → is_blank (get_or text i 0) ≡ true → IsCharBoundary text (i + 1)
cut_behind_blank text i u l h = IsCharBoundary-after_ascii text i u l (blank_small (get_or text i 0) h)

pub cut_before_blank : (text : List ℕ) (i : ℕ) → i < length text → is_blank (get_or text i 0) ≡ true → IsCharBoundary text i
cut_before_blank text i l h = IsCharBoundary-before_ascii text i l (blank_small (get_or text i 0) h)

-- ---- from the end

pub back_step : (text : List ℕ) (i : ℕ) → i < length text → is_blank (get_or text i 0) ≡ true → past_blanks (reverse (take i text)) ≡ past_blanks (reverse (take (i + 1) text))
back_step text i l h =
    sym (ap past_blanks (ap reverse (take_more text i 0 l) ∙ reverse-append (take i text) (get_or text i 0 ∷ [])) ∙ past_cons (get_or text i 0) (reverse (take i text)) h)

pub back_stop : (text : List ℕ) (i : ℕ) → i < length text → is_blank (get_or text i 0) ≡ false → past_blanks (reverse (take (i + 1) text)) ≡ reverse (take (i + 1) text)
back_stop text i l h =
    let e = ap reverse (take_more text i 0 l) ∙ reverse-append (take i text) (get_or text i 0 ∷ []) in
    ap past_blanks e ∙ past_kept (get_or text i 0) (reverse (take i text)) h ∙ sym e

pub back_end : (text : List ℕ) (i : ℕ) → i < length text → is_blank (get_or text i 0) ≡ false → past_blanks (reverse (take (i + 1) text)) ≡ past_blanks (reverse text) → take (i + 1) text ≡ without_end text
back_end text i l h same = sym (ap reverse (sym same ∙ back_stop text i l h) ∙ reverse-reverse (take (i + 1) text))

-- ---- signs of a key

has_colon_cons : (b : ℕ) (bs : List ℕ) → begins_sign 58 (b ∷ bs) ≡ false → has_colon (b ∷ bs) ≡ has_colon bs
has_colon_cons b bs h = ap (λ t. t || has_colon bs) h

pub has_colon_step : (text : List ℕ) (at : ℕ) → at < length text → begins_sign 58 (take (length text - at) (drop at text)) ≡ false → has_colon (drop (at + 1) text) ≡ has_colon (drop at text)
has_colon_step text at l h =
    let here : begins_sign 58 (get_or text at 0 ∷ drop (at + 1) text) ≡ false = sym (at_drop_more (begins_sign 58) text at 0 l) ∙ ap (begins_sign 58) (sym (take_rest text at)) ∙ h in
    sym (at_drop_more has_colon text at 0 l ∙ has_colon_cons (get_or text at 0) (drop (at + 1) text) here)

option_map_suc : (at : ℕ) (o : Option ℕ) → option_map (λ k. at + k) (option_map suc o) ≡ option_map (λ k. at + 1 + k) o
option_map_suc at None = refl
option_map_suc at (Some k) = ap Some (omega arith)

colon_at_cons : (blank : Bool) (b : ℕ) (bs : List ℕ) → (blank && nat_eq b 35) ≡ false → begins_sign 58 (b ∷ bs) ≡ false → colon_at blank (b ∷ bs) ≡ option_map suc (colon_at (is_blank b) bs)
colon_at_cons blank b bs h k =
    ap (λ t. cond t None (cond (begins_sign 58 (b ∷ bs)) (Some 0) (option_map suc (colon_at (is_blank b) bs)))) h
    ∙ ap (λ t. cond t (Some 0) (option_map suc (colon_at (is_blank b) bs))) k

pub colon_at_step : (blank : Bool) (text : List ℕ) (at : ℕ) → at < length text → (blank && nat_eq (get_or text at 0) 35) ≡ false → begins_sign 58 (take (length text - at) (drop at text)) ≡ false →
    option_map (λ k. at + 1 + k) (colon_at (is_blank (get_or text at 0)) (drop (at + 1) text)) ≡ option_map (λ k. at + k) (colon_at blank (drop at text))
colon_at_step blank text at l h k =
    let here : begins_sign 58 (get_or text at 0 ∷ drop (at + 1) text) ≡ false = sym (at_drop_more (begins_sign 58) text at 0 l) ∙ ap (begins_sign 58) (sym (take_rest text at)) ∙ k in
    sym (ap (option_map (λ n. at + n)) (at_drop_more (colon_at blank) text at 0 l ∙ colon_at_cons blank (get_or text at 0) (drop (at + 1) text) h here)
    ∙ option_map_suc at (colon_at (is_blank (get_or text at 0)) (drop (at + 1) text)))

pub colon_at_more : (blank : Bool) (text : List ℕ) (at : ℕ) (comment sign next : Bool) → at < length text →
    comment ≡ (blank && nat_eq (get_or text at 0) 35) → comment ≡ false → sign ≡ begins_sign 58 (take (length text - at) (drop at text)) → sign ≡ false → next ≡ is_blank (get_or text at 0) →
    option_map (λ k. at + k) (colon_at blank (drop at text)) ≡ colon_at false text → option_map (λ k. at + 1 + k) (colon_at next (drop (at + 1) text)) ≡ colon_at false text
colon_at_more blank text at comment sign next l is_comment no_comment is_sign no_sign is_next same =
    ap (λ b. option_map (λ k. at + 1 + k) (colon_at b (drop (at + 1) text))) is_next
    ∙ colon_at_step blank text at l (sym is_comment ∙ no_comment) (sym is_sign ∙ no_sign) ∙ same

found_cons : (comment sign : Bool) (b : ℕ) (bs : List ℕ) (o : Option ℕ) (k : ℕ) → sign ≡ begins_sign 58 (b ∷ bs) →
    ((j : ℕ) → o ≡ Some j → (j < length bs) × (get_or bs j 0 ≡ 58)) → cond comment None (cond sign (Some 0) (option_map suc o)) ≡ Some k → (k < length (b ∷ bs)) × (get_or (b ∷ bs) k 0 ≡ 58)
found_cons true sign b bs o k s more h = absurd (cc)
found_cons false true b bs o k s more h =
    let zero_is : 0 ≡ k = cc in
    let colon : nat_eq b 58 ≡ true = (and_parts (nat_eq b 58) (ends_sign bs) (sym s)).0 in
    (omega (arith, zero_is), ap (λ n. get_or (b ∷ bs) n 0) (sym zero_is) ∙ colon_is b colon)
  where
    colon_is : (n : ℕ) → nat_eq n 58 ≡ true → n ≡ 58
    colon_is n e = grind (arith, nat_tests)
found_cons false false b bs None k s more h = absurd (cc)
found_cons false false b bs (Some j) k s more h =
    let suc_is : suc j ≡ k = cc in
    let inner = more j refl in
    (omega (arith, suc_is, inner.0), ap (λ n. get_or (b ∷ bs) n 0) (sym suc_is) ∙ inner.1)

-- where a colon was found one stands
pub colon_found : (blank : Bool) (bs : List ℕ) (k : ℕ) → colon_at blank bs ≡ Some k → (k < length bs) × (get_or bs k 0 ≡ 58)
colon_found blank [] k h = absurd (cc)
colon_found blank (b ∷ bs) k h = found_cons (blank && nat_eq b 35) (begins_sign 58 (b ∷ bs)) b bs (colon_at (is_blank b) bs) k refl (colon_found (is_blank b) bs) h

-- the same for a text's bytes behind its first
pub colon_in_text : (text : List ℕ) (at : ℕ) → colon_at false (drop 1 text) ≡ Some at → (at + 1 < length text) × (get_or text (at + 1) 0 ≡ 58)
colon_in_text text at h =
    let found = colon_found false (drop 1 text) at h in
    (omega (arith, found.0, length-drop 1 text), ap (λ n. get_or text n 0) (omega arith) ∙ sym (get_or-drop 1 text at 0) ∙ found.1)

pub cut_before_colon : (text : List ℕ) (at : ℕ) → at < length text → get_or text at 0 ≡ 58 → IsCharBoundary text at
cut_before_colon text at l h = IsCharBoundary-before_ascii text at l (omega (arith, h))
