-- Plain scalars of a flow, and where a text may be cut behind one.
use Rattle.std.proofs.Common.{◌≡◌, ℕ, suc, ◌<◌, ◌≤◌, Bool, true, false, cond, ◌&&◌, ◌||◌, nat_eq, List, [], ◌∷◌, ◌++◌, length, get_or, take, drop, reverse, IsUtf8, IsCharBoundary, refl, ap, sym, ◌∙◌, subst, length-append, length-take, length-drop, arith}
use Rattle.std.proofs.lemmas.Bool.Decides.{nat_tests}
use Rattle.std.proofs.lemmas.List.{take_at, take-take, reverse-append, reverse-reverse}
use Rattle.std.proofs.lemmas.Str.{IsCharBoundary-from_take}
use Rattle.rb_causes.specs.Texts.{is_blank}
use Rattle.rb_yaml.specs.Rows.{past_blanks}
use Rattle.rb_yaml.specs.Signs.{ends_sign, without_end}
use Rattle.rb_yaml.specs.FlowScalars.{ends_plain, plain_len, word_len}

small_by : (b close : ℕ) (blank key sign : Bool) → close < 128 → (((nat_eq b 44 || nat_eq b close) || (blank && nat_eq b 35)) || (key && (nat_eq b 58 && sign))) ≡ true → b < 128
small_by b close blank key sign l h = grind (arith, nat_tests)

ends_small : (key : Bool) (close : ℕ) (blank : Bool) (b : ℕ) (bs : List ℕ) → close < 128 → ends_plain key close blank (b ∷ bs) ≡ true → b < 128
ends_small key close blank b bs l h = small_by b close blank key (ends_sign bs) l h

place_cons : (t : Bool) (key : Bool) (close : ℕ) (blank : Bool) (b : ℕ) (bs : List ℕ) → close < 128 → ends_plain key close blank (b ∷ bs) ≡ t →
    (plain_len key close (is_blank b) bs < length bs → get_or bs (plain_len key close (is_blank b) bs) 0 < 128) →
    plain_len key close blank (b ∷ bs) < length (b ∷ bs) → get_or (b ∷ bs) (plain_len key close blank (b ∷ bs)) 0 < 128
place_cons true key close blank b bs l h more within =
    subst (λ (n : ℕ). get_or (b ∷ bs) n 0 < 128) (sym (ap (λ t. cond t 0 (suc (plain_len key close (is_blank b) bs))) h)) (ends_small key close blank b bs l h)
place_cons false key close blank b bs l h more within =
    let n : plain_len key close blank (b ∷ bs) ≡ suc (plain_len key close (is_blank b) bs) = ap (λ t. cond t 0 (suc (plain_len key close (is_blank b) bs))) h in
    subst (λ (n : ℕ). get_or (b ∷ bs) n 0 < 128) (sym n) (more (omega (arith, n, within)))

plain_place : (key : Bool) (close : ℕ) (blank : Bool) (bs : List ℕ) → close < 128 → plain_len key close blank bs < length bs → get_or bs (plain_len key close blank bs) 0 < 128
plain_place key close blank [] l within = absurd (omega (arith, within))
plain_place key close blank (b ∷ bs) l within = place_cons (ends_plain key close blank (b ∷ bs)) key close blank b bs l refl (plain_place key close (is_blank b) bs l) within

-- a text may be cut behind a plain scalar and its blanks
pub word_cut : (key : Bool) (close : ℕ) (text : List ℕ) (n : ℕ) → close < 128 → n ≡ word_len key close text → n ≤ length text → IsCharBoundary text n
word_cut key close [] n l is_n le = (le, λ within. absurd (omega (arith, within)))
word_cut key close (b ∷ bs) n l is_n le = (
  le,
  λ within big.
      let place = plain_place key close (is_blank b) bs l (omega (arith, within, is_n)) in
      let same : get_or (b ∷ bs) n 0 ≡ get_or bs (plain_len key close (is_blank b) bs) 0 = ap (λ k. get_or (b ∷ bs) k 0) is_n in
      absurd (omega (arith, big, same, place)),
)

-- ---- a text without its end is a front of it

past_cons : (t : Bool) (b : ℕ) (bs : List ℕ) → is_blank b ≡ t → (ws : List ℕ) × (bs ≡ ws ++ past_blanks bs) → (ws : List ℕ) × (b ∷ bs ≡ ws ++ past_blanks (b ∷ bs))
past_cons true b bs h more = (b ∷ more.0, rw h (ap (λ xs. b ∷ xs) more.1))
past_cons false b bs h more = ([], rw h refl)

past_split : (ys : List ℕ) → (ws : List ℕ) × (ys ≡ ws ++ past_blanks ys)
past_split [] = ([], refl)
past_split (b ∷ bs) = past_cons (is_blank b) b bs refl (past_split bs)

pub end_split : (xs : List ℕ) → (ws : List ℕ) × (xs ≡ without_end xs ++ ws)
end_split xs =
    let split = past_split (reverse xs) in
    (reverse split.0, sym (reverse-reverse xs) ∙ ap reverse split.1 ∙ reverse-append split.0 (past_blanks (reverse xs)))

front_take : (xs word ws : List ℕ) → xs ≡ word ++ ws → take (length word) xs ≡ word
front_take xs word ws e = ap (take (length word)) e ∙ take_at word ws (length word) refl

-- a text may be cut behind a word that begins it
pub word_end_cut : (text word : List ℕ) (end : ℕ) → IsUtf8 text → IsUtf8 word → end ≤ length text → word ≡ without_end (take end text) → IsCharBoundary text (length word)
word_end_cut text word end u uw le is_word =
    let split = end_split (take end text) in
    let front : take end text ≡ word ++ split.0 = split.1 ∙ ap (λ xs. xs ++ split.0) (sym is_word) in
    let n : length word ≤ end = omega (arith, ap length front, length-append word split.0, length-take end text) in
    let whole : take (length word) text ≡ word = sym (take-take (length word) end text n) ∙ front_take (take end text) word split.0 front in
    IsCharBoundary-from_take text (length word) u (omega (arith, n, le)) (subst IsUtf8 (sym whole) uw)

-- what is behind the first byte and the blanks there is no longer than the text
pub behind_shorter : (text behind past : List ℕ) → behind ≡ drop 1 text → past ≡ past_blanks behind → length past ≤ length text
behind_shorter text behind past is_behind is_past =
    let split = past_split behind in
    omega (arith, ap length split.1, length-append split.0 (past_blanks behind), ap length is_past, ap length is_behind, length-drop 1 text)
