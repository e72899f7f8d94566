-- Lines as rows, one after the other.
use Rattle.std.proofs.Common.{◌≡◌, ◌≢◌, ℕ, zero, suc, ◌+◌, ◌-◌, ◌<◌, Bool, true, false, cond, nat_eq, List, [], ◌∷◌, ◌++◌, length, get_or, take, drop, refl, ap, sym, ◌∙◌, append_assoc, IsUtf8, IsCharBoundary, arith}
use Rattle.std.specs.List.{slice_split, onto_first, before_first, after_first, position_or_len}
use Rattle.std.proofs.lemmas.Bool.Decides.{nat_tests}
use Rattle.std.proofs.lemmas.List.{at_drop_more}
use Rattle.std.proofs.lemmas.List.Splits.{slice_split_first}
use Rattle.std.proofs.lemmas.Str.{IsCharBoundary-after_ascii}
use Rattle.rb_causes.specs.Texts.{is_line_feed}
use Rattle.rb_yaml.specs.Rows.{Row, spaces, row_of, without_return, numbered}

spaces_cons : (b : ℕ) (bs : List ℕ) → nat_eq b 32 ≡ true → spaces (b ∷ bs) ≡ suc (spaces bs)
spaces_cons b bs h = ap (λ t. cond t (suc (spaces bs)) 0) h

pub spaces_step : (text : List ℕ) (i : ℕ) → i < length text → get_or text i 0 ≡ 32 → i + 1 + spaces (drop (i + 1) text) ≡ i + spaces (drop i text)
spaces_step text i l h =
    let space : nat_eq (get_or text i 0) 32 ≡ true = grind (arith, nat_tests) in
    let one : spaces (drop i text) ≡ suc (spaces (drop (i + 1) text)) = at_drop_more spaces text i 0 l ∙ spaces_cons (get_or text i 0) (drop (i + 1) text) space in
    omega (arith, one)

pub cut_behind_space : (text : List ℕ) (i : ℕ) → IsUtf8 text → i < length text → get_or text i 0 ≡ 32 → IsCharBoundary text (i + 1)
cut_behind_space text i u l h = IsCharBoundary-after_ascii text i u l (omega (arith, h))

-- ---- carriage returns

pub return_kept : (text : List ℕ) (last : ℕ) → suc last ≡ length text → get_or text last 0 ≢ 13 → without_return text ≡ text
return_kept [] last e h = refl
return_kept (b ∷ []) zero e h = let no : nat_eq b 13 ≡ false = grind (arith, nat_tests, h) in ap (λ t. cond t [] (b ∷ [])) no
return_kept (b ∷ []) (suc last) e h = absurd (omega (arith, e))
return_kept (b ∷ c ∷ bs) zero e h = absurd (omega (arith, e))
return_kept (b ∷ c ∷ bs) (suc last) e h = ap (λ xs. b ∷ xs) (return_kept (c ∷ bs) last (omega (arith, e)) h)

pub return_dropped : (text : List ℕ) (last : ℕ) → suc last ≡ length text → get_or text last 0 ≡ 13 → without_return text ≡ take last text
return_dropped [] last e h = absurd (omega (arith, e))
return_dropped (b ∷ []) zero e h = let yes : nat_eq b 13 ≡ true = grind (arith, nat_tests, h) in ap (λ t. cond t [] (b ∷ [])) yes
return_dropped (b ∷ []) (suc last) e h = absurd (omega (arith, e))
return_dropped (b ∷ c ∷ bs) zero e h = absurd (omega (arith, e))
return_dropped (b ∷ c ∷ bs) (suc last) e h = ap (λ xs. b ∷ xs) (return_dropped (c ∷ bs) last (omega (arith, e)) h)

-- ---- one line more

numbered_cons : (number : ℕ) (line : List ℕ) (parts : List (List ℕ)) → 0 < length parts → numbered number (line ∷ parts) ≡ row_of number (without_return line) ∷ numbered (number + 1) parts
numbered_cons number line [] l = absurd (omega (arith, l))
numbered_cons number line (next ∷ lines) l = refl

split_onto : (x : ℕ) (parts : List (List ℕ)) → 0 < length (onto_first x parts)
split_onto x [] = omega arith
split_onto x (part ∷ parts) = omega arith

split_test : (t : Bool) (x : ℕ) (parts : List (List ℕ)) → 0 < length (cond t ([] ∷ parts) (onto_first x parts))
split_test true x parts = omega arith
split_test false x parts = split_onto x parts

split_some : (p : ℕ → Bool) (bs : List ℕ) → 0 < length (slice_split p bs)
split_some p [] = omega arith
split_some p (b ∷ bs) = split_test (p b) b (slice_split p bs)

-- the rows of a text that has a line feed: the first, and those behind it
pub numbered_first : (number : ℕ) (bs : List ℕ) → position_or_len is_line_feed bs < length bs →
    numbered number (slice_split is_line_feed bs) ≡ row_of number (without_return (before_first is_line_feed bs)) ∷ numbered (number + 1) (slice_split is_line_feed (after_first is_line_feed bs))
numbered_first number bs l =
    ap (numbered number) (slice_split_first is_line_feed bs 0 l)
    ∙ numbered_cons number (before_first is_line_feed bs) (slice_split is_line_feed (after_first is_line_feed bs)) (split_some is_line_feed (after_first is_line_feed bs))

-- the rows so far and those that are left, after one line more
pub rows_more : (lines more : List Row) (line : Row) (number next : ℕ) (rest front behind : List ℕ) (all : List Row) →
    position_or_len is_line_feed rest < length rest → front ≡ before_first is_line_feed rest → behind ≡ after_first is_line_feed rest →
    more ≡ lines ++ line ∷ [] → line ≡ row_of number (without_return front) → next ≡ number + 1 →
    lines ++ numbered number (slice_split is_line_feed rest) ≡ all → more ++ numbered next (slice_split is_line_feed behind) ≡ all
rows_more lines more line number next rest front behind all l is_front is_behind is_more is_line is_next same =
    ap (λ xs. xs ++ numbered next (slice_split is_line_feed behind)) is_more
    ∙ append_assoc lines (line ∷ []) (numbered next (slice_split is_line_feed behind))
    ∙ ap (λ x. lines ++ x ∷ numbered next (slice_split is_line_feed behind)) (is_line ∙ ap (λ xs. row_of number (without_return xs)) is_front)
    ∙ ap (λ n. lines ++ row_of number (without_return (before_first is_line_feed rest)) ∷ numbered n (slice_split is_line_feed behind)) is_next
    ∙ ap (λ xs. lines ++ row_of number (without_return (before_first is_line_feed rest)) ∷ numbered (number + 1) (slice_split is_line_feed xs)) is_behind
    ∙ ap (λ xs. lines ++ xs) (sym (numbered_first number rest l)) ∙ same

-- the last line
pub rows_last : (lines more : List Row) (line : Row) (number : ℕ) (rest : List ℕ) (all : List Row) →
    slice_split is_line_feed rest ≡ rest ∷ [] → more ≡ lines ++ line ∷ [] → line ≡ row_of number rest →
    lines ++ numbered number (slice_split is_line_feed rest) ≡ all → more ≡ all
rows_last lines more line number rest all one is_more is_line same =
    is_more ∙ ap (λ x. lines ++ x ∷ []) is_line ∙ sym (ap (λ xs. lines ++ numbered number xs) one) ∙ same

none_cons : (t : Bool) (b : ℕ) (bs : List ℕ) → is_line_feed b ≡ t → (position_or_len is_line_feed bs ≡ length bs → slice_split is_line_feed bs ≡ bs ∷ []) →
    position_or_len is_line_feed (b ∷ bs) ≡ length (b ∷ bs) → slice_split is_line_feed (b ∷ bs) ≡ (b ∷ bs) ∷ []
none_cons true b bs h more e = absurd (omega (arith, rw h at e))
none_cons false b bs h more e = rw h (ap (onto_first b) (more (omega (arith, rw h at e))))

-- a text without a line feed is one line
pub split_none : (bs : List ℕ) → position_or_len is_line_feed bs ≡ length bs → slice_split is_line_feed bs ≡ bs ∷ []
split_none [] e = refl
split_none (b ∷ bs) e = none_cons (is_line_feed b) b bs refl (split_none bs) e

pub last_place : (bytes text : List ℕ) (empty : Bool) → bytes ≡ text → empty ≡ nat_eq (length bytes) 0 → empty ≡ false → suc (length text - 1) ≡ length text
last_place bytes text empty same is_empty not_empty = let l = ap length same in grind (arith, nat_tests)
