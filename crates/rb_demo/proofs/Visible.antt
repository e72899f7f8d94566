-- Bytes that are no signs of their own: digits, and what may stand on a line.
use Rattle.std.proofs.Common.{◌≡◌, ℕ, zero, suc, ◌≤◌, ◌<◌, ◌^◌, Bool, true, false, ◌&&◌, nat_le, List, [], ◌∷◌, ◌++◌, reverse, decimal, refl, sym, ap, subst, ◌∙◌, arith}
use Rattle.std.specs.Str.{IsAscii, IsUtf8, is_utf8}
use Rattle.std.specs.Str.Parse.{AllDigits}
use Rattle.std.specs.List.{slice_split, onto_first, list_all, AllByRecursion as Each}
use Rattle.std.proofs.lemmas.Fmt.{decimal_is_IsNumeral}
use Rattle.std.proofs.lemmas.Str.{IsUtf8-from_ascii, is_utf8-from_IsUtf8}
use Rattle.std.proofs.lemmas.Str.Parse.{digit_from_value}
use Rattle.std.proofs.lemmas.List.{reverse-append, reverse-reverse}
use Rattle.std.proofs.lemmas.List.Splits.{slice_split-cons_no}
use Rattle.std.proofs.lemmas.Bool.{ne_eqb, leb-true, le-ltb, and_parts}
use Rattle.rb_causes.specs.Signs.{line_feed}
use Rattle.rb_causes.specs.Texts.{is_blank, is_line_feed}
use Rattle.rb_yaml.specs.Rows.{past_blanks, without_return}
use Rattle.rb_yaml.specs.Signs.{without_end}
use Rattle.rb_yaml.specs.Documents.{begins_control, has_control}
use Rattle.rb_yaml_laws.proofs.RowFacts.{each_append, each_weak}
use Rattle.rb_demo.specs.Texts.{lines}

-- ---- kinds of bytes

-- space to tilde
abbrev pub IsSeen : ℕ → Type 0
IsSeen b = (32 ≤ b) × (b ≤ 126)

abbrev pub IsDigit : ℕ → Type 0
IsDigit b = (48 ≤ b) × (b ≤ 57)

from_digits : (ds : List ℕ) → AllDigits 10 ds → Each IsDigit ds
from_digits [] h = tt
from_digits (c ∷ cs) h = ((omega (arith, digit_from_value c h.0), omega (arith, digit_from_value c h.0)), from_digits cs h.1)

pub decimal_digits : (n : ℕ) → n < 2 ^ 64 → Each IsDigit (decimal n)
decimal_digits n h = from_digits (decimal n) (decimal_is_IsNumeral n h).0.1

pub digits_seen : (ds : List ℕ) → Each IsDigit ds → Each IsSeen ds
digits_seen ds h = each_weak IsDigit IsSeen (λ b d. (omega (arith, d.0), omega (arith, d.1))) ds h

abbrev pub is_seen : ℕ → Bool
is_seen b = nat_le 32 b && nat_le b 126

-- a written text is one of such bytes where a test of each says so
pub seen_by_test : (bs : List ℕ) → list_all is_seen bs ≡ true → Each IsSeen bs
seen_by_test [] h = tt
seen_by_test (b ∷ bs) h =
    let at = (and_parts (is_seen b) (list_all is_seen bs) h).0 in
    ((leb-true 32 b ((and_parts (nat_le 32 b) (nat_le b 126) at).0), leb-true b 126 ((and_parts (nat_le 32 b) (nat_le b 126) at).1)), seen_by_test bs ((and_parts (is_seen b) (list_all is_seen bs) h).1))

-- ---- a line of such bytes

seen_control : (b : ℕ) (bs : List ℕ) → IsSeen b → begins_control (b ∷ bs) ≡ false
seen_control b bs h = rw (le-ltb b 32 h.0, ne_eqb b 127 (λ e. omega (arith, e, h.1)), ne_eqb b 194 (λ e. omega (arith, e, h.1))) refl

pub no_control : (bs : List ℕ) → Each IsSeen bs → has_control bs ≡ false
no_control [] h = refl
no_control (b ∷ bs) h = rw (seen_control b bs h.0) (no_control bs h.1)

pub no_return : (bs : List ℕ) → Each IsSeen bs → without_return bs ≡ bs
no_return [] h = refl
no_return (b ∷ []) h = rw (ne_eqb b 13 (λ e. omega (arith, e, h.0.0))) refl
no_return (b ∷ c ∷ bs) h = ap (λ cs. b ∷ cs) (no_return (c ∷ bs) h.1)

split_line : (line rest : List ℕ) → Each IsSeen line → slice_split is_line_feed (line ++ line_feed ∷ rest) ≡ line ∷ slice_split is_line_feed rest
split_line [] rest h = refl
split_line (b ∷ line) rest h =
    slice_split-cons_no is_line_feed b (line ++ line_feed ∷ rest) (ne_eqb b 10 (λ e. omega (arith, e, h.0.0))) ∙ ap (onto_first b) (split_line line rest h.1)

-- the lines of a text are cut apart again, with an empty one behind the last
pub split_lines : (ls : List (List ℕ)) → Each (Each IsSeen) ls → slice_split is_line_feed (lines ls) ≡ ls ++ [] ∷ []
split_lines [] h = refl
split_lines (l ∷ ls) h = split_line l (lines ls) h.0 ∙ ap (λ xs. l ∷ xs) (split_lines ls h.1)

-- ---- UTF-8

abbrev IsLow : ℕ → Type 0
IsLow b = b < 128

low_ascii : (bs : List ℕ) → Each IsLow bs → IsAscii bs
low_ascii [] h i = omega arith
low_ascii (b ∷ bs) h zero = h.0
low_ascii (b ∷ bs) h (suc i) = low_ascii bs h.1 i

pub seen_utf8 : (bs : List ℕ) → Each IsSeen bs → IsUtf8 bs
seen_utf8 bs h = IsUtf8-from_ascii bs (low_ascii bs (each_weak IsSeen IsLow (λ b s. omega (arith, s.1)) bs h))

lines_low : (ls : List (List ℕ)) → Each (Each IsSeen) ls → Each IsLow (lines ls)
lines_low [] h = tt
lines_low (l ∷ ls) h =
    each_append IsLow l (line_feed ∷ lines ls) (each_weak IsSeen IsLow (λ b s. omega (arith, s.1)) l h.0) (omega arith, lines_low ls h.1)

pub lines_utf8 : (ls : List (List ℕ)) → Each (Each IsSeen) ls → is_utf8 (lines ls) ≡ true
lines_utf8 ls h = is_utf8-from_IsUtf8 (lines ls) (IsUtf8-from_ascii (lines ls) (low_ascii (lines ls) (lines_low ls h)))

-- ---- no blank at the end

abbrev IsDark : ℕ → Type 0
IsDark b = is_blank b ≡ false

past_dark : (bs : List ℕ) → Each IsDark bs → past_blanks bs ≡ bs
past_dark [] h = refl
past_dark (b ∷ bs) h = rw h.0 refl

dark_reverse : (bs : List ℕ) → Each IsDark bs → Each IsDark (reverse bs)
dark_reverse [] h = tt
dark_reverse (b ∷ bs) h = subst (Each IsDark) (sym (reverse-append (b ∷ []) bs)) (each_append IsDark (reverse bs) (b ∷ []) (dark_reverse bs h.1) (h.0, tt))

above_dark : (b : ℕ) → 33 ≤ b → IsDark b
above_dark b h = rw (ne_eqb b 32 (λ e. omega (arith, e, h)), ne_eqb b 9 (λ e. omega (arith, e, h))) refl

pub all_kept : (bs : List ℕ) → Each (λ b. 33 ≤ b) bs → without_end bs ≡ bs
all_kept bs h =
    let dark = each_weak (λ b. 33 ≤ b) IsDark above_dark bs h in
    ap reverse (past_dark (reverse bs) (dark_reverse bs dark)) ∙ reverse-reverse bs
