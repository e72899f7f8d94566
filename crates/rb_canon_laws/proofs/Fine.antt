-- Texts as characters of which none is a control character but tab and line feed.
use Rattle.std.proofs.Common.{◌≡◌, ◌⊎◌, inl, inr, ◌<◌, ℕ, ◌+◌, Bool, true, false, not, ◌&&◌, ◌||◌, cond, nat_eq, nat_lt, nat_le, List, [], ◌∷◌, ◌++◌, length, drop, reverse, get_or, refl, sym, ap, subst, ◌∙◌, arith, append_assoc, append-nil, length-append}
use Rattle.std.proofs.lemmas.Bool.{eqb-true, and_parts, and_from, or_cases}
use Rattle.std.proofs.lemmas.Bool.Decides.{nat_tests}
use Rattle.std.proofs.lemmas.List.{take_at, drop_at, reverse-append, reverse-reverse}
use Rattle.std.proofs.lemmas.List.Folds.{list_all-append}
use Rattle.std.proofs.lemmas.Str.{IsUtf8-take, IsUtf8-drop, IsCharBoundary-before_ascii, IsCharBoundary-after_ascii, encode_ascii, encodes-append, encodes_same}
use Rattle.std.specs.Str.{IsUtf8}
use Rattle.std.specs.List.{list_all}
use lib.Utf8.{encode, encodes, scalar, scalars}
use Rattle.rb_causes.specs.Texts.{is_blank}
use Rattle.rb_yaml.specs.Rows.{past_blanks}
use Rattle.rb_yaml.specs.Signs.{without_end}

-- a character, and no control character but tab and line feed
abbrev pub is_fine : ℕ → Bool
is_fine c = scalar c && not ((nat_lt c 32 && not (nat_eq c 9 || nat_eq c 10)) || (nat_le 127 c && nat_lt c 160))

pub record Fine (text : List ℕ) : Type 0 where
  pub chars : List ℕ
  pub good : list_all is_fine chars ≡ true
  pub spells : encodes chars ≡ text

pub fine_none : Fine []
fine_none = record { chars = []; good = refl; spells = refl }

pub fine_append : (xs ys : List ℕ) → Fine xs → Fine ys → Fine (xs ++ ys)
fine_append xs ys f g = record {
  chars = f.chars ++ g.chars;
  good = list_all-append is_fine f.chars g.chars ∙ and_from (list_all is_fine f.chars) (list_all is_fine g.chars) f.good g.good;
  spells = encodes-append f.chars g.chars ∙ ap (λ (zs : List ℕ). encodes f.chars ++ zs) g.spells ∙ ap (λ (zs : List ℕ). zs ++ ys) f.spells;
}

pub fine_byte : (b : ℕ) → b < 128 → is_fine b ≡ true → Fine (b ∷ [])
fine_byte b h k = record {
  chars = b ∷ [];
  good = and_from (is_fine b) true k refl;
  spells = append-nil (encode b) ∙ encode_ascii b h;
}

-- ---- texts cut at a sign of ASCII

scalars_of : (cs : List ℕ) → list_all is_fine cs ≡ true → scalars cs ≡ true
scalars_of [] h = refl
scalars_of (c ∷ cs) h =
    let parts = and_parts (is_fine c) (list_all is_fine cs) h in
    let one = and_parts (scalar c) (not ((nat_lt c 32 && not (nat_eq c 9 || nat_eq c 10)) || (nat_le 127 c && nat_lt c 160))) parts.0 in
    and_from (scalar c) (scalars cs) one.0 (scalars_of cs parts.1)

pub fine_utf8 : (text : List ℕ) → Fine text → IsUtf8 text
fine_utf8 text f = (f.chars, (scalars_of f.chars f.good, f.spells))

at_end : (xs : List ℕ) (b : ℕ) (ys : List ℕ) → get_or (xs ++ b ∷ ys) (length xs) 0 ≡ b
at_end [] b ys = refl
at_end (x ∷ xs) b ys = at_end xs b ys

pub utf8_before : (xs : List ℕ) (b : ℕ) (ys : List ℕ) → b < 128 → IsUtf8 (xs ++ b ∷ ys) → IsUtf8 xs
utf8_before xs b ys h u =
    let len = length-append xs (b ∷ ys) in
    let at = at_end xs b ys in
    subst IsUtf8 (take_at xs (b ∷ ys) (length xs) refl)
    (IsUtf8-take (xs ++ b ∷ ys) (length xs) u (IsCharBoundary-before_ascii (xs ++ b ∷ ys) (length xs) (omega arith) (omega arith)))

pub utf8_after : (xs : List ℕ) (b : ℕ) (ys : List ℕ) → b < 128 → IsUtf8 (xs ++ b ∷ ys) → IsUtf8 ys
utf8_after xs b ys h u =
    let len = length-append xs (b ∷ ys) in
    let at = at_end xs b ys in
    let one : length (xs ++ b ∷ []) ≡ length xs + 1 = length-append xs (b ∷ []) in
    subst IsUtf8 (ap (drop (length xs + 1)) (sym (append_assoc xs (b ∷ []) ys)) ∙ drop_at (xs ++ b ∷ []) ys (length xs + 1) one)
    (IsUtf8-drop (xs ++ b ∷ ys) (length xs + 1) u (IsCharBoundary-after_ascii (xs ++ b ∷ ys) (length xs) u (omega arith) (omega arith)))

pub record Cut (xs : List ℕ) (b : ℕ) (ys : List ℕ) : Type 0 where
  pub before : Fine xs
  pub at : Fine (b ∷ [])
  pub after : Fine ys

cut_chars : (xs : List ℕ) (b : ℕ) (ys cs ds : List ℕ) → b < 128 → Fine (xs ++ b ∷ ys) → encodes cs ≡ xs → encodes ds ≡ ys → Cut xs b ys
cut_chars xs b ys cs ds h f e k =
    let spelled : encodes (cs ++ b ∷ ds) ≡ xs ++ b ∷ ys =
    encodes-append cs (b ∷ ds) ∙ ap (λ (zs : List ℕ). encodes cs ++ (zs ++ encodes ds)) (encode_ascii b h) ∙ ap (λ (zs : List ℕ). encodes cs ++ b ∷ zs) k ∙ ap (λ (zs : List ℕ). zs ++ b ∷ ys) e in
    let same : f.chars ≡ cs ++ b ∷ ds = encodes_same f.chars (cs ++ b ∷ ds) (f.spells ∙ sym spelled) in
    let all : list_all is_fine (cs ++ b ∷ ds) ≡ true = ap (list_all is_fine) (sym same) ∙ f.good in
    let parts = and_parts (list_all is_fine cs) (list_all is_fine (b ∷ ds)) (sym (list_all-append is_fine cs (b ∷ ds)) ∙ all) in
    let more = and_parts (is_fine b) (list_all is_fine ds) parts.1 in
    record {
      before = record { chars = cs; good = parts.0; spells = e };
      at = fine_byte b h more.0;
      after = record { chars = ds; good = more.1; spells = k };
    }

pub fine_cut : (xs : List ℕ) (b : ℕ) (ys : List ℕ) → b < 128 → Fine (xs ++ b ∷ ys) → Cut xs b ys
fine_cut xs b ys h f =
    let u = fine_utf8 (xs ++ b ∷ ys) f in
    let before = utf8_before xs b ys h u in
    let after = utf8_after xs b ys h u in
    cut_chars xs b ys before.0 after.0 h f before.1.1 after.1.1

pub fine_rest : (b : ℕ) (ys : List ℕ) → b < 128 → Fine (b ∷ ys) → Fine ys
fine_rest b ys h f = (fine_cut [] b ys h f).after

-- what stands from a sign of ASCII on
pub fine_from : (xs : List ℕ) (b : ℕ) (ys : List ℕ) → b < 128 → Fine (xs ++ b ∷ ys) → Fine (b ∷ ys)
fine_from xs b ys h f = let c = fine_cut xs b ys h f in fine_append (b ∷ []) ys c.at c.after

-- ---- blanks

pub blank_small : (b : ℕ) → is_blank b ≡ true → b < 128
blank_small b h = grind (arith, nat_tests)

blank_by : (b : ℕ) → (nat_eq b 32 ≡ true) ⊎ (nat_eq b 9 ≡ true) → Fine (b ∷ [])
blank_by b (inl e) = subst (λ (x : ℕ). Fine (x ∷ [])) (sym (eqb-true b 32 e)) (fine_byte 32 (omega arith) refl)
blank_by b (inr e) = subst (λ (x : ℕ). Fine (x ∷ [])) (sym (eqb-true b 9 e)) (fine_byte 9 (omega arith) refl)

pub fine_blanks : (bs : List ℕ) → list_all is_blank bs ≡ true → Fine bs
fine_blanks [] h = fine_none
fine_blanks (b ∷ bs) h =
    let parts = and_parts (is_blank b) (list_all is_blank bs) h in
    fine_append (b ∷ []) bs (blank_by b (or_cases (nat_eq b 32) (nat_eq b 9) parts.0)) (fine_blanks bs parts.1)

past_by : (t : Bool) (b : ℕ) (bs : List ℕ) → is_blank b ≡ t → Fine (b ∷ bs) → (Fine bs → Fine (past_blanks bs)) → Fine (cond t (past_blanks bs) (b ∷ bs))
past_by true b bs h f more = more (fine_rest b bs (blank_small b h) f)
past_by false b bs h f more = f

pub fine_past : (text : List ℕ) → Fine text → Fine (past_blanks text)
fine_past [] f = f
fine_past (b ∷ bs) f = past_by (is_blank b) b bs refl f (fine_past bs)

-- the blanks that a text begins with, or ends with
record Led (text rest : List ℕ) : Type 0 where
  blanks : List ℕ
  all : list_all is_blank blanks ≡ true
  is : text ≡ blanks ++ rest

led_by : (t : Bool) (b : ℕ) (bs : List ℕ) → is_blank b ≡ t → Led bs (past_blanks bs) → Led (b ∷ bs) (cond t (past_blanks bs) (b ∷ bs))
led_by true b bs h l = record { blanks = b ∷ l.blanks; all = and_from (is_blank b) (list_all is_blank l.blanks) h l.all; is = ap (λ (xs : List ℕ). b ∷ xs) l.is }
led_by false b bs h l = record { blanks = []; all = refl; is = refl }

led_past : (text : List ℕ) → Led text (past_blanks text)
led_past [] = record { blanks = []; all = refl; is = refl }
led_past (b ∷ bs) = led_by (is_blank b) b bs refl (led_past bs)

blanks_reverse : (bs : List ℕ) → list_all is_blank bs ≡ true → list_all is_blank (reverse bs) ≡ true
blanks_reverse [] h = refl
blanks_reverse (b ∷ bs) h =
    let parts = and_parts (is_blank b) (list_all is_blank bs) h in
    ap (list_all is_blank) (reverse-append (b ∷ []) bs) ∙ list_all-append is_blank (reverse bs) (b ∷ [])
    ∙ and_from (list_all is_blank (reverse bs)) (list_all is_blank (b ∷ [])) (blanks_reverse bs parts.1) (and_from (is_blank b) true parts.0 refl)

pub record Trailed (text front : List ℕ) : Type 0 where
  pub blanks : List ℕ
  pub all : list_all is_blank blanks ≡ true
  pub is : text ≡ front ++ blanks

pub trailed : (text : List ℕ) → Trailed text (without_end text)
trailed text =
    let l = led_past (reverse text) in
    record {
      blanks = reverse l.blanks;
      all = blanks_reverse l.blanks l.all;
      is = sym (reverse-reverse text) ∙ ap reverse l.is ∙ reverse-append l.blanks (past_blanks (reverse text));
    }

pub fine_before : (front bs : List ℕ) → list_all is_blank bs ≡ true → Fine (front ++ bs) → Fine front
fine_before front [] h f = subst Fine (append-nil front) f
fine_before front (b ∷ bs) h f = (fine_cut front b bs (blank_small b (and_parts (is_blank b) (list_all is_blank bs) h).0) f).before

pub fine_end : (text : List ℕ) → Fine text → Fine (without_end text)
fine_end text f = let t = trailed text in fine_before (without_end text) t.blanks t.all (subst Fine t.is f)

-- ---- such texts can be held
