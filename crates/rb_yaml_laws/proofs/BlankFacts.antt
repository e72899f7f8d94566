-- Blanks before and behind a text, and how much of a text a reading leaves.
use Rattle.std.proofs.Common.{◌≡◌, ◌≤◌, ◌<◌, ℕ, Bool, true, false, cond, ◌&&◌, nat_eq, List, [], ◌∷◌, ◌++◌, length, drop, reverse, Option, Some, None, refl, sym, ap, ◌∙◌, arith}
use Rattle.std.proofs.lemmas.List.{reverse-append, length-reverse}
use Rattle.std.proofs.lemmas.Bool.{and_right, eqb-true}
use Rattle.rb_causes.specs.Texts.{is_blank}
use Rattle.rb_yaml.specs.Rows.{past_blanks, begins}
use Rattle.rb_yaml.specs.Signs.{is_nothing, is_clear, without_end}
use Rattle.rb_yaml.specs.Quotes.{Quoted, single_from, double_from, closed, onto, escaped, onto_escaped}

-- the text begins, and not with a blank
pub record Solid (text : List ℕ) : Type 0 where
  pub first : ℕ
  pub more : List ℕ
  pub is : text ≡ first ∷ more
  pub dark : is_blank first ≡ false

past_by : (t : Bool) (b c : ℕ) (bs cs : List ℕ) → is_blank b ≡ t → (past_blanks bs ≡ c ∷ cs → is_blank c ≡ false) → cond t (past_blanks bs) (b ∷ bs) ≡ c ∷ cs → is_blank c ≡ false
past_by true b c bs cs h more e = more e
past_by false b c bs cs h more e = let same : b ≡ c = cc in sym (ap is_blank same) ∙ h

-- what is past the blanks begins with none
pub past_dark : (text : List ℕ) (c : ℕ) (cs : List ℕ) → past_blanks text ≡ c ∷ cs → is_blank c ≡ false
past_dark [] c cs e = absurd (cc)
past_dark (b ∷ bs) c cs e = past_by (is_blank b) b c bs cs refl (past_dark bs c cs) e

empty_by : (t : Bool) (b : ℕ) (bs : List ℕ) → is_blank b ≡ t → cond t (past_blanks bs) (b ∷ bs) ≡ [] → (t && is_nothing (cond t (past_blanks bs) (b ∷ bs))) ≡ true
empty_by true b bs h e = ap is_nothing e
empty_by false b bs h e = absurd (cc)

past_empty : (text : List ℕ) → past_blanks text ≡ [] → is_clear text ≡ true
past_empty [] e = refl
past_empty (b ∷ bs) e = empty_by (is_blank b) b bs refl e

solid_by : (text past : List ℕ) → past_blanks text ≡ past → is_clear text ≡ false → Solid past
solid_by text [] e h = let clear = past_empty text e in absurd (cc)
solid_by text (c ∷ cs) e h = record { first = c; more = cs; is = refl; dark = past_dark text c cs e }

pub past_solid : (text : List ℕ) → is_clear text ≡ false → Solid (past_blanks text)
past_solid text h = solid_by text (past_blanks text) refl h

-- something other than a comment is past the blanks
pub not_clear : (text : List ℕ) → is_nothing (past_blanks text) ≡ false → is_clear text ≡ false
not_clear [] h = absurd (cc)
not_clear (b ∷ bs) h = and_right (is_blank b) (is_nothing (past_blanks (b ∷ bs))) h

length_by : (t : Bool) (b : ℕ) (bs : List ℕ) → length (past_blanks bs) ≤ length bs → length (cond t (past_blanks bs) (b ∷ bs)) ≤ length (b ∷ bs)
length_by true b bs h = omega (arith, h)
length_by false b bs h = omega arith

pub past_le : (text : List ℕ) → length (past_blanks text) ≤ length text
past_le [] = omega arith
past_le (b ∷ bs) = length_by (is_blank b) b bs (past_le bs)

-- past the blanks stands this byte, so what is behind it is shorter
pub past_shorter : (text : List ℕ) (c : ℕ) (rest : List ℕ) → past_blanks text ≡ c ∷ rest → length rest < length text
past_shorter text c rest e = let n = ap length e in omega (arith, n, past_le text)

pub begins_is : (c : ℕ) (text : List ℕ) → begins c text ≡ true → text ≡ c ∷ drop 1 text
begins_is c [] h = absurd (cc)
begins_is c (b ∷ bs) h = ap (λ x. x ∷ bs) (eqb-true b c h)

-- ---- a text without its end

some_by : (t : Bool) (y : ℕ) (ys : List ℕ) → 1 ≤ length (past_blanks ys) → 1 ≤ length (cond t (past_blanks ys) (y ∷ ys))
some_by true y ys h = h
some_by false y ys h = omega arith

last_dark : (ys : List ℕ) (b : ℕ) → is_blank b ≡ false → 1 ≤ length (past_blanks (ys ++ b ∷ []))
last_dark [] b h = let e : past_blanks (b ∷ []) ≡ b ∷ [] = ap (λ t. cond t [] (b ∷ [])) h in omega (arith, ap length e)
last_dark (y ∷ ys) b h = some_by (is_blank y) y (ys ++ b ∷ []) (last_dark ys b h)

pub end_some : (b : ℕ) (bs : List ℕ) → is_blank b ≡ false → 1 ≤ length (without_end (b ∷ bs))
end_some b bs h =
    let front : reverse (b ∷ bs) ≡ reverse bs ++ b ∷ [] = reverse-append (b ∷ []) bs in
    let n : length (without_end (b ∷ bs)) ≡ length (past_blanks (reverse bs ++ b ∷ [])) = length-reverse (past_blanks (reverse (b ∷ bs))) ∙ ap (λ xs. length (past_blanks xs)) front in
    let some = last_dark (reverse bs) b h in
    omega (arith, n, some)

-- ---- quoted texts

abbrev Left : Quoted → List ℕ → List ℕ → Type 0
Left q text rest = q.rest ≡ Some rest → length rest ≤ length text

single_one : (t : Bool) (b : ℕ) (bs rest : List ℕ) → Left (single_from true bs) bs rest → Left (single_from false bs) bs rest → Left (cond t (single_from true bs) (onto b (single_from false bs))) (b ∷ bs) rest
single_one true b bs rest h k e = let l = h e in omega (arith, l)
single_one false b bs rest h k e = let l = k e in omega (arith, l)

single_two : (t : Bool) (b : ℕ) (bs rest : List ℕ) → Left (single_from false bs) bs rest → Left (cond t (onto 39 (single_from false bs)) (closed (b ∷ bs))) (b ∷ bs) rest
single_two true b bs rest h e = let l = h e in omega (arith, l)
single_two false b bs rest h e = let same : b ∷ bs ≡ rest = cc in omega (arith, ap length same)

pub single_left : (t : Bool) (text rest : List ℕ) → Left (single_from t text) text rest
single_left false [] rest e = absurd (cc)
single_left true [] rest e = let same : [] ≡ rest = cc in omega (arith, ap length same)
single_left false (b ∷ bs) rest e = single_one (nat_eq b 39) b bs rest (single_left true bs rest) (single_left false bs rest) e
single_left true (b ∷ bs) rest e = single_two (nat_eq b 39) b bs rest (single_left false bs rest) e

double_escape : (o : Option ℕ) (b : ℕ) (bs rest : List ℕ) → Left (double_from false bs) bs rest → Left (onto_escaped b o (double_from false bs)) (b ∷ bs) rest
double_escape None b bs rest h e = let l = h e in omega (arith, l)
double_escape (Some c) b bs rest h e = let l = h e in omega (arith, l)

double_one : (t s : Bool) (b : ℕ) (bs rest : List ℕ) → Left (double_from true bs) bs rest → Left (double_from false bs) bs rest →
    Left (cond t (closed bs) (cond s (double_from true bs) (onto b (double_from false bs)))) (b ∷ bs) rest
double_one true s b bs rest h k e = let same : bs ≡ rest = cc in omega (arith, ap length same)
double_one false true b bs rest h k e = let l = h e in omega (arith, l)
double_one false false b bs rest h k e = let l = k e in omega (arith, l)

pub double_left : (t : Bool) (text rest : List ℕ) → Left (double_from t text) text rest
double_left false [] rest e = absurd (cc)
double_left true [] rest e = absurd (cc)
double_left false (b ∷ bs) rest e = double_one (nat_eq b 34) (nat_eq b 92) b bs rest (double_left true bs rest) (double_left false bs rest) e
double_left true (b ∷ bs) rest e = double_escape (escaped b) b bs rest (double_left false bs rest) e
