-- Literals: what is read is meant.
use Rattle.std.proofs.Common.{◌≡◌, ◌≤◌, ◌<◌, ◌⊎◌, inl, inr, ℕ, Bool, true, false, cond, ◌&&◌, ◌||◌, nat_lt, List, [], ◌∷◌, ◌++◌, Option, Some, None, Ok, refl, sym, ap, subst, ◌∙◌, append_assoc, append-nil, arith}
use Rattle.std.proofs.lemmas.Bool.{le-ltb, ltb-true, ltb-false}
use Rattle.std.proofs.Math.Bool.{and-false}
use Rattle.std.specs.List.{AllByRecursion as Each}
use Rattle.rb_yaml.specs.Faults.{◌>>=◌}
use Rattle.rb_yaml.specs.Rows.{Row, is_blank_row, is_comment_row, is_content}
use Rattle.rb_yaml.specs.Scalars.{complete}
use Rattle.rb_yaml.specs.Literals.{width, taken_off, literal_rows, literal_text, literal_at, first_filled}
use Rattle.rb_yaml.specs.Tree.{YamlTree, scalar}
use Rattle.rb_yaml_laws.specs.Bare.{Bare}
use Rattle.rb_yaml_laws.specs.Plain.{IsBlank}
use Rattle.rb_yaml_laws.specs.Literal as lit
use Rattle.rb_yaml_laws.specs.Literal.{EndsBefore, lines_of, Literal}
use Rattle.rb_yaml_laws.proofs.EndFacts.{ended_meant}
use Rattle.rb_yaml_laws.proofs.Binds.{bound}
use Rattle.rb_yaml_laws.proofs.RowFacts.{each_right, complete_meant}

-- ---- what is read is meant

-- the rows of a literal behind its first, and what is left
pub record BodyMeant (n : ℕ) (rows : List Row) (read : List ℕ × List Row) : Type 0 where
  pub body : List Row
  pub all : rows ≡ body ++ read.1
  pub each : Each (λ row. IsBlank row ⊎ (n ≤ row.indent)) body
  pub says : read.0 ≡ lines_of n body
  pub ends : EndsBefore n read.1

body_none : (n : ℕ) (read : List ℕ × List Row) → ([], []) ≡ read → BodyMeant n [] read
body_none n read e = subst (BodyMeant n []) e (record { body = []; all = refl; each = tt; says = refl; ends = tt })

body_stops : (n : ℕ) (row : Row) (rows : List Row) (read : List ℕ × List Row) → is_blank_row row ≡ false → row.indent < n → ([], row ∷ rows) ≡ read → BodyMeant n (row ∷ rows) read
body_stops n row rows read b h e = subst (BodyMeant n (row ∷ rows)) e (record { body = []; all = refl; each = tt; says = refl; ends = (b, h) })

body_more : (n : ℕ) (row : Row) (rows : List Row) (more read : List ℕ × List Row) → IsBlank row ⊎ (n ≤ row.indent) → BodyMeant n rows more → (taken_off n row ++ 10 ∷ more.0, more.1) ≡ read → BodyMeant n (row ∷ rows) read
body_more n row rows more read h m e =
    subst (BodyMeant n (row ∷ rows)) e
    (record { body = row ∷ m.body; all = ap (λ xs. row ∷ xs) m.all; each = (h, m.each); says = ap (λ xs. taken_off n row ++ 10 ∷ xs) m.says; ends = m.ends })

-- a row that stands behind the literal stands before its indent
behind_lt : (floor n : ℕ) (row : Row) → floor ≤ n → (nat_lt row.indent floor || (is_comment_row row && nat_lt row.indent n)) ≡ true → row.indent < n
behind_lt floor n row f h = by (nat_lt row.indent floor) (is_comment_row row) (nat_lt row.indent n) refl refl h
  where
    by : (a c d : Bool) → nat_lt row.indent floor ≡ a → nat_lt row.indent n ≡ d → (a || (c && d)) ≡ true → row.indent < n
    by true c d ha hd e = let l = ltb-true row.indent floor ha in omega (arith, l, f)
    by false true d ha hd e = ltb-true row.indent n (hd ∙ e)
    by false false d ha hd e = absurd (cc)

body_row : (t₁ t₂ t₃ : Bool) (floor n : ℕ) (row : Row) (rows : List Row) (read : List ℕ × List Row) → floor ≤ n → is_blank_row row ≡ t₁ →
    (nat_lt row.indent floor || (is_comment_row row && nat_lt row.indent n)) ≡ t₂ → nat_lt row.indent n ≡ t₃ →
    ((more : List ℕ × List Row) → literal_rows floor n false rows ≡ Ok more → BodyMeant n rows more) →
    literal_rows floor n false (row ∷ rows) ≡ Ok read → BodyMeant n (row ∷ rows) read
body_row true t₂ t₃ floor n row rows read f h₁ h₂ h₃ more e =
    let k = bound (literal_rows floor n false rows) _ read (rw h₁ at e) in
    body_more n row rows k.x read (inl h₁) (more k.x k.first) (cc)
body_row false true t₃ floor n row rows read f h₁ h₂ h₃ more e =
    let k = rw (h₁, h₂) at e in body_stops n row rows read h₁ (behind_lt floor n row f h₂) (cc)
body_row false false true floor n row rows read f h₁ h₂ h₃ more e = let k = rw (h₁, h₂, h₃) at e in absurd (cc)
body_row false false false floor n row rows read f h₁ h₂ h₃ more e =
    let k = bound (literal_rows floor n false rows) _ read (rw (h₁, h₂, h₃) at e) in
    body_more n row rows k.x read (inr (ltb-false row.indent n h₃)) (more k.x k.first) (cc)

body_meant : (floor n : ℕ) (rows : List Row) (read : List ℕ × List Row) → floor ≤ n → literal_rows floor n false rows ≡ Ok read → BodyMeant n rows read
body_meant floor n [] read f e = body_none n read (cc)
body_meant floor n (row ∷ rows) read f e =
    body_row (is_blank_row row) (nat_lt row.indent floor || (is_comment_row row && nat_lt row.indent n)) (nat_lt row.indent n) floor n row rows read f refl refl refl
    (λ more k. body_meant floor n rows more f k) e

-- the rows of a literal, up to what is left
pub record LinesMeant (first : Row) (rows : List Row) (read : List ℕ × List Row) : Type 0 where
  pub blanks : List Row
  pub body : List Row
  pub all : rows ≡ blanks ++ (first ∷ body ++ read.1)
  pub leading : Each (λ row. IsBlank row × (width row ≤ first.indent)) blanks
  pub filled : is_blank_row first ≡ false
  pub each : Each (λ row. IsBlank row ⊎ (first.indent ≤ row.indent)) body
  pub says : read.0 ≡ lines_of first.indent (blanks ++ first ∷ body)
  pub ends : EndsBefore first.indent read.1

lines_first : (first : Row) (rows : List Row) (more read : List ℕ × List Row) → is_blank_row first ≡ false → BodyMeant first.indent rows more →
    (taken_off first.indent first ++ 10 ∷ more.0, more.1) ≡ read → LinesMeant first (first ∷ rows) read
lines_first first rows more read b m e = subst (LinesMeant first (first ∷ rows)) e (record {
  blanks = [];
  body = m.body;
  all = ap (λ xs. first ∷ xs) m.all;
  leading = tt;
  filled = b;
  each = m.each;
  says = ap (λ xs. taken_off first.indent first ++ 10 ∷ xs) m.says;
  ends = m.ends;
})

lines_more : (first row : Row) (rows : List Row) (more read : List ℕ × List Row) → IsBlank row → width row ≤ first.indent → LinesMeant first rows more →
    (taken_off first.indent row ++ 10 ∷ more.0, more.1) ≡ read → LinesMeant first (row ∷ rows) read
lines_more first row rows more read b w m e = subst (LinesMeant first (row ∷ rows)) e (record {
  blanks = row ∷ m.blanks;
  body = m.body;
  all = ap (λ xs. row ∷ xs) m.all;
  leading = ((b, w), m.leading);
  filled = m.filled;
  each = m.each;
  says = ap (λ xs. taken_off first.indent row ++ 10 ∷ xs) m.says;
  ends = m.ends;
})

same_lt : (n : ℕ) → nat_lt n n ≡ false
same_lt n = le-ltb n n (omega arith)

lines_at : (floor : ℕ) (first : Row) (rows : List Row) (read : List ℕ × List Row) → floor ≤ first.indent → is_blank_row first ≡ false → literal_rows floor first.indent true (first ∷ rows) ≡ Ok read → LinesMeant first (first ∷ rows) read
lines_at floor first rows read f b e =
    let k = bound (literal_rows floor first.indent false rows) _ read
    (rw (b, le-ltb first.indent floor f, same_lt first.indent, and-false (is_comment_row first)) at e) in
    lines_first first rows k.x read b (body_meant floor first.indent rows k.x f k.first) (cc)

filled_at : (row first : Row) (rows : List Row) → is_blank_row row ≡ false → first_filled (row ∷ rows) ≡ Some first → row ≡ first
filled_at row first rows h e = let k = rw h at e in cc

lines_row : (t₁ t₂ : Bool) (floor : ℕ) (first row : Row) (rows : List Row) (read : List ℕ × List Row) → floor ≤ first.indent → first_filled (row ∷ rows) ≡ Some first →
    is_blank_row row ≡ t₁ → nat_lt first.indent (width row) ≡ t₂ →
    ((more : List ℕ × List Row) → first_filled rows ≡ Some first → literal_rows floor first.indent true rows ≡ Ok more → LinesMeant first rows more) →
    literal_rows floor first.indent true (row ∷ rows) ≡ Ok read → LinesMeant first (row ∷ rows) read
lines_row true true floor first row rows read f o h₁ h₂ more e = let k = rw (h₁, h₂) at e in absurd (cc)
lines_row true false floor first row rows read f o h₁ h₂ more e =
    let k = bound (literal_rows floor first.indent true rows) _ read (rw (h₁, h₂) at e) in
    lines_more first row rows k.x read h₁ (ltb-false first.indent (width row) h₂) (more k.x (rw h₁ at o) k.first) (cc)
lines_row false t₂ floor first row rows read f o h₁ h₂ more e =
    let same = filled_at row first rows h₁ o in
    subst (λ r. LinesMeant first (r ∷ rows) read) (sym same)
    (lines_at floor first rows read f (sym (ap is_blank_row same) ∙ h₁) (subst (λ r. literal_rows floor first.indent true (r ∷ rows) ≡ Ok read) same e))

lines_meant : (floor : ℕ) (first : Row) (rows : List Row) (read : List ℕ × List Row) → floor ≤ first.indent → first_filled rows ≡ Some first → literal_rows floor first.indent true rows ≡ Ok read → LinesMeant first rows read
lines_meant floor first [] read f o e = absurd (cc)
lines_meant floor first (row ∷ rows) read f o e =
    lines_row (is_blank_row row) (nat_lt first.indent (width row)) floor first row rows read f o refl refl (λ more p k. lines_meant floor first rows more f p k) e

pub record LiteralMeant (floor number : ℕ) (keep : Bool) (rows : List Row) (value : YamlTree) : Type 0 where
  pub said : List ℕ
  pub lines : Literal floor keep rows said
  pub is : value ≡ scalar number said

none_row : (t : Bool) (row : Row) (rows : List Row) → is_blank_row row ≡ t → (first_filled rows ≡ None → Each IsBlank rows) → cond t (first_filled rows) (Some row) ≡ None → Each IsBlank (row ∷ rows)
none_row true row rows h more e = (h, more e)
none_row false row rows h more e = absurd (cc)

none_filled : (rows : List Row) → first_filled rows ≡ None → Each IsBlank rows
none_filled [] e = tt
none_filled (row ∷ rows) e = none_row (is_blank_row row) row rows refl (none_filled rows) e

pub record FilledAt (rows : List Row) (first : Row) : Type 0 where
  pub blanks : List Row
  pub behind : List Row
  pub each : Each IsBlank blanks
  pub filled : is_blank_row first ≡ false
  pub all : rows ≡ blanks ++ first ∷ behind

some_row : (t : Bool) (row first : Row) (rows : List Row) → is_blank_row row ≡ t → (first_filled rows ≡ Some first → FilledAt rows first) → cond t (first_filled rows) (Some row) ≡ Some first → FilledAt (row ∷ rows) first
some_row true row first rows h more e =
    let m = more e in record { blanks = row ∷ m.blanks; behind = m.behind; each = (h, m.each); filled = m.filled; all = ap (λ xs. row ∷ xs) m.all }
some_row false row first rows h more e = let same : row ≡ first = cc in subst (FilledAt (row ∷ rows)) same (record { blanks = []; behind = rows; each = tt; filled = h; all = refl })

some_filled : (rows : List Row) (first : Row) → first_filled rows ≡ Some first → FilledAt rows first
some_filled [] first e = absurd (cc)
some_filled (row ∷ rows) first e = some_row (is_blank_row row) row first rows refl (some_filled rows first) e

literal_none : (floor number : ℕ) (keep : Bool) (rows : List Row) (value : YamlTree) → Each IsBlank rows → complete (scalar number []) rows ≡ Ok value → LiteralMeant floor number keep rows value
literal_none floor number keep rows value h e =
    let m = complete_meant (scalar number []) value rows e in
    record { said = []; lines = subst (λ xs. Literal floor keep xs []) (append-nil rows) (lit.Literal.empty rows [] h tt tt); is = m.0 }

literal_out : (floor number : ℕ) (keep : Bool) (rows : List Row) (first : Row) (value : YamlTree) → FilledAt rows first → first.indent < floor → complete (scalar number []) rows ≡ Ok value → LiteralMeant floor number keep rows value
literal_out floor number keep rows first value at l e =
    let m = complete_meant (scalar number []) value rows e in
    let bare : Bare (at.blanks ++ first ∷ at.behind) = subst Bare at.all m.1 in
    record {
      said = [];
      lines = subst (λ xs. Literal floor keep xs []) (sym at.all)
          (lit.Literal.empty at.blanks (first ∷ at.behind) at.each (at.filled, l) (each_right (λ r. is_content r ≡ false) at.blanks (first ∷ at.behind) bare));
      is = m.0;
    }

literal_in : (floor number : ℕ) (keep : Bool) (rows : List Row) (first : Row) (read : List ℕ × List Row) (value : YamlTree) → floor ≤ first.indent → LinesMeant first rows read →
    complete (scalar number (literal_text keep read.0)) read.1 ≡ Ok value → LiteralMeant floor number keep rows value
literal_in floor number keep rows first read value f m e =
    let k = complete_meant (scalar number (literal_text keep read.0)) value read.1 e in
    record {
      said = literal_text keep (lines_of first.indent (m.blanks ++ first ∷ m.body));
      lines = subst (λ xs. Literal floor keep xs (literal_text keep (lines_of first.indent (m.blanks ++ first ∷ m.body)))) (append_assoc m.blanks (first ∷ m.body) read.1 ∙ sym m.all)
          (lit.Literal.lines m.blanks first m.body read.1 m.leading m.filled f m.each m.ends k.1 (ended_meant keep (lines_of first.indent (m.blanks ++ first ∷ m.body))));
      is = k.0 ∙ ap (λ xs. scalar number (literal_text keep xs)) m.says;
    }

literal_first : (t : Bool) (floor number : ℕ) (keep : Bool) (rows : List Row) (first : Row) (value : YamlTree) → first_filled rows ≡ Some first → nat_lt first.indent floor ≡ t →
    cond t (complete (scalar number []) rows) (literal_rows floor first.indent true rows >>= λ read. complete (scalar number (literal_text keep read.0)) read.1) ≡ Ok value → LiteralMeant floor number keep rows value
literal_first true floor number keep rows first value o h e = literal_out floor number keep rows first value (some_filled rows first o) (ltb-true first.indent floor h) e
literal_first false floor number keep rows first value o h e =
    let k = bound (literal_rows floor first.indent true rows) (λ read. complete (scalar number (literal_text keep read.0)) read.1) value e in
    let f = ltb-false first.indent floor h in
    literal_in floor number keep rows first k.x value f (lines_meant floor first rows k.x f o k.first) k.then_

literal_by : (o : Option Row) (floor number : ℕ) (keep : Bool) (rows : List Row) (value : YamlTree) → first_filled rows ≡ o → literal_at number floor keep o rows ≡ Ok value → LiteralMeant floor number keep rows value
literal_by None floor number keep rows value h e = literal_none floor number keep rows value (none_filled rows h) e
literal_by (Some first) floor number keep rows value h e = literal_first (nat_lt first.indent floor) floor number keep rows first value h refl e

pub literal_meant : (floor number : ℕ) (keep : Bool) (rows : List Row) (value : YamlTree) → literal_at number floor keep (first_filled rows) rows ≡ Ok value → LiteralMeant floor number keep rows value
literal_meant floor number keep rows value e = literal_by (first_filled rows) floor number keep rows value refl e
