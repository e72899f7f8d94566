-- Literals: what is meant is read.
use Rattle.std.proofs.Common.{◌≡◌, ◌≤◌, ◌<◌, ◌⊎◌, inl, inr, ℕ, Bool, true, false, ◌||◌, nat_lt, List, [], ◌∷◌, ◌++◌, Some, Ok, refl, ap, ◌∙◌, append_assoc, arith}
use Rattle.std.proofs.lemmas.Bool.{le-ltb, lt-ltb}
use Rattle.std.proofs.Math.Bool.{and-false}
use Rattle.std.specs.List.{AllByRecursion as Each}
use Rattle.rb_yaml.specs.Rows.{Row, is_blank_row, is_comment_row, is_content}
use Rattle.rb_yaml.specs.Literals.{width, taken_off, literal_rows, literal_text, literal_at, first_filled}
use Rattle.rb_yaml.specs.Tree.{scalar}
use Rattle.rb_yaml_laws.specs.Bare.{Bare}
use Rattle.rb_yaml_laws.specs.Plain.{IsBlank}
use Rattle.rb_yaml_laws.specs.Literal as lit
use Rattle.rb_yaml_laws.specs.Literal.{EndsBefore, lines_of, Literal}
use Rattle.rb_yaml_laws.proofs.EndFacts.{ended_read}
use Rattle.rb_yaml_laws.proofs.RowFacts.{each_append, bare_is, blanks_bare, complete_read}

-- ---- what is meant is read

leading_blank : (floor n : ℕ) (row : Row) (rows : List Row) (text : List ℕ) (rest : List Row) → is_blank_row row ≡ true → width row ≤ n → literal_rows floor n true rows ≡ Ok (text, rest) →
    literal_rows floor n true (row ∷ rows) ≡ Ok (taken_off n row ++ 10 ∷ text, rest)
leading_blank floor n row rows text rest b w e = rw (b, le-ltb n (width row) w, e) refl

inner_blank : (floor n : ℕ) (row : Row) (rows : List Row) (text : List ℕ) (rest : List Row) → is_blank_row row ≡ true → literal_rows floor n false rows ≡ Ok (text, rest) →
    literal_rows floor n false (row ∷ rows) ≡ Ok (taken_off n row ++ 10 ∷ text, rest)
inner_blank floor n row rows text rest b e = rw (b, e) refl

pub filled : (lead : Bool) (floor n : ℕ) (row : Row) (rows : List Row) (text : List ℕ) (rest : List Row) → is_blank_row row ≡ false → floor ≤ n → n ≤ row.indent → literal_rows floor n false rows ≡ Ok (text, rest) →
    literal_rows floor n lead (row ∷ rows) ≡ Ok (taken_off n row ++ 10 ∷ text, rest)
filled true floor n row rows text rest b f h e =
    let l : floor ≤ row.indent = omega (arith, f, h) in
    rw (b, le-ltb row.indent floor l, le-ltb row.indent n h, and-false (is_comment_row row), e) refl
filled false floor n row rows text rest b f h e =
    let l : floor ≤ row.indent = omega (arith, f, h) in
    rw (b, le-ltb row.indent floor l, le-ltb row.indent n h, and-false (is_comment_row row), e) refl

or_true : (b : Bool) → (b || true) ≡ true
or_true true = refl
or_true false = refl

stopped : (floor n : ℕ) (row : Row) (rows : List Row) → is_blank_row row ≡ false → is_comment_row row ≡ true → row.indent < n → literal_rows floor n false (row ∷ rows) ≡ Ok ([], row ∷ rows)
stopped floor n row rows b c h = rw (b, c, lt-ltb row.indent n h, or_true (nat_lt row.indent floor)) refl

ends_read : (floor n : ℕ) (behind : List Row) → EndsBefore n behind → Bare behind → literal_rows floor n false behind ≡ Ok ([], behind)
ends_read floor n [] h bare = refl
ends_read floor n (row ∷ rows) h bare = by (bare_is row bare.0)
  where
    by : (is_blank_row row ≡ true) ⊎ ((is_blank_row row ≡ false) × (is_comment_row row ≡ true)) → literal_rows floor n false (row ∷ rows) ≡ Ok ([], row ∷ rows)
    by (inl b) = absurd (cc)
    by (inr c) = stopped floor n row rows h.0 c.1 h.1

body_read : (floor n : ℕ) (body behind : List Row) → floor ≤ n → Each (λ row. IsBlank row ⊎ (n ≤ row.indent)) body → EndsBefore n behind → Bare behind → literal_rows floor n false (body ++ behind) ≡ Ok (lines_of n body, behind)
body_read floor n [] behind f h k bare = ends_read floor n behind k bare
body_read floor n (row ∷ body) behind f h k bare = by (is_blank_row row) refl h.0 (body_read floor n body behind f h.1 k bare)
  where
    by : (t : Bool) → is_blank_row row ≡ t → IsBlank row ⊎ (n ≤ row.indent) → literal_rows floor n false (body ++ behind) ≡ Ok (lines_of n body, behind) →
        literal_rows floor n false (row ∷ body ++ behind) ≡ Ok (lines_of n (row ∷ body), behind)
    by true b x e = inner_blank floor n row (body ++ behind) (lines_of n body) behind b e
    by false b (inl x) e = absurd (cc)
    by false b (inr x) e = filled false floor n row (body ++ behind) (lines_of n body) behind b f x e

blanks_read : (floor n : ℕ) (blanks rows rest : List Row) (body : List Row) → Each (λ row. IsBlank row × (width row ≤ n)) blanks → literal_rows floor n true rows ≡ Ok (lines_of n body, rest) →
    literal_rows floor n true (blanks ++ rows) ≡ Ok (lines_of n (blanks ++ body), rest)
blanks_read floor n [] rows rest body h e = e
blanks_read floor n (row ∷ blanks) rows rest body h e =
    leading_blank floor n row (blanks ++ rows) (lines_of n (blanks ++ body)) rest h.0.0 h.0.1 (blanks_read floor n blanks rows rest body h.1 e)

filled_blanks : (blanks rows : List Row) → Each IsBlank blanks → first_filled (blanks ++ rows) ≡ first_filled rows
filled_blanks [] rows h = refl
filled_blanks (row ∷ blanks) rows h = rw h.0 (filled_blanks blanks rows h.1)

only_blanks : (n : ℕ) (blanks : List Row) → Each (λ row. IsBlank row × (width row ≤ n)) blanks → Each IsBlank blanks
only_blanks n [] h = tt
only_blanks n (row ∷ blanks) h = (h.0.0, only_blanks n blanks h.1)

empty_read : (number floor : ℕ) (keep : Bool) (blanks behind : List Row) → Each IsBlank blanks → EndsBefore floor behind → Bare behind →
    literal_at number floor keep (first_filled (blanks ++ behind)) (blanks ++ behind) ≡ Ok (scalar number [])
empty_read number floor keep blanks [] h k bare =
    rw (filled_blanks blanks [] h) (complete_read (scalar number []) (blanks ++ []) (each_append (λ row. is_content row ≡ false) blanks [] (blanks_bare blanks h) bare))
empty_read number floor keep blanks (row ∷ rows) h k bare =
    rw (filled_blanks blanks (row ∷ rows) h, k.0, lt-ltb row.indent floor k.1)
    (complete_read (scalar number []) (blanks ++ row ∷ rows) (each_append (λ r. is_content r ≡ false) blanks (row ∷ rows) (blanks_bare blanks h) bare))

first_is : (first : Row) (rows : List Row) → is_blank_row first ≡ false → first_filled (first ∷ rows) ≡ Some first
first_is first rows h = rw h refl

lines_read : (number floor : ℕ) (keep : Bool) (blanks : List Row) (first : Row) (body behind : List Row) → Each (λ row. IsBlank row × (width row ≤ first.indent)) blanks →
    is_blank_row first ≡ false → floor ≤ first.indent → Each (λ row. IsBlank row ⊎ (first.indent ≤ row.indent)) body → EndsBefore first.indent behind → Bare behind → (rows : List Row) →
    rows ≡ blanks ++ (first ∷ body ++ behind) →
    literal_at number floor keep (first_filled rows) rows ≡ Ok (scalar number (literal_text keep (lines_of first.indent (blanks ++ first ∷ body))))
lines_read number floor keep blanks first body behind h b f k ends bare rows e =
    let read : literal_rows floor first.indent true (blanks ++ (first ∷ body ++ behind)) ≡ Ok (lines_of first.indent (blanks ++ first ∷ body), behind) =
    blanks_read floor first.indent blanks (first ∷ body ++ behind) behind (first ∷ body) h
    (filled true floor first.indent first (body ++ behind) (lines_of first.indent body) behind b f (omega arith) (body_read floor first.indent body behind f k ends bare)) in
    let found : first_filled (blanks ++ (first ∷ body ++ behind)) ≡ Some first = filled_blanks blanks (first ∷ body ++ behind) (only_blanks first.indent blanks h) ∙ first_is first (body ++ behind) b in
    ap (λ xs. literal_at number floor keep (first_filled xs) xs) e
    ∙ rw (found, le-ltb first.indent floor f, read) (complete_read (scalar number (literal_text keep (lines_of first.indent (blanks ++ first ∷ body)))) behind bare)

pub literal_read : {floor : ℕ} {keep : Bool} {rows : List Row} {said : List ℕ} → Literal floor keep rows said → (number : ℕ) → literal_at number floor keep (first_filled rows) rows ≡ Ok (scalar number said)
literal_read {floor} {keep} (lit.Literal.empty blanks behind h k bare) number = empty_read number floor keep blanks behind h k bare
literal_read {floor} {keep} (lit.Literal.lines blanks first body behind h b f k ends bare ended) number =
    lines_read number floor keep blanks first body behind h b f k ends bare (blanks ++ first ∷ body ++ behind) (append_assoc blanks (first ∷ body) behind)
    ∙ ap (λ xs. Ok (scalar number xs)) (ended_read ended)
