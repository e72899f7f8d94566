-- Plain texts over rows: the reader and the relation agree.
use Rattle.std.proofs.Common.{◌≡◌, ◌⊎◌, inl, inr, ℕ, zero, suc, ◌+◌, Bool, true, false, cond, List, [], ◌∷◌, ◌++◌, length, Ok, refl, sym, ap, subst, ◌∙◌, append_assoc, append-nil, length-append, arith}
use Rattle.std.specs.List.{AllByRecursion as Each}
use Rattle.rb_yaml.specs.Rows.{Row, is_blank_row, is_comment_row, is_content, is_tabbed, tab_flaw}
use Rattle.rb_yaml.specs.Signs.{has_comment, has_colon, plain_part}
use Rattle.rb_yaml.specs.Scalars.{TreeReading, complete, gap, plain_more, colon_flaw}
use Rattle.rb_yaml.specs.Tree.{YamlTree, scalar}
use Rattle.rb_yaml_laws.specs.Bare.{Bare}
use Rattle.rb_yaml_laws.specs.Plain as plain
use Rattle.rb_yaml_laws.specs.Plain.{IsBlank, GoesOn, PlainOver}
use Rattle.rb_yaml.specs.Faults.{either, flaw_or}
use Rattle.rb_yaml_laws.proofs.FlawFacts.{none_if, either_none, flaw_none}
use Rattle.rb_yaml_laws.proofs.RowFacts.{each_append, content_is, bare_is, content_from, comment_bare, blanks_bare, complete_read, complete_meant}

-- ---- what is meant is read

pub plain_blanks : (blanks rows : List Row) (number : ℕ) (text : List ℕ) (k : ℕ) → Each IsBlank blanks → plain_more number text k (blanks ++ rows) ≡ plain_more number text (length blanks + k) rows
plain_blanks [] rows number text k h = let e : 0 + k ≡ k = omega arith in ap (λ n. plain_more number text n rows) (sym e)
plain_blanks (row ∷ blanks) rows number text k h =
    let e : length blanks + suc k ≡ suc (length blanks) + k = omega arith in
    rw h.0 (plain_blanks blanks rows number text (suc k) h.1 ∙ ap (λ n. plain_more number text n rows) e)

plain_bare : (rows : List Row) (number : ℕ) (text : List ℕ) (k : ℕ) → Bare rows → plain_more number text k rows ≡ Ok (scalar number text)
plain_bare [] number text k h = refl
plain_bare (row ∷ rows) number text k h = by (bare_is row h.0) (plain_bare rows number text (suc k) h.1)
  where
    by : (is_blank_row row ≡ true) ⊎ ((is_blank_row row ≡ false) × (is_comment_row row ≡ true)) → plain_more number text (suc k) rows ≡ Ok (scalar number text) →
        plain_more number text k (row ∷ rows) ≡ Ok (scalar number text)
    by (inl b) more = rw b more
    by (inr c) more = rw (c.0, c.1) (complete_read (scalar number text) rows h.1)

plain_goes : (row : Row) (rows : List Row) (number : ℕ) (text : List ℕ) (k : ℕ) (c : Bool) → GoesOn row → has_comment row.text ≡ c →
    plain_more number text k (row ∷ rows) ≡ cond c (complete (scalar number (text ++ gap k ++ plain_part row.text)) rows) (plain_more number (text ++ gap k ++ plain_part row.text) zero rows)
plain_goes row rows number text k c h is_c = let n = content_is row h.0 in rw (n.0, n.1, h.1, h.2, is_c) refl

at_blanks : (blanks : List Row) (row : Row) (rows : List Row) (number : ℕ) (text : List ℕ) → Each IsBlank blanks →
    plain_more number text zero (blanks ++ row ∷ rows) ≡ plain_more number text (length blanks) (row ∷ rows)
at_blanks blanks row rows number text h =
    let e : length blanks + zero ≡ length blanks = omega arith in
    plain_blanks blanks (row ∷ rows) number text zero h ∙ ap (λ n. plain_more number text n (row ∷ rows)) e

pub joined : (a b c d : List ℕ) → a ++ b ++ c ++ d ≡ a ++ (b ++ c ++ d)
joined a b c d = ap (λ xs. xs ++ d) (append_assoc a b c) ∙ append_assoc a (b ++ c) d

pub plain_read : {rows : List Row} {said : List ℕ} → PlainOver rows said → (number : ℕ) (text : List ℕ) → plain_more number text zero rows ≡ Ok (scalar number (text ++ said))
plain_read (plain.PlainOver.ends {rows = rows} h) number text = plain_bare rows number text zero h ∙ ap (λ xs. Ok (scalar number xs)) (sym (append-nil text))
plain_read (plain.PlainOver.last blanks row rows h goes c bare) number text =
    at_blanks blanks row rows number text h ∙ plain_goes row rows number text (length blanks) true goes c
    ∙ complete_read (scalar number (text ++ gap (length blanks) ++ plain_part row.text)) rows bare
    ∙ ap (λ xs. Ok (scalar number xs)) (append_assoc text (gap (length blanks)) (plain_part row.text))
plain_read (plain.PlainOver.more blanks row rows {said = said} h goes c over) number text =
    at_blanks blanks row rows number text h ∙ plain_goes row rows number text (length blanks) false goes c
    ∙ plain_read over number (text ++ gap (length blanks) ++ plain_part row.text)
    ∙ ap (λ xs. Ok (scalar number xs)) (joined text (gap (length blanks)) (plain_part row.text) said)

-- ---- what is read is meant

pub record PlainMeant (number : ℕ) (text : List ℕ) (rows : List Row) (value : YamlTree) : Type 0 where
  pub said : List ℕ
  pub over : PlainOver rows said
  pub is : value ≡ scalar number (text ++ said)

abbrev PlainGoal : ℕ → List ℕ → ℕ → List Row → TreeReading → Type 0
PlainGoal number text k rows read = (value : YamlTree) (blanks : List Row) → Each IsBlank blanks → length blanks ≡ k → read ≡ Ok value → PlainMeant number text (blanks ++ rows) value

meant_ends : (number : ℕ) (text : List ℕ) (rows : List Row) (value : YamlTree) → value ≡ scalar number text → Bare rows → PlainMeant number text rows value
meant_ends number text rows value e h = record { said = []; over = plain.PlainOver.ends h; is = e ∙ ap (scalar number) (sym (append-nil text)) }

one_blank : (row : Row) (rows : List Row) (number : ℕ) (text : List ℕ) (k : ℕ) (read : TreeReading) → is_blank_row row ≡ true → PlainGoal number text (suc k) rows read → PlainGoal number text k (row ∷ rows) read
one_blank row rows number text k read b more value blanks h l e =
    let n : length (blanks ++ row ∷ []) ≡ suc k = length-append blanks (row ∷ []) ∙ omega (arith, l) in
    subst (λ xs. PlainMeant number text xs value) (append_assoc blanks (row ∷ []) rows)
    (more value (blanks ++ row ∷ []) (each_append IsBlank blanks (row ∷ []) h (b, tt)) n e)

one_comment : (row : Row) (rows : List Row) (number : ℕ) (text : List ℕ) (k : ℕ) → is_comment_row row ≡ true → PlainGoal number text k (row ∷ rows) (complete (scalar number text) rows)
one_comment row rows number text k c value blanks h l e =
    let m = complete_meant (scalar number text) value rows e in
    meant_ends number text (blanks ++ row ∷ rows) value m.0
    (each_append (λ r. is_content r ≡ false) blanks (row ∷ rows) (blanks_bare blanks h) (comment_bare row c, m.1))

one_last : (row : Row) (rows : List Row) (number : ℕ) (text : List ℕ) (k : ℕ) → GoesOn row → has_comment row.text ≡ true →
    PlainGoal number text k (row ∷ rows) (complete (scalar number (text ++ gap k ++ plain_part row.text)) rows)
one_last row rows number text k goes c value blanks h l e =
    let m = complete_meant (scalar number (text ++ gap k ++ plain_part row.text)) value rows e in
    record {
      said = gap (length blanks) ++ plain_part row.text;
      over = plain.PlainOver.last blanks row rows h goes c m.1;
      is = m.0 ∙ ap (scalar number) (append_assoc text (gap k) (plain_part row.text)) ∙ ap (λ n. scalar number (text ++ (gap n ++ plain_part row.text))) (sym l);
    }

one_more : (row : Row) (rows : List Row) (number : ℕ) (text : List ℕ) (k : ℕ) (read : TreeReading) → GoesOn row → has_comment row.text ≡ false →
    PlainGoal number (text ++ gap k ++ plain_part row.text) zero rows read → PlainGoal number text k (row ∷ rows) read
one_more row rows number text k read goes c more value blanks h l e =
    let m = more value [] tt refl e in
    record {
      said = gap (length blanks) ++ plain_part row.text ++ m.said;
      over = plain.PlainOver.more blanks row rows h goes c m.over;
      is = m.is ∙ ap (scalar number) (joined text (gap k) (plain_part row.text) m.said) ∙ ap (λ n. scalar number (text ++ (gap n ++ plain_part row.text ++ m.said))) (sym l);
    }

-- a row in which nothing is wrong, with a comment on it or not
row_goes : (t : Bool) (row : Row) (rows : List Row) (number : ℕ) (text : List ℕ) (k : ℕ) → GoesOn row → has_comment row.text ≡ t →
    PlainGoal number (text ++ gap k ++ plain_part row.text) zero rows (plain_more number (text ++ gap k ++ plain_part row.text) zero rows) →
    PlainGoal number text k (row ∷ rows)
    (cond t (complete (scalar number (text ++ gap k ++ plain_part row.text)) rows) (plain_more number (text ++ gap k ++ plain_part row.text) zero rows))
row_goes true row rows number text k goes c more = one_last row rows number text k goes c
row_goes false row rows number text k goes c more = one_more row rows number text k (plain_more number (text ++ gap k ++ plain_part row.text) zero rows) goes c more

plain_row : (t₁ t₂ : Bool) (row : Row) (rows : List Row) (number : ℕ) (text : List ℕ) (k : ℕ) → is_blank_row row ≡ t₁ → is_comment_row row ≡ t₂ →
    PlainGoal number text (suc k) rows (plain_more number text (suc k) rows) →
    PlainGoal number (text ++ gap k ++ plain_part row.text) zero rows (plain_more number (text ++ gap k ++ plain_part row.text) zero rows) →
    PlainGoal number text k (row ∷ rows)
    (cond t₁ (plain_more number text (suc k) rows) (cond t₂ (complete (scalar number text) rows) (flaw_or (either (tab_flaw row) (colon_flaw row.text)) row.number
    (cond (has_comment row.text) (complete (scalar number (text ++ gap k ++ plain_part row.text)) rows) (plain_more number (text ++ gap k ++ plain_part row.text) zero rows)))))
plain_row true t₂ row rows number text k h₁ h₂ blank more value blanks h l e =
    one_blank row rows number text k (plain_more number text (suc k) rows) h₁ blank value blanks h l e
plain_row false true row rows number text k h₁ h₂ blank more value blanks h l e =
    one_comment row rows number text k h₂ value blanks h l e
plain_row false false row rows number text k h₁ h₂ blank more value blanks h l e =
    let f = flaw_none (either (tab_flaw row) (colon_flaw row.text)) row.number _ value e in
    let two = either_none (tab_flaw row) (colon_flaw row.text) f.0 in
    let goes : GoesOn row = (content_from row h₁ h₂, none_if (is_tabbed row) _ two.0, none_if (has_colon (plain_part row.text)) _ two.1) in
    row_goes (has_comment row.text) row rows number text k goes refl more value blanks h l f.1

plain_from : (rows : List Row) (number : ℕ) (text : List ℕ) (k : ℕ) → PlainGoal number text k rows (plain_more number text k rows)
plain_from [] number text k value blanks h l e =
    meant_ends number text (blanks ++ []) value (cc) (each_append (λ r. is_content r ≡ false) blanks [] (blanks_bare blanks h) tt)
plain_from (row ∷ rows) number text k value blanks h l e =
    plain_row (is_blank_row row) (is_comment_row row) row rows number text k refl refl
    (plain_from rows number text (suc k)) (plain_from rows number (text ++ gap k ++ plain_part row.text) zero) value blanks h l e

pub plain_meant : (rows : List Row) (number : ℕ) (text : List ℕ) (value : YamlTree) → plain_more number text zero rows ≡ Ok value → PlainMeant number text rows value
plain_meant rows number text value e = plain_from rows number text zero value [] tt refl e
