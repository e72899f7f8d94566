-- Single-quoted texts over rows: the reader and the relation agree.
use Rattle.std.proofs.Common.{◌≡◌, ℕ, zero, suc, ◌+◌, Bool, true, false, cond, ◌&&◌, ◌||◌, nat_le, is_some, List, [], ◌∷◌, ◌++◌, length, Option, Some, None, Ok, refl, sym, ap, subst, ◌∙◌, append_assoc, length-append, arith}
use Rattle.std.proofs.lemmas.Bool.{leb-true, le-leb, and_parts}
use Rattle.std.specs.List.{AllByRecursion as Each}
use Rattle.rb_yaml.specs.Rows.{Row, is_blank_row, is_tabbed, tab_flaw}
use Rattle.rb_yaml.specs.Signs.{is_clear, without_end}
use Rattle.rb_yaml.specs.Quotes.{single_from}
use Rattle.rb_yaml.specs.Scalars.{TreeReading, complete, gap, has_closing_quote, close_flaw, single_more}
use Rattle.rb_yaml.specs.Tree.{YamlTree, scalar}
use Rattle.rb_yaml_laws.specs.Bare.{Bare}
use Rattle.rb_yaml_laws.specs.Plain as plain
use Rattle.rb_yaml_laws.specs.Plain.{IsBlank, StandsFrom, SingleOver}
use Rattle.rb_yaml.specs.Faults.{either, flaw_or}
use Rattle.rb_yaml_laws.proofs.FlawFacts.{none_if, none_unless, either_none, flaw_none}
use Rattle.rb_yaml_laws.proofs.RowFacts.{each_append, complete_read, complete_meant}
use Rattle.rb_yaml_laws.proofs.QuoteFacts.{quoted, single_read, open_read, single_meant, open_meant}
use Rattle.rb_yaml_laws.proofs.PlainFacts.{joined}

-- ---- what is meant is read

single_blanks : (blanks rows : List Row) (number : ℕ) (text : List ℕ) (k : ℕ) → Each IsBlank blanks → single_more number text k (blanks ++ rows) ≡ single_more number text (length blanks + k) rows
single_blanks [] rows number text k h = let e : 0 + k ≡ k = omega arith in ap (λ n. single_more number text n rows) (sym e)
single_blanks (row ∷ blanks) rows number text k h =
    let e : length blanks + suc k ≡ suc (length blanks) + k = omega arith in
    rw h.0 (single_blanks blanks rows number text (suc k) h.1 ∙ ap (λ n. single_more number text n rows) e)

at_blanks : (blanks : List Row) (row : Row) (rows : List Row) (number : ℕ) (text : List ℕ) → Each IsBlank blanks →
    single_more number text zero (blanks ++ row ∷ rows) ≡ single_more number text (length blanks) (row ∷ rows)
at_blanks blanks row rows number text h =
    let e : length blanks + zero ≡ length blanks = omega arith in
    single_blanks blanks (row ∷ rows) number text zero h ∙ ap (λ n. single_more number text n (row ∷ rows)) e

-- what a quoted text is, once it has been closed on a line
abbrev pub closed_with : ℕ → ℕ → List ℕ → List ℕ → List Row → TreeReading
closed_with number line text rest rows = flaw_or (close_flaw (Some rest)) line (complete (scalar number text) rows)

pub closed_read : (number line : ℕ) (text rest : List ℕ) (rows : List Row) → is_clear rest ≡ true → Bare rows → closed_with number line text rest rows ≡ Ok (scalar number text)
closed_read number line text rest rows c bare = rw c (complete_read (scalar number text) rows bare)

single_last : (row : Row) (rows : List Row) (number : ℕ) (text said rest : List ℕ) (k floor : ℕ) → StandsFrom floor row → single_from false row.text ≡ quoted said (Some rest) →
    single_more number text k (row ∷ rows) ≡ closed_with number row.number (text ++ gap k ++ said) rest rows
single_last row rows number text said rest k floor h s = rw (h.0, h.1, s) refl

single_goes : (row : Row) (rows : List Row) (number : ℕ) (text part : List ℕ) (k floor : ℕ) → StandsFrom floor row → single_from false row.text ≡ quoted part None →
    single_more number text k (row ∷ rows) ≡ single_more number (text ++ gap k ++ without_end part) zero rows
single_goes row rows number text part k floor h s = rw (h.0, h.1, s) refl

pub single_over_read : {floor : ℕ} {rows : List Row} {said : List ℕ} → SingleOver floor rows said → (number : ℕ) (text : List ℕ) → single_more number text zero rows ≡ Ok (scalar number (text ++ said))
single_over_read {floor} (plain.SingleOver.last blanks row rows {said = said} {rest = rest} h stands s c bare) number text =
    at_blanks blanks row rows number text h ∙ single_last row rows number text said rest (length blanks) floor stands (single_read s)
    ∙ closed_read number row.number (text ++ gap (length blanks) ++ said) rest rows c bare
    ∙ ap (λ xs. Ok (scalar number xs)) (append_assoc text (gap (length blanks)) said)
single_over_read {floor} (plain.SingleOver.more blanks row rows {part = part} {said = said} h stands s over) number text =
    at_blanks blanks row rows number text h ∙ single_goes row rows number text part (length blanks) floor stands (open_read s)
    ∙ single_over_read over number (text ++ gap (length blanks) ++ without_end part)
    ∙ ap (λ xs. Ok (scalar number xs)) (joined text (gap (length blanks)) (without_end part) said)

closes_blanks : (blanks rows : List Row) (floor : ℕ) → Each IsBlank blanks → has_closing_quote floor (blanks ++ rows) ≡ has_closing_quote floor rows
closes_blanks [] rows floor h = refl
closes_blanks (row ∷ blanks) rows floor h = rw h.0 (closes_blanks blanks rows floor h.1)

closes_last : (row : Row) (rows : List Row) (said rest : List ℕ) (floor : ℕ) → StandsFrom floor row → single_from false row.text ≡ quoted said (Some rest) → has_closing_quote floor (row ∷ rows) ≡ true
closes_last row rows said rest floor h s = rw (h.0, le-leb floor row.indent h.2, s) refl

closes_more : (row : Row) (rows : List Row) (part : List ℕ) (floor : ℕ) → StandsFrom floor row → single_from false row.text ≡ quoted part None → has_closing_quote floor (row ∷ rows) ≡ has_closing_quote floor rows
closes_more row rows part floor h s = rw (h.0, le-leb floor row.indent h.2, s) refl

pub closes_read : {floor : ℕ} {rows : List Row} {said : List ℕ} → SingleOver floor rows said → has_closing_quote floor rows ≡ true
closes_read {floor} (plain.SingleOver.last blanks row rows {said = said} {rest = rest} h stands s c bare) =
    closes_blanks blanks (row ∷ rows) floor h ∙ closes_last row rows said rest floor stands (single_read s)
closes_read {floor} (plain.SingleOver.more blanks row rows {part = part} h stands s over) =
    closes_blanks blanks (row ∷ rows) floor h ∙ closes_more row rows part floor stands (open_read s) ∙ closes_read over

-- ---- what is read is meant

pub closed_meant : (t : Bool) (number line : ℕ) (text rest : List ℕ) (rows : List Row) (value : YamlTree) → is_clear rest ≡ t → closed_with number line text rest rows ≡ Ok value →
    (is_clear rest ≡ true) × (value ≡ scalar number text) × Bare rows
closed_meant true number line text rest rows value c e = let m = complete_meant (scalar number text) value rows (rw c at e) in (c, m.0, m.1)
closed_meant false number line text rest rows value c e = let never = rw c at e in absurd (cc)

pub record SingleMeant (floor number : ℕ) (text : List ℕ) (rows : List Row) (value : YamlTree) : Type 0 where
  pub said : List ℕ
  pub over : SingleOver floor rows said
  pub is : value ≡ scalar number (text ++ said)

abbrev SingleGoal : ℕ → ℕ → List ℕ → ℕ → List Row → Bool → TreeReading → Type 0
SingleGoal floor number text k rows closing read =
    (value : YamlTree) (blanks : List Row) → Each IsBlank blanks → length blanks ≡ k → closing ≡ true → read ≡ Ok value → SingleMeant floor number text (blanks ++ rows) value

one_blank : (floor : ℕ) (row : Row) (rows : List Row) (number : ℕ) (text : List ℕ) (k : ℕ) (closing : Bool) (read : TreeReading) → is_blank_row row ≡ true →
    SingleGoal floor number text (suc k) rows closing read → SingleGoal floor number text k (row ∷ rows) closing read
one_blank floor row rows number text k closing read b goal value blanks h l c e =
    let n : length (blanks ++ row ∷ []) ≡ suc k = length-append blanks (row ∷ []) ∙ omega (arith, l) in
    subst (λ xs. SingleMeant floor number text xs value) (append_assoc blanks (row ∷ []) rows)
    (goal value (blanks ++ row ∷ []) (each_append IsBlank blanks (row ∷ []) h (b, tt)) n c e)

one_row : (o : Option (List ℕ)) (floor : ℕ) (row : Row) (rows : List Row) (number : ℕ) (text : List ℕ) (k : ℕ) → StandsFrom floor row → (single_from false row.text).rest ≡ o → close_flaw o ≡ None →
    SingleGoal floor number (text ++ gap k ++ without_end (single_from false row.text).text) zero rows (has_closing_quote floor rows) (single_more number (text ++ gap k ++ without_end (single_from false row.text).text) zero rows) →
    SingleGoal floor number text k (row ∷ rows) (is_some o || has_closing_quote floor rows)
    (cond (is_some o) (complete (scalar number (text ++ gap k ++ (single_from false row.text).text)) rows) (single_more number (text ++ gap k ++ without_end (single_from false row.text).text) zero rows))
one_row (Some rest) floor row rows number text k stands r f goal value blanks h l c e =
    let said = (single_from false row.text).text in
    let m = complete_meant (scalar number (text ++ gap k ++ said)) value rows e in
    record {
      said = gap (length blanks) ++ said;
      over = plain.SingleOver.last blanks row rows h stands (single_meant row.text rest r) (none_unless (is_clear rest) _ f) m.1;
      is = m.0 ∙ ap (scalar number) (append_assoc text (gap k) said) ∙ ap (λ n. scalar number (text ++ (gap n ++ said))) (sym l);
    }
one_row None floor row rows number text k stands r f goal value blanks h l c e =
    let part = without_end (single_from false row.text).text in
    let m = goal value [] tt refl c e in
    record {
      said = gap (length blanks) ++ part ++ m.said;
      over = plain.SingleOver.more blanks row rows h stands (open_meant row.text r) m.over;
      is = m.is ∙ ap (scalar number) (joined text (gap k) part m.said) ∙ ap (λ n. scalar number (text ++ (gap n ++ part ++ m.said))) (sym l);
    }

single_row : (t : Bool) (floor : ℕ) (row : Row) (rows : List Row) (number : ℕ) (text : List ℕ) (k : ℕ) → is_blank_row row ≡ t →
    SingleGoal floor number text (suc k) rows (has_closing_quote floor rows) (single_more number text (suc k) rows) →
    SingleGoal floor number (text ++ gap k ++ without_end (single_from false row.text).text) zero rows (has_closing_quote floor rows) (single_more number (text ++ gap k ++ without_end (single_from false row.text).text) zero rows) →
    SingleGoal floor number text k (row ∷ rows) (cond t (has_closing_quote floor rows) (nat_le floor row.indent && (is_some (single_from false row.text).rest || has_closing_quote floor rows)))
    (cond t (single_more number text (suc k) rows) (flaw_or (either (tab_flaw row) (close_flaw (single_from false row.text).rest)) row.number
    (cond (is_some (single_from false row.text).rest) (complete (scalar number (text ++ gap k ++ (single_from false row.text).text)) rows) (single_more number (text ++ gap k ++ without_end (single_from false row.text).text) zero rows))))
single_row true floor row rows number text k h₁ blank more value blanks h l c e =
    one_blank floor row rows number text k (has_closing_quote floor rows) (single_more number text (suc k) rows) h₁ blank value blanks h l c e
single_row false floor row rows number text k h₁ blank more value blanks h l c e =
    let q = single_from false row.text in
    let rest = is_some q.rest || has_closing_quote floor rows in
    let f = flaw_none (either (tab_flaw row) (close_flaw q.rest)) row.number _ value e in
    let two = either_none (tab_flaw row) (close_flaw q.rest) f.0 in
    let stands : StandsFrom floor row = (h₁, none_if (is_tabbed row) _ two.0, leb-true floor row.indent ((and_parts (nat_le floor row.indent) rest c).0)) in
    one_row q.rest floor row rows number text k stands refl two.1 more value blanks h l ((and_parts (nat_le floor row.indent) rest c).1) f.1

single_from_rows : (rows : List Row) (floor number : ℕ) (text : List ℕ) (k : ℕ) → SingleGoal floor number text k rows (has_closing_quote floor rows) (single_more number text k rows)
single_from_rows [] floor number text k value blanks h l c e = absurd (cc)
single_from_rows (row ∷ rows) floor number text k value blanks h l c e =
    single_row (is_blank_row row) floor row rows number text k refl
    (single_from_rows rows floor number text (suc k)) (single_from_rows rows floor number (text ++ gap k ++ without_end (single_from false row.text).text) zero) value blanks h l c e

pub single_over_meant : (rows : List Row) (floor number : ℕ) (text : List ℕ) (value : YamlTree) → has_closing_quote floor rows ≡ true → single_more number text zero rows ≡ Ok value → SingleMeant floor number text rows value
single_over_meant rows floor number text value c e = single_from_rows rows floor number text zero value [] tt refl c e
