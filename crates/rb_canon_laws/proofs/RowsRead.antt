-- The rows of a text of lines.
use Rattle.std.proofs.Common.{◌≡◌, ℕ, zero, suc, ◌+◌, Bool, true, false, not, ◌&&◌, cond, nat_eq, List, [], ◌∷◌, ◌++◌, replicate, drop, length, refl, sym, ap, subst, ◌∙◌, arith, append_assoc}
use Rattle.std.proofs.lemmas.Bool.{and_parts, and_from, not-true}
use Rattle.std.proofs.lemmas.List.Folds.{list_all-append}
use Rattle.std.specs.List.{list_all, slice_split, onto_first, AllByRecursion as Each}
use Rattle.rb_causes.specs.Texts.{is_line_feed}
use Rattle.rb_yaml.specs.Rows.{Row, spaces, begins, row_of, without_return, numbered}
use Rattle.rb_canon.specs.Layout.{Line, line_bytes, lines_bytes}
use Rattle.rb_canon_laws.proofs.LineRows.{row, rows_at}

-- neither a line feed nor a carriage return
abbrev pub stays : ℕ → Bool
stays b = not (nat_eq b 10) && not (nat_eq b 13)

abbrev pub all_stay : List ℕ → Bool
all_stay text = list_all stays text

stays_is : (b : ℕ) → stays b ≡ true → (nat_eq b 10 ≡ false) × (nat_eq b 13 ≡ false)
stays_is b h = let parts = and_parts (not (nat_eq b 10)) (not (nat_eq b 13)) h in (not-true (nat_eq b 10) parts.0, not-true (nat_eq b 13) parts.1)

split_at : (xs ys : List ℕ) → all_stay xs ≡ true → slice_split is_line_feed (xs ++ 10 ∷ ys) ≡ xs ∷ slice_split is_line_feed ys
split_at [] ys h = refl
split_at (x ∷ xs) ys h =
    let parts = and_parts (stays x) (all_stay xs) h in
    rw (stays_is x parts.0).0 (ap (onto_first x) (split_at xs ys parts.1))

kept : (xs : List ℕ) → all_stay xs ≡ true → without_return xs ≡ xs
kept [] h = refl
kept (x ∷ []) h = rw (stays_is x (and_parts (stays x) true h).0).1 refl
kept (x ∷ y ∷ xs) h = ap (λ (ys : List ℕ). x ∷ ys) (kept (y ∷ xs) (and_parts (stays x) (all_stay (y ∷ xs)) h).1)

-- the pieces of a text: there is one at least
record Some (parts : List (List ℕ)) : Type 0 where
  first : List ℕ
  more : List (List ℕ)
  is : parts ≡ first ∷ more

onto_some : (b : ℕ) (parts : List (List ℕ)) → Some parts → Some (onto_first b parts)
onto_some b parts s = subst (λ (ps : List (List ℕ)). Some (onto_first b ps)) (sym s.is) (record { first = b ∷ s.first; more = s.more; is = refl })

some_by : (t : Bool) (b : ℕ) (parts : List (List ℕ)) → Some parts → Some (cond t ([] ∷ parts) (onto_first b parts))
some_by true b parts s = record { first = []; more = parts; is = refl }
some_by false b parts s = onto_some b parts s

some_parts : (bs : List ℕ) → Some (slice_split is_line_feed bs)
some_parts [] = record { first = []; more = []; is = refl }
some_parts (b ∷ bs) = some_by (is_line_feed b) b (slice_split is_line_feed bs) (some_parts bs)

numbered_more : (n : ℕ) (text : List ℕ) (parts : List (List ℕ)) → Some parts → numbered n (text ∷ parts) ≡ row_of n (without_return text) ∷ numbered (n + 1) parts
numbered_more n text parts s =
    subst (λ (ps : List (List ℕ)). numbered n (text ∷ ps) ≡ row_of n (without_return text) ∷ numbered (n + 1) ps) (sym s.is) refl

-- ---- one line

-- a line that is read as it stands: it begins with no other blank and does not end before its end
pub record Reads (line : Line) : Type 0 where
  pub lead : begins 32 line.text ≡ false
  pub whole : all_stay line.text ≡ true

blanks_stay : (i : ℕ) → all_stay (replicate i 32) ≡ true
blanks_stay zero = refl
blanks_stay (suc i) = blanks_stay i

no_spaces : (text : List ℕ) → begins 32 text ≡ false → spaces text ≡ 0
no_spaces [] h = refl
no_spaces (b ∷ bs) h = rw h refl

indented : (i : ℕ) (text : List ℕ) → begins 32 text ≡ false → spaces (replicate i 32 ++ text) ≡ i
indented zero text h = no_spaces text h
indented (suc i) text h = ap suc (indented i text h)

past_indent : (i : ℕ) (text : List ℕ) → drop i (replicate i 32 ++ text) ≡ text
past_indent zero text = refl
past_indent (suc i) text = past_indent i text

row_is : (n : ℕ) (l : Line) → Reads l → row_of n (replicate l.indent 32 ++ l.text) ≡ row n l.indent l.text
row_is n l r =
    let at = indented l.indent l.text r.lead in
    ap (λ (k : ℕ). row n k (drop k (replicate l.indent 32 ++ l.text))) at ∙ ap (row n l.indent) (past_indent l.indent l.text)

line_stays : (l : Line) → Reads l → all_stay (replicate l.indent 32 ++ l.text) ≡ true
line_stays l r = list_all-append stays (replicate l.indent 32) l.text ∙ and_from (all_stay (replicate l.indent 32)) (all_stay l.text) (blanks_stay l.indent) r.whole

one_line : (l : Line) (more : List ℕ) → line_bytes l ++ more ≡ (replicate l.indent 32 ++ l.text) ++ 10 ∷ more
one_line l more = append_assoc (replicate l.indent 32 ++ l.text) (10 ∷ []) more

-- ---- all lines

pub rows_read : (n : ℕ) (ls : List Line) → Each Reads ls →
    numbered n (slice_split is_line_feed (lines_bytes ls)) ≡ rows_at n ls ++ row (n + length ls) 0 [] ∷ []
rows_read n [] h = ap (λ (m : ℕ). row m 0 [] ∷ []) (omega arith)
rows_read n (l ∷ ls) h =
    let text = replicate l.indent 32 ++ l.text in
    let more = slice_split is_line_feed (lines_bytes ls) in
    let at : n + 1 + length ls ≡ n + suc (length ls) = omega arith in
    ap (λ (xs : List ℕ). numbered n (slice_split is_line_feed xs)) (one_line l (lines_bytes ls))
    ∙ ap (numbered n) (split_at text (lines_bytes ls) (line_stays l h.0))
    ∙ numbered_more n text more (some_parts (lines_bytes ls))
    ∙ ap (λ (xs : List ℕ). row_of n xs ∷ numbered (n + 1) more) (kept text (line_stays l h.0))
    ∙ ap (λ (r : Row). r ∷ numbered (n + 1) more) (row_is n l h.0)
    ∙ ap (λ (rs : List Row). row n l.indent l.text ∷ rs)
    (rows_read (n + 1) ls h.1 ∙ ap (λ (m : ℕ). rows_at (n + 1) ls ++ row m 0 [] ∷ []) at)
