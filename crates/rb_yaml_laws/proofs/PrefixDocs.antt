-- Documents, read over the lines before one that has a fault.
use Rattle.std.proofs.Common.{◌≡◌, ◌⊎◌, inl, inr, ◌≤◌, ◌<◌, ◌+◌, ◌-◌, ℕ, zero, suc, Bool, true, false, cond, is_none, List, [], ◌∷◌, ◌++◌, take, drop, Option, Some, None, Result, Ok, Err, refl, sym, ap, subst, ◌∙◌, append_assoc, append-nil, arith}
use Rattle.std.proofs.lemmas.List.{take-append-drop}
use Rattle.std.specs.List.{slice_split, AllByRecursion as Each}
use Rattle.rb_causes.specs.Texts.{is_line_feed}
use Rattle.rb_yaml.specs.declared.fault.YamlFault.{YamlFault}
use Rattle.rb_yaml.specs.Faults.{LineFlaw, LineFault, ◌>>=◌, earlier, form_fault, sooner_fault, beside, flaw_or}
use Rattle.rb_yaml.specs.Rows.{Row, numbered, rows_of, first_content}
use Rattle.rb_yaml.specs.Parts.{until, onward, parts}
use Rattle.rb_yaml.specs.Markers.{is_marker, marker_flaw}
use Rattle.rb_yaml.specs.Tree.{YamlTree}
use Rattle.rb_yaml.specs.Nodes.{block, node}
use Rattle.rb_yaml.specs.Telling.{whole_fault, reported}
use Rattle.rb_yaml.specs.Documents.{DocsReading, has_control, control_fault, levels, doc_of, with_docs, marked_docs, marker_parts, docs_of_rows, without_mark, docs_of_text, docs_of}
use Rattle.rb_yaml_laws.specs.Open.{HasOpenQuote}
use Rattle.rb_yaml_laws.specs.Docs.{HoldsDocs}
use Rattle.rb_yaml_laws.proofs.RowFacts.{each_append, at_first, first_at}
use Rattle.rb_yaml_laws.proofs.DocFacts.{parts_are, rows_meant}
use Rattle.rb_yaml_laws.proofs.PrefixSteps.{Reaches, Goes, Before, From, OpenIn, goes_weak, by_last, by_same, earlier_le, first_le, open_on, open_back}
use Rattle.rb_yaml_laws.proofs.PrefixNodes.{block_cut, node_cut, until_from, no_until}

-- ---- one document

first_far : (front back : List Row) (first : Row × List Row) → first_content front ≡ Some first → first_content (front ++ back) ≡ Some (first.0, first.1 ++ back)
first_far front back first e =
    let at = at_first front first e in
    ap first_content (ap (λ xs. xs ++ back) at.all ∙ append_assoc at.before (first.0 ∷ first.1) back) ∙ first_at at.before first.0 (first.1 ++ back) at.bare at.filled

doc_by : (o : Option (Row × List Row)) (L : ℕ) (front back : List Row) → first_content front ≡ o → Each (Before L) front → Each (From L) back →
    Reaches L (doc_of (front ++ back)) → Goes (doc_of front) (OpenIn front back)
doc_by None L front back e h k r = rw e tt
doc_by (Some first) L front back e h k r =
    let read = block (node levels) zero zero in
    let some : is_none (first_content front) ≡ false = ap is_none e in
    let whole : is_none (first_content (front ++ back)) ≡ false = ap is_none (first_far front back first e) in
    let one : (rows : List Row) → is_none (first_content rows) ≡ false → doc_of rows ≡ (read rows >>= λ root. Ok (root ∷ [])) =
    λ rows n. ap (λ t. cond t (Ok []) (read rows >>= λ root. Ok (root ∷ []))) n in
    subst (λ (d : DocsReading). Goes d (OpenIn front back)) (sym (one front some))
    (by_last (OpenIn front back) L (read (front ++ back)) (read front) (λ root. Ok (root ∷ [])) (λ root. Ok (root ∷ [])) (block_cut L (node levels) zero zero front back (node_cut levels L) h k) (λ root. tt)
    (subst (λ (d : DocsReading). Reaches L d) (one (front ++ back) whole) r))

doc_cut : (L : ℕ) (front back : List Row) → Each (Before L) front → Each (From L) back → Reaches L (doc_of (front ++ back)) → Goes (doc_of front) (OpenIn front back)
doc_cut L front back h k r = doc_by (first_content front) L front back refl h k r

-- where nothing follows, there are documents
whole_doc : (L : ℕ) (rows : List Row) → Each (Before L) rows → Reaches L (doc_of rows) → Goes (doc_of rows) ⊥
whole_doc L rows h r =
    goes_weak (OpenIn rows []) ⊥ (doc_of rows) (λ o. o.1 refl) (doc_cut L rows [] h tt (subst (λ xs. Reaches L (doc_of xs)) (sym (append-nil rows)) r))

-- ---- documents, one after the other

-- the documents of rows, of which some were passed
abbrev read_from : List Row → List Row → DocsReading
read_from so_far rows = doc_of (so_far ++ until is_marker rows) >>= λ docs. with_docs docs (marked_docs (marker_parts (onward is_marker rows)))

marked_is : (mark : Row) (rows : List Row) → marked_docs (parts is_marker mark [] rows)
    ≡ (flaw_or (marker_flaw mark) mark.number (doc_of (until is_marker rows)) >>= λ docs. with_docs docs (marked_docs (marker_parts (onward is_marker rows))))
marked_is mark rows = ap marked_docs (parts_are mark rows)

flaw_cut : (o : Option LineFlaw) (L : ℕ) (mark : Row) (front back : List Row) → mark.number < L → (Reaches L (read_from [] (front ++ back)) → Goes (read_from [] front) (OpenIn front back)) →
    Reaches L (flaw_or o mark.number (doc_of (until is_marker (front ++ back))) >>= λ docs. with_docs docs (marked_docs (marker_parts (onward is_marker (front ++ back))))) →
    Goes (flaw_or o mark.number (doc_of (until is_marker front)) >>= λ docs. with_docs docs (marked_docs (marker_parts (onward is_marker front)))) (OpenIn front back)
flaw_cut None L mark front back l next r = next r
flaw_cut (Some x) L mark front back l next r = absurd (omega (arith, l, r))

marked_cut : (L : ℕ) (mark : Row) (front back : List Row) → mark.number < L → (Reaches L (read_from [] (front ++ back)) → Goes (read_from [] front) (OpenIn front back)) →
    Reaches L (marked_docs (parts is_marker mark [] (front ++ back))) → Goes (marked_docs (parts is_marker mark [] front)) (OpenIn front back)
marked_cut L mark front back l next r =
    subst (λ (d : DocsReading). Goes d (OpenIn front back)) (sym (marked_is mark front))
    (flaw_cut (marker_flaw mark) L mark front back l next (subst (λ (d : DocsReading). Reaches L d) (marked_is mark (front ++ back)) r))

later : (so_far : List Row) (mark : Row) (front back : List Row) → OpenIn front back → OpenIn (so_far ++ mark ∷ front) back
later so_far mark front back (q, l) = (open_on so_far mark front (so_far ++ mark ∷ front) refl (inr q), l)

row_cut : (t : Bool) (L : ℕ) (row : Row) (so_far front back : List Row) → is_marker row ≡ t → row.number < L → Each (Before L) so_far →
    (Reaches L (read_from [] (front ++ back)) → Goes (read_from [] front) (OpenIn front back)) →
    (Reaches L (read_from (so_far ++ row ∷ []) (front ++ back)) → Goes (read_from (so_far ++ row ∷ []) front) (OpenIn ((so_far ++ row ∷ []) ++ front) back)) →
    Reaches L (read_from so_far (row ∷ front ++ back)) → Goes (read_from so_far (row ∷ front)) (OpenIn (so_far ++ row ∷ front) back)
row_cut true L row so_far front back e l h next grow r =
    let O = OpenIn (so_far ++ row ∷ front) back in
    let mine = subst (λ xs. Each (Before L) xs) (sym (append-nil so_far)) h in
    let rest = λ (rows : List Row). marked_docs (parts is_marker row [] rows) in
    rw e
    (by_same O L (doc_of (so_far ++ [])) (λ docs. with_docs docs (rest (front ++ back))) (λ docs. with_docs docs (rest front)) (whole_doc L (so_far ++ []) mine)
    (λ docs. by_last O L (rest (front ++ back)) (rest front) (λ more. Ok (docs ++ more)) (λ more. Ok (docs ++ more))
    (λ s. goes_weak (OpenIn front back) O (rest front) (later so_far row front back) (marked_cut L row front back l next s)) (λ more. tt))
    (rw e at r))
row_cut false L row so_far front back e l h next grow r =
    let one : (rows : List Row) → read_from so_far (row ∷ rows) ≡ read_from (so_far ++ row ∷ []) rows =
    λ rows. rw e (ap (λ xs. doc_of xs >>= λ docs. with_docs docs (marked_docs (marker_parts (onward is_marker rows)))) (sym (append_assoc so_far (row ∷ []) (until is_marker rows)))) in
    subst (λ (d : DocsReading). Goes d (OpenIn (so_far ++ row ∷ front) back)) (sym (one front))
    (goes_weak (OpenIn ((so_far ++ row ∷ []) ++ front) back) (OpenIn (so_far ++ row ∷ front) back) (read_from (so_far ++ row ∷ []) front)
    (subst (λ xs. OpenIn xs back) (append_assoc so_far (row ∷ []) front)) (grow (subst (λ (d : DocsReading). Reaches L d) (one (front ++ back)) r)))

last_open : (so_far back : List Row) → OpenIn so_far (until is_marker back) → OpenIn (so_far ++ []) back
last_open so_far back o = let p = open_back (until is_marker back) back (no_until is_marker back) o in (subst HasOpenQuote (sym (append-nil so_far)) p.0, p.1)

docs_cut : (front : List Row) (L : ℕ) (so_far back : List Row) → Each (Before L) so_far → Each (Before L) front → Each (From L) back →
    Reaches L (read_from so_far (front ++ back)) → Goes (read_from so_far front) (OpenIn (so_far ++ front) back)
docs_cut [] L so_far back h f k r =
    let O = OpenIn (so_far ++ []) back in
    let mine = until is_marker back in
    by_last O L (doc_of (so_far ++ mine)) (doc_of (so_far ++ [])) (λ docs. with_docs docs (marked_docs (marker_parts (onward is_marker back)))) (λ docs. Ok (docs ++ []))
    (λ s. subst (λ xs. Goes (doc_of xs) O) (sym (append-nil so_far)) (goes_weak (OpenIn so_far mine) O (doc_of so_far) (last_open so_far back) (doc_cut L so_far mine h (until_from L is_marker back k) s)))
    (λ docs. tt) r
docs_cut (row ∷ front) L so_far back h f k r =
    row_cut (is_marker row) L row so_far front back refl f.0 h (docs_cut front L [] back tt f.1 k)
    (docs_cut front L (so_far ++ row ∷ []) back (each_append (Before L) so_far (row ∷ []) h (f.0, tt)) f.1 k) r

-- ---- control characters

control_by : (t : Bool) (L : ℕ) (row : Row) (front back : List Row) → has_control row.text ≡ t → row.number < L →
    (((c : LineFault) → control_fault (front ++ back) ≡ Some c → L ≤ c.line) → Each (λ r. has_control r.text ≡ false) front) →
    ((c : LineFault) → control_fault (row ∷ front ++ back) ≡ Some c → L ≤ c.line) → Each (λ r. has_control r.text ≡ false) (row ∷ front)
control_by true L row front back e l more h = let never : L ≤ row.number = h (form_fault row.number) (rw e refl) in absurd (omega (arith, l, never))
control_by false L row front back e l more h = (e, more (λ c k. h c (rw e k)))

control_cut : (front : List Row) (L : ℕ) (back : List Row) → Each (Before L) front → ((c : LineFault) → control_fault (front ++ back) ≡ Some c → L ≤ c.line) → Each (λ r. has_control r.text ≡ false) front
control_cut [] L back f h = tt
control_cut (row ∷ front) L back f h = control_by (has_control row.text) L row front back refl f.0 (control_cut front L back f.1) h

-- ---- the numbers of rows

numbers_from : (lines : List (List ℕ)) (L n : ℕ) → L ≤ n → Each (From L) (numbered n lines)
numbers_from [] L n l = tt
numbers_from (line ∷ []) L n l = (l, tt)
numbers_from (line ∷ next ∷ lines) L n l = (l, numbers_from (next ∷ lines) L (n + 1) (omega (arith, l)))

numbers_before : (lines : List (List ℕ)) (k n L : ℕ) → n + k ≤ L → Each (Before L) (take k (numbered n lines))
numbers_before lines zero n L l = tt
numbers_before [] (suc k) n L l = tt
numbers_before (line ∷ []) (suc k) n L l = (omega (arith, l), no_row k)
  where
    no_row : (j : ℕ) → Each (Before L) (take j [])
    no_row zero = tt
    no_row (suc j) = tt
numbers_before (line ∷ next ∷ lines) (suc k) n L l = (omega (arith, l), numbers_before (next ∷ lines) k (n + 1) L (omega (arith, l)))

numbers_behind : (lines : List (List ℕ)) (k n L : ℕ) → L ≤ n + k → Each (From L) (drop k (numbered n lines))
numbers_behind lines zero n L l = numbers_from lines L n (omega (arith, l))
numbers_behind [] (suc k) n L l = tt
numbers_behind (line ∷ []) (suc k) n L l = no_row k
  where
    no_row : (j : ℕ) → Each (From L) (drop j [])
    no_row zero = tt
    no_row (suc j) = tt
numbers_behind (line ∷ next ∷ lines) (suc k) n L l = numbers_behind (next ∷ lines) k (n + 1) L (omega (arith, l))

-- ---- the text

read_reaches : (o : Option LineFault) (read : DocsReading) (f : LineFault) → beside o read ≡ Err f → Reaches f.line read
read_reaches o (Ok docs) f e = tt
read_reaches None (Err g) f e = let n : g.line ≡ f.line = ap line e in omega (arith, n)
  where
    line : DocsReading → ℕ
    line (Ok docs) = 0
    line (Err x) = x.line
read_reaches (Some c) (Err g) f e = let n : (earlier c g).line ≡ f.line = ap line e in let l = (earlier_le c g).1 in omega (arith, n, l)
  where
    line : DocsReading → ℕ
    line (Ok docs) = 0
    line (Err x) = x.line

control_reaches : (o : Option LineFault) (read : DocsReading) (f c : LineFault) → beside o read ≡ Err f → o ≡ Some c → f.line ≤ c.line
control_reaches None read f c e k = absurd (cc)
control_reaches (Some d) read f c e k =
    let n : (sooner_fault d read).line ≡ f.line = ap line e in
    let same : d.line ≡ c.line = ap (λ o. at o) k in
    let l = first_le d read in omega (arith, n, same, l)
  where
    line : DocsReading → ℕ
    line (Ok docs) = 0
    line (Err x) = x.line

    at : Option LineFault → ℕ
    at None = 0
    at (Some x) = x.line

-- what the lines before a fault are
abbrev pub LinesBefore : List Row → Type 0
LinesBefore rows = ((docs : List YamlTree) × HoldsDocs rows docs) ⊎ HasOpenQuote rows

before_by : (read : DocsReading) (front back : List Row) → docs_of_rows front ≡ read → Each (λ r. has_control r.text ≡ false) front → Goes read (OpenIn front back) → LinesBefore front
before_by (Ok docs) front back e c g =
    let m = rows_meant front [] docs tt e in
    inl (docs, record { no_control = c; bodies = m.bodies; parted = m.parted; held = m.held })
before_by (Err f) front back e c g = inr g.0

lines_before : (rows front back : List Row) (f : LineFault) → rows ≡ front ++ back → Each (Before f.line) front → Each (From f.line) back →
    beside (control_fault rows) (docs_of_rows rows) ≡ Err f → LinesBefore front
lines_before rows front back f same h k e =
    let e' : beside (control_fault (front ++ back)) (docs_of_rows (front ++ back)) ≡ Err f = sym (ap (λ xs. beside (control_fault xs) (docs_of_rows xs)) same) ∙ e in
    let controls = control_cut front f.line back h (λ c. control_reaches (control_fault (front ++ back)) (docs_of_rows (front ++ back)) f c e') in
    before_by (docs_of_rows front) front back refl controls
    (docs_cut front f.line [] back tt h k (read_reaches (control_fault (front ++ back)) (docs_of_rows (front ++ back)) f e'))

text_before : (bytes : List ℕ) (f : LineFault) → docs_of_text bytes ≡ Err f → LinesBefore (take (f.line - 1) (rows_of (without_mark bytes)))
text_before bytes f e =
    let lines = slice_split is_line_feed (without_mark bytes) in
    let rows = rows_of (without_mark bytes) in
    lines_before rows (take (f.line - 1) rows) (drop (f.line - 1) rows) f (sym (take-append-drop (f.line - 1) rows)) (early lines f.line) (numbers_behind lines (f.line - 1) 1 f.line (omega arith)) e
  where
    early : (lines : List (List ℕ)) (n : ℕ) → Each (Before n) (take (n - 1) (numbered 1 lines))
    early lines zero = let z : zero - 1 ≡ zero = omega arith in subst (λ k. Each (Before zero) (take k (numbered 1 lines))) (sym z) tt
    early lines (suc n) = numbers_before lines (suc n - 1) 1 (suc n) (omega arith)

reported_by : (read : DocsReading) (bytes : List ℕ) (fault : YamlFault) → docs_of_text bytes ≡ read → reported read ≡ Err fault → LinesBefore (take (fault.line - 1) (rows_of (without_mark bytes)))
reported_by (Ok docs) bytes fault h e = absurd (cc)
reported_by (Err f) bytes fault h e =
    let n : f.line ≡ fault.line = ap line e in
    subst (λ k. LinesBefore (take (k - 1) (rows_of (without_mark bytes)))) n (text_before bytes f h)
  where
    line : Result (List YamlTree) YamlFault → ℕ
    line (Ok docs) = 0
    line (Err x) = x.line

pub lines_before_hold : (bytes : List ℕ) (fault : YamlFault) → whole_fault bytes ≡ None → docs_of bytes ≡ Err fault → LinesBefore (take (fault.line - 1) (rows_of (without_mark bytes)))
lines_before_hold bytes fault h e = reported_by (docs_of_text bytes) bytes fault refl (rw h at e)
