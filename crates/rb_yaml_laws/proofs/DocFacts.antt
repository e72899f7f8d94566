-- Documents: the reader and the relation agree.
use Rattle.std.proofs.Common.{◌≡◌, ◌≤◌, ◌^◌, ℕ, Bool, true, false, cond, ◌&&◌, ◌||◌, nat_eq, nat_lt, List, [], ◌∷◌, ◌++◌, length, drop, Option, Some, None, Result, Ok, Err, refl, sym, ap, subst, ◌∙◌, append_assoc, append-nil, arith}
use Rattle.std.proofs.lemmas.Bool.Decides.{nat_tests}
use Rattle.std.specs.Str.{is_utf8}
use Rattle.std.proofs.lemmas.Bool.{eqb-true, and_parts}
use Rattle.std.specs.List.{AllByRecursion as Each}
use Rattle.rb_causes.specs.Texts.{is_blank}
use Rattle.rb_yaml.specs.declared.fault.YamlFault.{YamlFault}
use Rattle.rb_yaml.specs.Faults.{◌>>=◌, flaw_or, beside}
use Rattle.rb_yaml.specs.Rows.{Row, rows_of, past_blanks, is_content, is_tabbed, first_content, begins}
use Rattle.rb_yaml.specs.Parts.{until, onward, parts}
use Rattle.rb_yaml.specs.Signs.{is_clear, is_nothing, ends_sign}
use Rattle.rb_yaml.specs.Markers.{is_marker, marker_flaw, is_mark, is_mark_before, behind_mark}
use Rattle.rb_yaml.specs.Tree.{YamlTree}
use Rattle.rb_yaml.specs.Nodes.{node}
use Rattle.rb_yaml.specs.Telling.{reported}
use Rattle.rb_yaml.specs.Documents.{has_control, control_fault, levels, doc_of, with_docs, marked_docs, marker_parts, docs_of_rows, docs_of_text, without_mark, docs_of}
use Rattle.rb_yaml.proofs.NodeFacts.{parts_first, more_parts}
use Rattle.rb_yaml_laws.specs.Bare.{Bare}
use Rattle.rb_yaml_laws.specs.Nodes.{depth}
use Rattle.rb_yaml_laws.specs.Docs as held
use Rattle.rb_yaml_laws.specs.Docs.{Parted, Bodies, Docs}
use Rattle.rb_yaml_laws.proofs.Binds.{bound, only_none}
use Rattle.rb_yaml_laws.proofs.RowFacts.{each_append, bare_none, none_bare, first_at, at_first}
use Rattle.rb_yaml_laws.proofs.BlankFacts.{begins_is}
use Rattle.rb_yaml_laws.proofs.CutFacts.{onward_none, onward_at, until_at}
use Rattle.rb_yaml_laws.proofs.NodeReads.{node_read}
use Rattle.rb_yaml_laws.proofs.NodeMeants.{node_meant}

abbrev NoMark : Row → Type 0
NoMark row = is_marker row ≡ false

levels_are : levels ≡ 32
unfolding levels
levels_are = refl

-- ---- markers

clear_ends : (rest : List ℕ) → is_clear rest ≡ true → ends_sign rest ≡ true
clear_ends [] h = refl
clear_ends (b ∷ bs) h = (and_parts (is_blank b) (is_nothing (past_blanks (b ∷ bs))) h).0

mark_text : (number : ℕ) (rest : List ℕ) → is_clear rest ≡ true → (is_marker (record { number = number; indent = 0; text = 45 ∷ 45 ∷ 45 ∷ rest }) ≡ true) × (marker_flaw (record { number = number; indent = 0; text = 45 ∷ 45 ∷ 45 ∷ rest }) ≡ None)
mark_text number rest c = (rw (clear_ends rest c) refl, rw c refl)

mark_is : (mark : Row) (rest : List ℕ) → mark.indent ≡ 0 → mark.text ≡ 45 ∷ 45 ∷ 45 ∷ rest → is_clear rest ≡ true → (is_marker mark ≡ true) × (marker_flaw mark ≡ None)
mark_is mark rest i t c =
    subst (λ n. (is_marker (record mark { indent = n }) ≡ true) × (marker_flaw (record mark { indent = n }) ≡ None)) (sym i)
    (subst (λ xs. (is_marker (record { number = mark.number; indent = 0; text = xs }) ≡ true) × (marker_flaw (record { number = mark.number; indent = 0; text = xs }) ≡ None)) (sym t) (mark_text mark.number rest c))

-- ---- what is meant is read

pub parts_are : (mark : Row) (rows : List Row) → parts is_marker mark [] rows ≡ (mark, until is_marker rows) ∷ marker_parts (onward is_marker rows)
parts_are mark rows = parts_first is_marker mark rows ∙ ap (λ xs. (mark, until is_marker rows) ∷ xs) (same (onward is_marker rows))
  where
    same : (rs : List Row) → more_parts is_marker rs ≡ marker_parts rs
    same [] = refl
    same (r ∷ rs) = refl

-- the documents behind a marker are those of the rows behind it
behind_mark_read : (mark : Row) (rows : List Row) → marker_flaw mark ≡ None → marked_docs (parts is_marker mark [] rows) ≡ docs_of_rows rows
behind_mark_read mark rows h = ap marked_docs (parts_are mark rows) ∙ rw h refl

until_none : (rows : List Row) → Each NoMark rows → until is_marker rows ≡ rows
until_none [] h = refl
until_none (row ∷ rows) h = rw h.0 (ap (λ xs. row ∷ xs) (until_none rows h.1))

one_body : (rows : List Row) (docs : List YamlTree) → Each NoMark rows → doc_of rows ≡ Ok docs → docs_of_rows rows ≡ Ok (docs ++ [])
one_body rows docs h e = rw (until_none rows h, onward_none is_marker rows h) (ap (λ r. r >>= λ d. with_docs d (marked_docs (marker_parts []))) e)

more_bodies : (body : List Row) (mark : Row) (rows : List Row) (docs more : List YamlTree) → Each NoMark body → is_marker mark ≡ true → marker_flaw mark ≡ None → doc_of body ≡ Ok docs → docs_of_rows rows ≡ Ok more →
    docs_of_rows (body ++ mark ∷ rows) ≡ Ok (docs ++ more)
more_bodies body mark rows docs more h m f e k =
    rw (until_at is_marker body mark rows h m, onward_at is_marker body mark rows h m)
    (ap (λ r. r >>= λ d. with_docs d (marked_docs (parts is_marker mark [] rows))) e ∙ ap (with_docs docs) (behind_mark_read mark rows f ∙ k))

pub record BodyRead (body : List Row) (rest : List (List Row)) (docs : List YamlTree) : Type 0 where
  pub own : List YamlTree
  pub more : List YamlTree
  pub is : docs ≡ own ++ more
  pub read : doc_of body ≡ Ok own
  pub held : Bodies rest more

bare_doc : (body : List Row) → Bare body → doc_of body ≡ Ok []
bare_doc body h = rw (bare_none body h) refl

one_doc : (before : List Row) (head : Row) (behind : List Row) (root : YamlTree) → Bare before → is_content head ≡ true → is_tabbed head ≡ false → node levels 0 head behind ≡ Ok root → doc_of (before ++ head ∷ behind) ≡ Ok (root ∷ [])
one_doc before head behind root h c t e = rw (first_at before head behind h c, t, e) refl

body_read : {bodies : List (List Row)} {docs : List YamlTree} → Bodies bodies docs → (body : List Row) (rest : List (List Row)) → bodies ≡ body ∷ rest → BodyRead body rest docs
body_read held.Bodies.no_body body rest e = absurd (cc)
body_read (held.Bodies.passed {body = mine} {bodies = bodies} {docs = docs} h more) body rest e =
    let same : mine ≡ body = cc in
    let others : bodies ≡ rest = cc in
    record { own = []; more = docs; is = refl; read = bare_doc body (subst Bare same h); held = subst (λ bs. Bodies bs docs) others more }
body_read (held.Bodies.document {bodies = bodies} {root = root} {docs = docs} before head behind h c t is d more) body rest e =
    let same : before ++ head ∷ behind ≡ body = cc in
    let others : bodies ≡ rest = cc in
    let read = node_read is levels (subst (λ n. depth root ≤ n) (sym levels_are) d) in
    record {
      own = root ∷ [];
      more = docs;
      is = refl;
      read = subst (λ rs. doc_of rs ≡ Ok (root ∷ [])) same (one_doc before head behind root h c t read);
      held = subst (λ bs. Bodies bs docs) others more;
    }

no_docs : {bodies : List (List Row)} {docs : List YamlTree} → Bodies bodies docs → bodies ≡ [] → docs ≡ []
no_docs held.Bodies.no_body e = refl
no_docs (held.Bodies.passed h more) e = absurd (cc)
no_docs (held.Bodies.document before head behind h c t is d more) e = absurd (cc)

rows_read : {rows : List Row} {bodies : List (List Row)} → Parted rows bodies → (docs : List YamlTree) → Bodies bodies docs → docs_of_rows rows ≡ Ok docs
rows_read (held.Parted.last {rows = rows} h) docs b =
    let m = body_read b rows [] refl in
    one_body rows m.own h m.read ∙ ap (λ xs. Ok (m.own ++ xs)) (sym (no_docs m.held refl)) ∙ ap Ok (sym m.is)
rows_read (held.Parted.more {bodies = bodies} {rest = rest} body mark rows h i t c p) docs b =
    let m = body_read b body bodies refl in
    let is = mark_is mark rest i t c in
    more_bodies body mark rows m.own m.more h is.0 is.1 m.read (rows_read p m.more m.held) ∙ ap Ok (sym m.is)

control_none : (rows : List Row) → Each (λ row. has_control row.text ≡ false) rows → control_fault rows ≡ None
control_none [] h = refl
control_none (row ∷ rows) h = rw h.0 (control_none rows h.1)

not_over : (n : ℕ) → n ≤ 2 ^ 20 → nat_lt (2 ^ 20) n ≡ false
not_over n h = grind (arith, nat_tests)

text_read : (bytes : List ℕ) (docs : List YamlTree) → Docs bytes docs → docs_of_text bytes ≡ Ok docs
text_read bytes docs d = rw (control_none (rows_of (without_mark bytes)) d.lines.no_control) (rows_read d.lines.parted docs d.lines.held)

pub meant_is_read : (bytes : List ℕ) (docs : List YamlTree) → Docs bytes docs → docs_of bytes ≡ Ok docs
meant_is_read bytes docs d = rw (not_over (length bytes) d.short, d.encoded) (ap reported (text_read bytes docs d))

-- ---- what is read is meant

-- the bodies of the rows, with their documents
pub record RowsMeant (rows : List Row) (docs : List YamlTree) : Type 0 where
  pub bodies : List (List Row)
  pub parted : Parted rows bodies
  pub held : Bodies bodies docs

-- the documents of one body stand before those of the others
abbrev BodyMeant : List Row → List YamlTree → Type 0
BodyMeant body own = (bodies : List (List Row)) (docs : List YamlTree) → Bodies bodies docs → Bodies (body ∷ bodies) (own ++ docs)

doc_first : (t : Bool) (body : List Row) (own : List YamlTree) (first : Row × List Row) → first_content body ≡ Some first → is_tabbed first.0 ≡ t → doc_of body ≡ Ok own → BodyMeant body own
doc_first true body own first h k e bodies docs b = let never = rw (h, k) at e in absurd (cc)
doc_first false body own first h k e bodies docs b =
    let at = at_first body first h in
    let r = bound (node levels 0 first.0 first.1) (λ root. Ok (root ∷ [])) own (rw (h, k) at e) in
    let m = node_meant levels 0 first.0 first.1 r.x at.filled k r.first in
    let same : r.x ∷ [] ≡ own = let t = r.then_ in cc in
    subst (λ xs. Bodies (xs ∷ bodies) (own ++ docs)) (sym at.all)
    (subst (λ xs. Bodies ((at.before ++ first.0 ∷ first.1) ∷ bodies) (xs ++ docs)) same
    (held.Bodies.document at.before first.0 first.1 at.bare at.filled k m.means (subst (λ n. depth r.x ≤ n) levels_are m.within) b))

doc_by : (o : Option (Row × List Row)) (body : List Row) (own : List YamlTree) → first_content body ≡ o → doc_of body ≡ Ok own → BodyMeant body own
doc_by None body own h e bodies docs b =
    let same : [] ≡ own = let k = rw h at e in cc in
    subst (λ xs. Bodies (body ∷ bodies) (xs ++ docs)) same (held.Bodies.passed (none_bare body h) b)
doc_by (Some first) body own h e bodies docs b = doc_first (is_tabbed first.0) body own first h refl e bodies docs b

doc_meant : (body : List Row) (own : List YamlTree) → doc_of body ≡ Ok own → BodyMeant body own
doc_meant body own e = doc_by (first_content body) body own refl e

-- a marker that nothing is wrong with
pub record Marks (mark : Row) : Type 0 where
  pub rest : List ℕ
  pub indent : mark.indent ≡ 0
  pub text : mark.text ≡ 45 ∷ 45 ∷ 45 ∷ rest
  pub clear : is_clear rest ≡ true

three_by : (t : Bool) (text : List ℕ) → (begins 45 text && (begins 45 (drop 1 text) && begins 45 (drop 1 (drop 1 text)))) ≡ t → is_mark_before is_clear (cond t (Some (drop 1 (drop 1 (drop 1 text)))) None) ≡ true →
    (text ≡ 45 ∷ 45 ∷ 45 ∷ drop 1 (drop 1 (drop 1 text))) × (is_clear (drop 1 (drop 1 (drop 1 text))) ≡ true)
three_by false text h e = absurd (cc)
three_by true text h e =
    let first = (and_parts (begins 45 text) (begins 45 (drop 1 text) && begins 45 (drop 1 (drop 1 text))) h).0 in
    let more = (and_parts (begins 45 text) (begins 45 (drop 1 text) && begins 45 (drop 1 (drop 1 text))) h).1 in
    let second = (and_parts (begins 45 (drop 1 text)) (begins 45 (drop 1 (drop 1 text))) more).0 in
    let third = (and_parts (begins 45 (drop 1 text)) (begins 45 (drop 1 (drop 1 text))) more).1 in
    (begins_is 45 text first ∙ ap (λ xs. 45 ∷ xs) (begins_is 45 (drop 1 text) second ∙ ap (λ xs. 45 ∷ xs) (begins_is 45 (drop 1 (drop 1 text)) third)), e)

flaw_by : (t₁ t₂ t₃ : Bool) (mark : Row) → begins 37 mark.text ≡ t₁ → begins 46 mark.text ≡ t₂ → is_mark_before is_clear (behind_mark 45 mark.text) ≡ t₃ → marker_flaw mark ≡ None → is_mark_before is_clear (behind_mark 45 mark.text) ≡ true
flaw_by true t₂ t₃ mark h₁ h₂ h₃ e = let never = rw h₁ at e in absurd (cc)
flaw_by false true t₃ mark h₁ h₂ h₃ e = let never = rw (h₁, h₂) at e in absurd (cc)
flaw_by false false true mark h₁ h₂ h₃ e = h₃
flaw_by false false false mark h₁ h₂ h₃ e = let never = rw (h₁, h₂, h₃) at e in absurd (cc)

marks : (mark : Row) → is_marker mark ≡ true → marker_flaw mark ≡ None → Marks mark
marks mark h e =
    let dashes = flaw_by (begins 37 mark.text) (begins 46 mark.text) (is_mark_before is_clear (behind_mark 45 mark.text)) mark refl refl refl e in
    let three = three_by (begins 45 mark.text && (begins 45 (drop 1 mark.text) && begins 45 (drop 1 (drop 1 mark.text)))) mark.text refl dashes in
    let zero_indent = (and_parts (nat_eq mark.indent 0) (begins 37 mark.text || (is_mark 46 mark.text || is_mark 45 mark.text)) h).0 in
    record { rest = drop 1 (drop 1 (drop 1 mark.text)); indent = eqb-true mark.indent 0 zero_indent; text = three.0; clear = three.1 }

-- what is read behind a marker: nothing is wrong with it, and the rows behind it have these
-- documents
marked_meant : (mark : Row) (rows : List Row) (more : List YamlTree) → marked_docs (parts is_marker mark [] rows) ≡ Ok more → (marker_flaw mark ≡ None) × (docs_of_rows rows ≡ Ok more)
marked_meant mark rows more e =
    only_none (λ o. flaw_or {A = List YamlTree} o mark.number (doc_of (until is_marker rows)) >>= λ docs. with_docs docs (marked_docs (marker_parts (onward is_marker rows)))) (marker_flaw mark) more (λ x k. cc)
    (sym (ap marked_docs (parts_are mark rows)) ∙ e)

last_meant : (so_far : List Row) (docs : List YamlTree) → Each NoMark so_far → (doc_of (so_far ++ []) >>= λ d. with_docs d (marked_docs (marker_parts []))) ≡ Ok docs → RowsMeant (so_far ++ []) docs
last_meant so_far docs h e =
    let k = bound (doc_of (so_far ++ [])) (λ d. with_docs d (marked_docs (marker_parts []))) docs e in
    let same : k.x ++ [] ≡ docs = let t = k.then_ in cc in
    record {
      bodies = (so_far ++ []) ∷ [];
      parted = held.Parted.last (each_append NoMark so_far [] h tt);
      held = subst (Bodies ((so_far ++ []) ∷ [])) same (doc_meant (so_far ++ []) k.x k.first [] [] held.Bodies.no_body);
    }

mark_meant : (so_far : List Row) (mark : Row) (rows : List Row) (docs : List YamlTree) → Each NoMark so_far → is_marker mark ≡ true →
    ((more : List YamlTree) → docs_of_rows rows ≡ Ok more → RowsMeant rows more) →
    (doc_of (so_far ++ []) >>= λ d. with_docs d (marked_docs (parts is_marker mark [] rows))) ≡ Ok docs → RowsMeant (so_far ++ mark ∷ rows) docs
mark_meant so_far mark rows docs h m next e =
    let k = bound (doc_of (so_far ++ [])) (λ d. with_docs d (marked_docs (parts is_marker mark [] rows))) docs e in
    let l = bound (marked_docs (parts is_marker mark [] rows)) (λ more. Ok (k.x ++ more)) docs k.then_ in
    let same : k.x ++ l.x ≡ docs = let t = l.then_ in cc in
    let both_meant = marked_meant mark rows l.x l.first in
    let is = marks mark m both_meant.0 in
    let r = next l.x both_meant.1 in
    let own = subst (λ xs. doc_of xs ≡ Ok k.x) (append-nil so_far) k.first in
    record {
      bodies = so_far ∷ r.bodies;
      parted = held.Parted.more so_far mark rows h is.indent is.text is.clear r.parted;
      held = subst (Bodies (so_far ∷ r.bodies)) same (doc_meant so_far k.x own r.bodies l.x r.held);
    }

row_meant : (t : Bool) (row : Row) (rows so_far : List Row) (docs : List YamlTree) → Each NoMark so_far → is_marker row ≡ t →
    ((more : List YamlTree) → docs_of_rows rows ≡ Ok more → RowsMeant rows more) →
    (Each NoMark (so_far ++ row ∷ []) → (doc_of (so_far ++ row ∷ [] ++ until is_marker rows) >>= λ d. with_docs d (marked_docs (marker_parts (onward is_marker rows)))) ≡ Ok docs → RowsMeant (so_far ++ row ∷ [] ++ rows) docs) →
    (doc_of (so_far ++ until is_marker (row ∷ rows)) >>= λ d. with_docs d (marked_docs (marker_parts (onward is_marker (row ∷ rows))))) ≡ Ok docs → RowsMeant (so_far ++ row ∷ rows) docs
row_meant true row rows so_far docs h m next grow e = mark_meant so_far row rows docs h m next (rw m at e)
row_meant false row rows so_far docs h m next grow e =
    subst (λ xs. RowsMeant xs docs) (append_assoc so_far (row ∷ []) rows)
    (grow (each_append NoMark so_far (row ∷ []) h (m, tt))
    (ap (λ xs. doc_of xs >>= λ d. with_docs d (marked_docs (marker_parts (onward is_marker rows)))) (append_assoc so_far (row ∷ []) (until is_marker rows)) ∙ (rw m at e)))

pub rows_meant : (rows so_far : List Row) (docs : List YamlTree) → Each NoMark so_far →
    (doc_of (so_far ++ until is_marker rows) >>= λ d. with_docs d (marked_docs (marker_parts (onward is_marker rows)))) ≡ Ok docs → RowsMeant (so_far ++ rows) docs
rows_meant [] so_far docs h e = last_meant so_far docs h e
rows_meant (row ∷ rows) so_far docs h e =
    row_meant (is_marker row) row rows so_far docs h refl (λ more k. rows_meant rows [] more tt k) (λ k f. rows_meant rows (so_far ++ row ∷ []) docs k f) e

control_by : (t : Bool) (row : Row) (rows : List Row) → has_control row.text ≡ t → (control_fault rows ≡ None → Each (λ r. has_control r.text ≡ false) rows) → control_fault (row ∷ rows) ≡ None → Each (λ r. has_control r.text ≡ false) (row ∷ rows)
control_by true row rows h more e = let never = rw h at e in absurd (cc)
control_by false row rows h more e = (h, more (rw h at e))

pub control_meant : (rows : List Row) → control_fault rows ≡ None → Each (λ row. has_control row.text ≡ false) rows
control_meant [] e = tt
control_meant (row ∷ rows) e = control_by (has_control row.text) row rows refl (control_meant rows) e

under : (n : ℕ) → nat_lt (2 ^ 20) n ≡ false → n ≤ 2 ^ 20
under n h = grind (arith, nat_tests)

text_meant : (bytes : List ℕ) (docs : List YamlTree) → nat_lt (2 ^ 20) (length bytes) ≡ false → is_utf8 bytes ≡ true → docs_of_text bytes ≡ Ok docs → Docs bytes docs
text_meant bytes docs l u e =
    let rows = rows_of (without_mark bytes) in
    let only = only_none (λ o. beside {A = List YamlTree} o (docs_of_rows rows)) (control_fault rows) docs (λ x k. cc) e in
    let m = rows_meant rows [] docs tt only.1 in
    record { short = under (length bytes) l; encoded = u; lines = record { no_control = control_meant rows only.0; bodies = m.bodies; parted = m.parted; held = m.held } }

text_by : (bytes : List ℕ) (docs : List YamlTree) (r : Result (List YamlTree) _) → docs_of_text bytes ≡ r → reported r ≡ Ok docs → docs_of_text bytes ≡ Ok docs
text_by bytes docs (Ok x) h e = let same : x ≡ docs = cc in h ∙ ap Ok same
text_by bytes docs (Err f) h e = absurd (cc)

docs_by : (t₁ t₂ : Bool) (bytes : List ℕ) (docs : List YamlTree) → nat_lt (2 ^ 20) (length bytes) ≡ t₁ → is_utf8 bytes ≡ t₂ → docs_of bytes ≡ Ok docs → Docs bytes docs
docs_by true t₂ bytes docs h₁ h₂ e = let never = rw h₁ at e in absurd (cc)
docs_by false false bytes docs h₁ h₂ e = let never = rw (h₁, h₂) at e in absurd (cc)
docs_by false true bytes docs h₁ h₂ e = text_meant bytes docs h₁ h₂ (text_by bytes docs (docs_of_text bytes) refl (rw (h₁, h₂) at e))

pub read_is_meant : (bytes : List ℕ) (docs : List YamlTree) → docs_of bytes ≡ Ok docs → Docs bytes docs
read_is_meant bytes docs e = docs_by (nat_lt (2 ^ 20) (length bytes)) (is_utf8 bytes) bytes docs refl refl e

-- ---- one reading at most

pub one_reading : (bytes : List ℕ) (a b : List YamlTree) → Docs bytes a → Docs bytes b → a ≡ b
one_reading bytes a b h k = let same = sym (meant_is_read bytes a h) ∙ meant_is_read bytes b k in cc

pub refused_has_none : (bytes : List ℕ) (fault : YamlFault) (docs : List YamlTree) → docs_of bytes ≡ Err fault → Docs bytes docs → ⊥
refused_has_none bytes fault docs e d = let never = sym e ∙ meant_is_read bytes docs d in cc
