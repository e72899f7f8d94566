-- What texts say is made of fine characters where the texts are.
use Rattle.std.proofs.Common.{◌≡◌, ◌⊎◌, inl, inr, ◌≤◌, ◌<◌, ℕ, zero, suc, ◌-◌, Bool, true, false, cond, nat_eq, List, [], ◌∷◌, ◌++◌, replicate, length, drop, Some, None, refl, sym, ap, subst, ◌∙◌, arith, append_assoc, append-nil}
use Rattle.std.proofs.lemmas.Bool.{eqb-true, and_parts, and_from}
use Rattle.std.proofs.lemmas.List.{drop_at}
use Rattle.std.proofs.lemmas.List.Folds.{list_all-append}
use Rattle.std.specs.List.{list_all, AllByRecursion as Each}
use Rattle.rb_causes.specs.Texts.{is_blank}
use Rattle.rb_yaml.specs.Rows.{Row}
use Rattle.rb_yaml.specs.Signs.{has_comment, plain_part, without_end}
use Rattle.rb_yaml.specs.Quotes.{escaped}
use Rattle.rb_yaml.specs.Scalars.{gap}
use Rattle.rb_yaml.specs.Literals.{taken_off, width}
use Rattle.rb_yaml.specs.FlowScalars.{flow_word}
use Rattle.rb_yaml_laws.specs.Quotes as quotes
use Rattle.rb_yaml_laws.specs.Quotes.{Single, SingleOpen, Double}
use Rattle.rb_yaml_laws.specs.Plain as plain
use Rattle.rb_yaml_laws.specs.Plain.{IsBlank, PlainOver, SingleOver}
use Rattle.rb_yaml_laws.specs.Literal as literal
use Rattle.rb_yaml_laws.specs.Literal.{lines_of, Ended, Literal}
use Rattle.rb_yaml_laws.specs.Scanned as scanned
use Rattle.rb_yaml_laws.specs.Scanned.{FirstComment, EndsWord, WordIn}
use Rattle.rb_yaml_laws.specs.InFlow as flow
use Rattle.rb_yaml_laws.specs.InFlow.{FlowScalar, IsFlowItem, InFlow}
use Rattle.rb_yaml_laws.specs.Keys as keys
use Rattle.rb_yaml_laws.specs.Keys.{Key}
use Rattle.rb_yaml_laws.specs.Says as says
use Rattle.rb_yaml_laws.specs.Says.{Says}
use Rattle.rb_yaml_laws.proofs.RowFacts.{each_append, each_left, each_right, each_weak}
use Rattle.rb_yaml_laws.proofs.Scanned.{plain_ends_at_comment, flow_word_is_first}
use Rattle.rb_canon_laws.proofs.Fine.{Fine, fine_none, fine_append, fine_byte, fine_cut, fine_rest, fine_from, fine_blanks, fine_past, trailed, fine_end}
use Rattle.rb_canon_laws.proofs.FineRows.{RowFine}

-- ---- quotes

known_by : (s t u v : Bool) (b c : ℕ) → nat_eq b 110 ≡ s → nat_eq b 116 ≡ t → nat_eq b 92 ≡ u → nat_eq b 34 ≡ v →
    cond s (Some 10) (cond t (Some 9) (cond u (Some 92) (cond v (Some 34) None))) ≡ Some c → (b < 128) × Fine (c ∷ [])
known_by true t u v b c h k l m e = let same = eqb-true b 110 h in let is : 10 ≡ c = cc in (omega arith, subst (λ (x : ℕ). Fine (x ∷ [])) is (fine_byte 10 (omega arith) refl))
known_by false true u v b c h k l m e = let same = eqb-true b 116 k in let is : 9 ≡ c = cc in (omega arith, subst (λ (x : ℕ). Fine (x ∷ [])) is (fine_byte 9 (omega arith) refl))
known_by false false true v b c h k l m e = let same = eqb-true b 92 l in let is : 92 ≡ c = cc in (omega arith, subst (λ (x : ℕ). Fine (x ∷ [])) is (fine_byte 92 (omega arith) refl))
known_by false false false true b c h k l m e = let same = eqb-true b 34 m in let is : 34 ≡ c = cc in (omega arith, subst (λ (x : ℕ). Fine (x ∷ [])) is (fine_byte 34 (omega arith) refl))
known_by false false false false b c h k l m e = absurd (cc)

known : (b c : ℕ) → escaped b ≡ Some c → (b < 128) × Fine (c ∷ [])
known b c e = known_by (nat_eq b 110) (nat_eq b 116) (nat_eq b 92) (nat_eq b 34) b c refl refl refl refl e

double_fine : {text said rest : List ℕ} → Double text said rest → (pre : List ℕ) → Fine (pre ++ text) → Fine (pre ++ said) × Fine rest
double_fine (quotes.Double.closing {rest = rest}) pre f = let c = fine_cut pre 34 rest (omega arith) f in (subst Fine (sym (append-nil pre)) c.before, c.after)
double_fine (quotes.Double.escape {b = b} {c = c} {text = text} {said = said} e d) pre f =
    let one = fine_cut pre 92 (b ∷ text) (omega arith) f in
    let k = known b c e in
    let more = double_fine d [] (fine_rest b text k.0 one.after) in
    (fine_append pre (c ∷ said) one.before (fine_append (c ∷ []) said k.1 more.0), more.1)
double_fine (quotes.Double.other {b = b} {text = text} {said = said} n m d) pre f =
    let more = double_fine d (pre ++ b ∷ []) (subst Fine (sym (append_assoc pre (b ∷ []) text)) f) in
    (subst Fine (append_assoc pre (b ∷ []) said) more.0, more.1)

single_fine : {text said rest : List ℕ} → Single text said rest → (pre : List ℕ) → Fine (pre ++ text) → Fine (pre ++ said) × Fine rest
single_fine (quotes.Single.closing {rest = rest} h) pre f = let c = fine_cut pre 39 rest (omega arith) f in (subst Fine (sym (append-nil pre)) c.before, c.after)
single_fine (quotes.Single.quote {text = text} {said = said} d) pre f =
    let one = fine_cut pre 39 (39 ∷ text) (omega arith) f in
    let more = single_fine d [] (fine_rest 39 text (omega arith) one.after) in
    (fine_append pre (39 ∷ said) one.before (fine_append (39 ∷ []) said one.at more.0), more.1)
single_fine (quotes.Single.other {b = b} {text = text} {said = said} n d) pre f =
    let more = single_fine d (pre ++ b ∷ []) (subst Fine (sym (append_assoc pre (b ∷ []) text)) f) in
    (subst Fine (append_assoc pre (b ∷ []) said) more.0, more.1)

open_fine : {text said : List ℕ} → SingleOpen text said → (pre : List ℕ) → Fine (pre ++ text) → Fine (pre ++ said)
open_fine quotes.SingleOpen.at_end pre f = f
open_fine (quotes.SingleOpen.quote {text = text} {said = said} d) pre f =
    let one = fine_cut pre 39 (39 ∷ text) (omega arith) f in
    fine_append pre (39 ∷ said) one.before (fine_append (39 ∷ []) said one.at (open_fine d [] (fine_rest 39 text (omega arith) one.after)))
open_fine (quotes.SingleOpen.other {b = b} {text = text} {said = said} n d) pre f =
    subst Fine (append_assoc pre (b ∷ []) said) (open_fine d (pre ++ b ∷ []) (subst Fine (sym (append_assoc pre (b ∷ []) text)) f))

-- ---- plain texts

plain_by : (t : Bool) (text : List ℕ) → has_comment text ≡ t → Fine text → Fine (plain_part text)
plain_by true text h f =
    let c = (plain_ends_at_comment text).0 h in
    let cut = fine_cut (c.front ++ c.blank ∷ []) 35 c.behind (omega arith) (subst Fine (c.is ∙ sym (append_assoc c.front (c.blank ∷ []) (35 ∷ c.behind))) f) in
    subst Fine (sym c.said) (fine_end (c.front ++ c.blank ∷ []) cut.before)
plain_by false text h f = subst Fine (sym ((plain_ends_at_comment text).1 h).1) (fine_end text f)

plain_fine : (text : List ℕ) → Fine text → Fine (plain_part text)
plain_fine text f = plain_by (has_comment text) text refl f

feeds_fine : (n : ℕ) → Fine (replicate n 10)
feeds_fine zero = fine_none
feeds_fine (suc n) = fine_append (10 ∷ []) (replicate n 10) (fine_byte 10 (omega arith) refl) (feeds_fine n)

gap_fine : (n : ℕ) → Fine (gap n)
gap_fine zero = fine_byte 32 (omega arith) refl
gap_fine (suc n) = feeds_fine (suc n)

over_fine : {rows : List Row} {said : List ℕ} → PlainOver rows said → Each RowFine rows → Fine said
over_fine (plain.PlainOver.ends b) r = fine_none
over_fine (plain.PlainOver.last blanks row rows b g h e) r =
    let mine = each_right RowFine blanks (row ∷ rows) r in
    fine_append (gap (length blanks)) (plain_part row.text) (gap_fine (length blanks)) (plain_fine row.text mine.0)
over_fine (plain.PlainOver.more blanks row rows {said = said} b g h o) r =
    let mine = each_right RowFine blanks (row ∷ rows) r in
    fine_append (gap (length blanks) ++ plain_part row.text) said
    (fine_append (gap (length blanks)) (plain_part row.text) (gap_fine (length blanks)) (plain_fine row.text mine.0)) (over_fine o mine.1)

single_over_fine : {floor : ℕ} {rows : List Row} {said : List ℕ} → SingleOver floor rows said → Each RowFine rows → Fine said
single_over_fine (plain.SingleOver.last blanks row rows {said = said} b g s c e) r =
    let mine = each_right RowFine blanks (row ∷ rows) r in
    fine_append (gap (length blanks)) said (gap_fine (length blanks)) (single_fine s [] mine.0).0
single_over_fine (plain.SingleOver.more blanks row rows {part = part} {said = said} b g s o) r =
    let mine = each_right RowFine blanks (row ∷ rows) r in
    fine_append (gap (length blanks) ++ without_end part) said
    (fine_append (gap (length blanks)) (without_end part) (gap_fine (length blanks)) (fine_end part (open_fine s [] mine.0))) (single_over_fine o mine.1)

-- ---- literals

spaces_blank : (n : ℕ) → list_all is_blank (replicate n 32) ≡ true
spaces_blank zero = refl
spaces_blank (suc n) = spaces_blank n

drop_blank : (n : ℕ) (xs : List ℕ) → list_all is_blank xs ≡ true → list_all is_blank (drop n xs) ≡ true
drop_blank zero xs h = h
drop_blank (suc n) [] h = refl
drop_blank (suc n) (x ∷ xs) h = drop_blank n xs (and_parts (is_blank x) (list_all is_blank xs) h).1

taken_fine : (indent : ℕ) (r : Row) → RowFine r → IsBlank r ⊎ (indent ≤ r.indent) → Fine (taken_off indent r)
taken_fine indent r f (inl b) =
    fine_blanks (taken_off indent r)
    (drop_blank (indent - r.indent) (replicate (r.indent - indent) 32 ++ r.text)
    (list_all-append is_blank (replicate (r.indent - indent) 32) r.text
    ∙ and_from (list_all is_blank (replicate (r.indent - indent) 32)) (list_all is_blank r.text) (spaces_blank (r.indent - indent)) b))
taken_fine indent r f (inr h) =
    let none : indent - r.indent ≡ 0 = omega arith in
    subst (λ (n : ℕ). Fine (drop n (replicate (r.indent - indent) 32 ++ r.text))) (sym none)
    (fine_append (replicate (r.indent - indent) 32) r.text (fine_blanks (replicate (r.indent - indent) 32) (spaces_blank (r.indent - indent))) f)

lines_fine : (indent : ℕ) (rows : List Row) → Each RowFine rows → Each (λ r. IsBlank r ⊎ (indent ≤ r.indent)) rows → Fine (lines_of indent rows)
lines_fine indent [] f h = fine_none
lines_fine indent (r ∷ rows) f h =
    fine_append (taken_off indent r) (10 ∷ lines_of indent rows) (taken_fine indent r f.0 h.0)
    (fine_append (10 ∷ []) (lines_of indent rows) (fine_byte 10 (omega arith) refl) (lines_fine indent rows f.1 h.1))

before_feeds : (front feeds : List ℕ) → Each (λ c. c ≡ 10) feeds → Fine (front ++ feeds) → Fine front
before_feeds front [] h f = subst Fine (append-nil front) f
before_feeds front (c ∷ cs) h f = let e = h.0 in (fine_cut front c cs (omega arith) f).before

kept_fine : (keep : Bool) → Fine (cond keep (10 ∷ []) [])
kept_fine true = fine_byte 10 (omega arith) refl
kept_fine false = fine_none

ended_fine : {keep : Bool} {text said : List ℕ} → Ended keep text said → Fine text → Fine said
ended_fine (literal.Ended.empty h) f = fine_none
ended_fine {keep} (literal.Ended.text front b feeds n h) f =
    let head = before_feeds (front ++ b ∷ []) feeds h (subst Fine (sym (append_assoc front (b ∷ []) feeds)) f) in
    subst Fine (append_assoc front (b ∷ []) (cond keep (10 ∷ []) [])) (fine_append (front ++ b ∷ []) (cond keep (10 ∷ []) []) head (kept_fine keep))

literal_fine : {floor : ℕ} {keep : Bool} {rows : List Row} {said : List ℕ} → Literal floor keep rows said → Each RowFine rows → Fine said
literal_fine (literal.Literal.empty blanks behind b e h) r = fine_none
literal_fine (literal.Literal.lines blanks first body behind b n l w e h ended) r =
    ended_fine ended
    (lines_fine first.indent (blanks ++ first ∷ body) (each_left RowFine (blanks ++ first ∷ body) behind r)
    (each_append (λ (q : Row). IsBlank q ⊎ (first.indent ≤ q.indent)) blanks (first ∷ body) (each_weak (λ (q : Row). IsBlank q × (width q ≤ first.indent)) (λ (q : Row). IsBlank q ⊎ (first.indent ≤ q.indent)) (λ q k. inl k.0) blanks b) (inr (omega arith), w)))

-- ---- scalars

pub says_fine : {floor : ℕ} {text said : List ℕ} {rows : List Row} → Says floor text rows said → Fine text → Each RowFine rows → Fine said
says_fine (says.Says.plain {text = text} p h b) f r = plain_fine text f
says_fine (says.Says.plain_over {text = text} {said = said} p h o) f r = fine_append (plain_part text) said (plain_fine text f) (over_fine o r)
says_fine (says.Says.single {text = text} s c b) f r = (single_fine s [] (fine_rest 39 text (omega arith) f)).0
says_fine (says.Says.single_over {text = text} {part = part} {said = said} s o) f r =
    fine_append (without_end part) said (fine_end part (open_fine s [] (fine_rest 39 text (omega arith) f))) (single_over_fine o r)
says_fine (says.Says.double {text = text} d c b) f r = (double_fine d [] (fine_rest 34 text (omega arith) f)).0
says_fine (says.Says.literal c l) f r = literal_fine l r
says_fine (says.Says.stripped c l) f r = literal_fine l r

-- ---- keys

pub key_fine : {text key behind : List ℕ} → Key text key behind → Fine text → Fine key × Fine behind
key_fine (keys.Key.single {text = text} {rest = rest} {behind = behind} s e h) f =
    let q = single_fine s [] (fine_rest 39 text (omega arith) f) in
    (q.0, fine_rest 58 behind (omega arith) (subst Fine e (fine_past rest q.1)))
key_fine (keys.Key.double {text = text} {rest = rest} {behind = behind} s e h) f =
    let q = double_fine s [] (fine_rest 34 text (omega arith) f) in
    (q.0, fine_rest 58 behind (omega arith) (subst Fine e (fine_past rest q.1)))
key_fine (keys.Key.plain {key = key} {behind = behind} first front e o c p) f =
    let cut = fine_cut (first ∷ front) 58 behind (omega arith) (subst Fine e f) in
    (by_plain p cut.before, cut.after)
  where
    by_plain : keys.PlainKey (first ∷ front) key → Fine (first ∷ front) → Fine key
    by_plain (inl k) g = subst Fine (sym k.1) g
    by_plain (inr k) g = subst Fine (sym k.1) (fine_end (first ∷ front) g)

-- ---- flows

abbrev StartsLow : List ℕ → Type 0
StartsLow [] = Unit {0}
StartsLow (b ∷ bs) = b < 128

record WordCut (text word : List ℕ) : Type 0 where
  rest : List ℕ
  is : text ≡ word ++ rest
  low : StartsLow rest

ends_low : {key : Bool} {close last : ℕ} {text : List ℕ} → close < 128 → EndsWord key close last text → StartsLow text
ends_low h scanned.EndsWord.at_end = tt
ends_low h (scanned.EndsWord.at_comma behind) = omega arith
ends_low h (scanned.EndsWord.at_close behind) = h
ends_low h (scanned.EndsWord.at_comment behind b) = omega arith
ends_low h (scanned.EndsWord.at_colon behind k e) = omega arith

word_cut : {key : Bool} {close last : ℕ} {text word : List ℕ} → close < 128 → WordIn key close last text word → WordCut text word
word_cut h (scanned.WordIn.ends {text = text} e) = record { rest = text; is = refl; low = ends_low h e }
word_cut h (scanned.WordIn.goes_on b n w) = let more = word_cut h w in record { rest = more.rest; is = ap (λ (xs : List ℕ). b ∷ xs) more.is; low = more.low }

low_fine : (front rest : List ℕ) → StartsLow rest → Fine (front ++ rest) → Fine front × Fine rest
low_fine front [] h f = (subst Fine (append-nil front) f, fine_none)
low_fine front (b ∷ bs) h f = ((fine_cut front b bs h f).before, fine_from front b bs h f)

word_fine : (key : Bool) (close first : ℕ) (text : List ℕ) → close < 128 → Fine (first ∷ text) →
    Fine (flow_word key close (first ∷ text)) × Fine (drop (length (flow_word key close (first ∷ text))) (first ∷ text))
word_fine key close first text h f =
    let found = flow_word_is_first key close first text in
    let c = word_cut h found.1 in
    let word = without_end (first ∷ found.0) in
    let t = trailed (first ∷ found.0) in
    let both = low_fine (first ∷ found.0) c.rest c.low (subst Fine (ap (λ (xs : List ℕ). first ∷ xs) c.is) f) in
    let all : first ∷ text ≡ word ++ (t.blanks ++ c.rest) =
    ap (λ (xs : List ℕ). first ∷ xs) c.is ∙ ap (λ (xs : List ℕ). xs ++ c.rest) t.is ∙ append_assoc word t.blanks c.rest in
    let left : drop (length word) (first ∷ text) ≡ t.blanks ++ c.rest = ap (drop (length word)) all ∙ drop_at word (t.blanks ++ c.rest) (length word) refl in
    subst (λ (w : List ℕ). Fine w × Fine (drop (length w) (first ∷ text))) (sym found.2)
    (fine_end (first ∷ found.0) both.0, subst Fine (sym left) (fine_append t.blanks c.rest (fine_blanks t.blanks t.all) both.1))

flow_scalar_fine : {key : Bool} {close : ℕ} {text said rest : List ℕ} → close < 128 → FlowScalar key close text said rest → Fine text → Fine said × Fine rest
flow_scalar_fine h (flow.FlowScalar.single {text = text} s) f = single_fine s [] (fine_rest 39 text (omega arith) f)
flow_scalar_fine h (flow.FlowScalar.double {text = text} s) f = double_fine s [] (fine_rest 34 text (omega arith) f)
flow_scalar_fine {key} {close} h (flow.FlowScalar.plain {text = []} b e r w) f = let never = b.0 in absurd (cc)
flow_scalar_fine {key} {close} h (flow.FlowScalar.plain {text = first ∷ text} {word = word} {rest = rest} b e r w) f =
    let both = word_fine key close first text h f in
    (subst Fine (sym e) both.0, subst Fine (sym (r ∙ ap (λ (x : List ℕ). drop (length x) (first ∷ text)) e)) both.1)

flow_item_fine : {close : ℕ} {text key said rest : List ℕ} → IsFlowItem close text key said rest → Fine text → Fine key × Fine said × Fine rest
flow_item_fine (flow.IsFlowItem.in_sequence s) f = let q = flow_scalar_fine (omega arith) s f in (fine_none, q.0, q.1)
flow_item_fine (flow.IsFlowItem.in_map {left = left} {behind = behind} k e c s) f =
    let a = flow_scalar_fine (omega arith) k f in
    let q = flow_scalar_fine (omega arith) s (fine_past behind (fine_rest 58 behind (omega arith) (subst Fine e (fine_past left a.1)))) in
    (a.0, q.0, q.1)

abbrev pub ItemFine : List ℕ × List ℕ → Type 0
ItemFine item = Fine item.0 × Fine item.1

pub in_flow_fine : {close : ℕ} {text rest : List ℕ} {items : List (List ℕ × List ℕ)} → close < 128 → InFlow close text items rest → Fine text → Each ItemFine items
in_flow_fine h (flow.InFlow.closes e) f = tt
in_flow_fine h (flow.InFlow.last {text = text} i e) f = let q = flow_item_fine i (fine_past text f) in ((q.0, q.1), tt)
in_flow_fine h (flow.InFlow.more {text = text} {behind = behind} {next = next} i e others) f =
    let q = flow_item_fine i (fine_past text f) in
    ((q.0, q.1), in_flow_fine h others (fine_rest 44 next (omega arith) (subst Fine e (fine_past behind q.2))))
