-- What stands alone, read over the rows before a line.
use Rattle.std.proofs.Common.{◌≡◌, inl, inr, ◌≤◌, ◌<◌, ℕ, zero, suc, Bool, true, false, not, nat_le, nat_lt, ◌&&◌, ◌||◌, is_some, List, [], ◌∷◌, ◌++◌, drop, Option, Some, None, Result, Ok, Err, refl, sym, ap, subst, ◌∙◌, append_assoc, append-nil, arith}
use Rattle.std.proofs.lemmas.Bool.{and_parts, or_parts}
use Rattle.std.specs.List.{AllByRecursion as Each}
use Rattle.rb_yaml.specs.Faults.{LineFlaw, LineFault, ◌>>=◌, either, flaw_or}
use Rattle.rb_yaml.specs.Rows.{Row, begins, is_blank_row, is_comment_row, is_content, tab_flaw}
use Rattle.rb_yaml.specs.Signs.{has_comment, plain_part, without_end}
use Rattle.rb_yaml.specs.Quotes.{single_from, double_from}
use Rattle.rb_yaml.specs.Flow.{FlowRead}
use Rattle.rb_yaml.specs.FlowValues.{flow_read, read_flaw, depth_flaw, flow_tree, flow_of}
use Rattle.rb_yaml.specs.Scalars.{TreeReading, complete, gap, plain_flaw, colon_flaw, plain_more, plain_of, has_closing_quote, close_flaw, single_more, single_over, single_of, double_flaw, double_of}
use Rattle.rb_yaml.specs.Literals.{literal_flaw, first_filled, taken_off, ends_literal, is_misplaced, literal_rows, literal_text, literal_at, literal_of}
use Rattle.rb_yaml.specs.Tree.{YamlTree, scalar}
use Rattle.rb_yaml.specs.Alone.{alone}
use Rattle.rb_yaml_laws.specs.Plain.{IsBlank}
use Rattle.rb_yaml_laws.specs.Open.{KeepsOpen, OpenFrom}
use Rattle.rb_yaml_laws.proofs.RowFacts.{blanks_bare, complete_read}
use Rattle.rb_yaml_laws.proofs.BlankFacts.{begins_is}
use Rattle.rb_yaml_laws.proofs.QuoteFacts.{open_meant}
use Rattle.rb_yaml_laws.proofs.PrefixSteps.{Reaches, Goes, Before, Open, sure, by_if, by_flaw}

-- ---- a value that is complete

complete_by : (t : Bool) (v w : YamlTree) (L : ℕ) (row : Row) (front back : List Row) → is_content row ≡ t → row.number < L → (Reaches L (complete v (front ++ back)) → Goes (complete w front) ⊥) →
    Reaches L (complete v (row ∷ front ++ back)) → Goes (complete w (row ∷ front)) ⊥
complete_by true v w L row front back k l more r = let never : L ≤ row.number = rw k at r in absurd (omega (arith, l, never))
complete_by false v w L row front back k l more r = rw k (more (rw k at r))

pub complete_cut : (v w : YamlTree) (L : ℕ) (front back : List Row) → Each (Before L) front → Reaches L (complete v (front ++ back)) → Goes (complete w front) ⊥
complete_cut v w L [] back h r = tt
complete_cut v w L (row ∷ front) back h r = complete_by (is_content row) v w L row front back refl h.0 (complete_cut v w L front back h.1) r

-- ---- plain texts

plain_cut : (front back : List Row) (L number : ℕ) (text : List ℕ) (k : ℕ) → Each (Before L) front → Reaches L (plain_more number text k (front ++ back)) → Goes (plain_more number text k front) ⊥
plain_cut [] back L number text k h r = tt
plain_cut (row ∷ front) back L number text k h r =
    let more = text ++ gap k ++ plain_part row.text in
    by_if ⊥ L (is_blank_row row) (plain_more number text (suc k) (front ++ back)) _ (plain_more number text (suc k) front) _
    (λ e. plain_cut front back L number text (suc k) h.1)
    (λ e. by_if ⊥ L (is_comment_row row) (complete (scalar number text) (front ++ back)) _ (complete (scalar number text) front) _
    (λ f. complete_cut (scalar number text) (scalar number text) L front back h.1)
    (λ f. by_flaw ⊥ L (either (tab_flaw row) (colon_flaw row.text)) row.number _ _ h.0
    (λ g. by_if ⊥ L (has_comment row.text) (complete (scalar number more) (front ++ back)) (plain_more number more zero (front ++ back)) (complete (scalar number more) front) (plain_more number more zero front)
    (λ c. complete_cut (scalar number more) (scalar number more) L front back h.1)
    (λ c. plain_cut front back L number more zero h.1)))) r

plain_of_cut : (front back : List Row) (L : ℕ) (head : Row) → Each (Before L) front → Reaches L (plain_of head (front ++ back)) → Goes (plain_of head front) ⊥
plain_of_cut front back L head h r =
    let v = scalar head.number (plain_part head.text) in
    by_if ⊥ L (has_comment head.text) (complete v (front ++ back)) (plain_more head.number (plain_part head.text) zero (front ++ back)) (complete v front) (plain_more head.number (plain_part head.text) zero front)
    (λ e. complete_cut v v L front back h) (λ e. plain_cut front back L head.number (plain_part head.text) zero h) r

-- ---- quoted texts

single_cut : (front back : List Row) (L number : ℕ) (text : List ℕ) (k : ℕ) → Each (Before L) front → Reaches L (single_more number text k (front ++ back)) → Goes (single_more number text k front) ⊥
single_cut [] back L number text k h r = tt
single_cut (row ∷ front) back L number text k h r =
    let q = single_from false row.text in
    let whole = scalar number (text ++ gap k ++ q.text) in
    let more = text ++ gap k ++ without_end q.text in
    by_if ⊥ L (is_blank_row row) (single_more number text (suc k) (front ++ back)) _ (single_more number text (suc k) front) _
    (λ e. single_cut front back L number text (suc k) h.1)
    (λ e. by_flaw ⊥ L (either (tab_flaw row) (close_flaw q.rest)) row.number _ _ h.0
    (λ g. by_if ⊥ L (is_some q.rest) (complete whole (front ++ back)) (single_more number more zero (front ++ back)) (complete whole front) (single_more number more zero front)
    (λ c. complete_cut whole whole L front back h.1)
    (λ c. single_cut front back L number more zero h.1))) r

not_some : (o : Option (List ℕ)) → is_some o ≡ false → o ≡ None
not_some None h = refl
not_some (Some x) h = absurd (cc)

and_not : (a b : Bool) → a ≡ true → (a && b) ≡ false → b ≡ false
and_not true b h k = k
and_not false b h k = absurd (cc)

or_right : (a b : Bool) → a ≡ false → (a || b) ≡ true → b ≡ true
or_right false b h k = k
or_right true b h k = absurd (cc)

-- rows that do not close a quote, which later ones do
keeps_by : (t : Bool) (floor : ℕ) (row : Row) (front back : List Row) → is_blank_row row ≡ t → (has_closing_quote floor (front ++ back) ≡ true → has_closing_quote floor front ≡ false → Each KeepsOpen front) →
    has_closing_quote floor (row ∷ front ++ back) ≡ true → has_closing_quote floor (row ∷ front) ≡ false → Each KeepsOpen (row ∷ front)
keeps_by true floor row front back e more h k = (inl e, more (rw e at h) (rw e at k))
keeps_by false floor row front back e more h k =
    let o = (single_from false row.text).rest in
    let h' : (nat_le floor row.indent && (is_some o || has_closing_quote floor (front ++ back))) ≡ true = rw e at h in
    let k' : (nat_le floor row.indent && (is_some o || has_closing_quote floor front)) ≡ false = rw e at k in
    let at = (and_parts (nat_le floor row.indent) (is_some o || has_closing_quote floor (front ++ back)) h').0 in
    let none = and_not (nat_le floor row.indent) (is_some o || has_closing_quote floor front) at k' in
    let no = (or_parts (is_some o) (has_closing_quote floor front) none).0 in
    let rest = or_right (is_some o) (has_closing_quote floor (front ++ back)) no ((and_parts (nat_le floor row.indent) (is_some o || has_closing_quote floor (front ++ back)) h').1) in
    (inr (_, open_meant row.text (not_some o no)), more rest ((or_parts (is_some o) (has_closing_quote floor front) none).1))

keeps_open : (floor : ℕ) (front back : List Row) → has_closing_quote floor (front ++ back) ≡ true → has_closing_quote floor front ≡ false → Each KeepsOpen front
keeps_open floor [] back h k = tt
keeps_open floor (row ∷ front) back h k = keeps_by (is_blank_row row) floor row front back refl (keeps_open floor front back) h k

over_by : (s t : Bool) (L floor : ℕ) (head : Row) (front back : List Row) → begins 39 head.text ≡ true → (single_from false (drop 1 head.text)).rest ≡ None →
    has_closing_quote floor (front ++ back) ≡ s → has_closing_quote floor front ≡ t → head.number < L → Each (Before L) front →
    Reaches L (single_over floor head (single_from false (drop 1 head.text)).text (front ++ back)) → Goes (single_over floor head (single_from false (drop 1 head.text)).text front) (Open head.text front back)
over_by false t L floor head front back b o hs ht l h r = let never : L ≤ head.number = rw hs at r in absurd (omega (arith, l, never))
over_by true true L floor head front back b o hs ht l h r =
    let text = without_end (single_from false (drop 1 head.text)).text in
    rw ht (sure (Open head.text front back) (single_more head.number text zero front) (single_cut front back L head.number text zero h (rw hs at r)))
over_by true false L floor head front back b o hs ht l h r =
    let quote : OpenFrom head.text front = record {
      front = [];
      inside = drop 1 head.text;
      said = _;
      is = begins_is 39 head.text b;
      unclosed = open_meant (drop 1 head.text) o;
      behind = keeps_open floor front back hs ht;
    } in
    let some : back ≡ [] → ⊥ = λ e. (let c : true ≡ false = sym hs ∙ ap (λ xs. has_closing_quote floor (front ++ xs)) e ∙ ap (has_closing_quote floor) (append-nil front) ∙ ht in cc) in
    rw ht (inl quote, some)

single_of_cut : (front back : List Row) (L floor : ℕ) (head : Row) → begins 39 head.text ≡ true → head.number < L → Each (Before L) front →
    Reaches L (single_of floor head (front ++ back)) → Goes (single_of floor head front) (Open head.text front back)
single_of_cut front back L floor head b l h r =
    let q = single_from false (drop 1 head.text) in
    let v = scalar head.number q.text in
    let O = Open head.text front back in
    by_flaw O L (close_flaw q.rest) head.number _ _ l
    (λ g. by_if O L (is_some q.rest) (complete v (front ++ back)) (single_over floor head q.text (front ++ back)) (complete v front) (single_over floor head q.text front)
    (λ c s. sure O (complete v front) (complete_cut v v L front back h s))
    (λ c. over_by (has_closing_quote floor (front ++ back)) (has_closing_quote floor front) L floor head front back b (not_some q.rest c) refl refl l h)) r

double_of_cut : (front back : List Row) (L : ℕ) (head : Row) → head.number < L → Each (Before L) front → Reaches L (double_of head (front ++ back)) → Goes (double_of head front) ⊥
double_of_cut front back L head l h r =
    let v = scalar head.number (double_from false (drop 1 head.text)).text in
    by_flaw ⊥ L (double_flaw head.text) head.number _ _ l (λ g. complete_cut v v L front back h) r

-- ---- literals

abbrev LiteralRead : Type 0
LiteralRead = Result (List ℕ × List Row) LineFault

-- the value of a literal's rows, by what their texts become
abbrev ended : (List ℕ → YamlTree) → LiteralRead → TreeReading
ended f read = read >>= λ more. complete (f more.0) more.1

ended_on : (f : List ℕ → YamlTree) (line : List ℕ) (read : LiteralRead) → ended f (read >>= λ more. Ok (line ++ more.0, more.1)) ≡ ended (λ text. f (line ++ text)) read
ended_on f line (Ok more) = refl
ended_on f line (Err e) = refl

rows_by : (s t : Bool) (f g : List ℕ → YamlTree) (L floor n : ℕ) (leading : Bool) (row : Row) (front back : List Row) → ends_literal floor n row ≡ s → is_misplaced n leading row ≡ t →
    Each (Before L) (row ∷ front) →
    ((f g : List ℕ → YamlTree) → Reaches L (ended f (literal_rows floor n (leading && is_blank_row row) (front ++ back))) → Goes (ended g (literal_rows floor n (leading && is_blank_row row) front)) ⊥) →
    Reaches L (ended f (literal_rows floor n leading (row ∷ front ++ back))) → Goes (ended g (literal_rows floor n leading (row ∷ front))) ⊥
rows_by true t f g L floor n leading row front back hs ht h more r = rw hs (complete_cut (f []) (g []) L (row ∷ front) back h (rw hs at r))
rows_by false true f g L floor n leading row front back hs ht h more r = let never : L ≤ row.number = rw (hs, ht) at r in absurd (omega (arith, h.0, never))
rows_by false false f g L floor n leading row front back hs ht h more r =
    let line = taken_off n row ++ 10 ∷ [] in
    let read = literal_rows floor n (leading && is_blank_row row) in
    let one : (rows : List Row) (k : List ℕ → YamlTree) → ended k (literal_rows floor n leading (row ∷ rows)) ≡ ended (λ text. k (line ++ text)) (read rows) =
    λ rows k. rw (hs, ht) (ap (λ (r : LiteralRead). ended k r) (joins (read rows)) ∙ ended_on k line (read rows)) in
    subst (λ (r : TreeReading). Goes r ⊥) (sym (one front g)) (more (λ text. f (line ++ text)) (λ text. g (line ++ text)) (subst (λ (r : TreeReading). Reaches L r) (one (front ++ back) f) r))
  where
    joins : (read : Result (List ℕ × List Row) LineFault) →
        (read >>= λ more. let p : List ℕ × List Row = (taken_off n row ++ 10 ∷ more.0, more.1) in Ok p) ≡ (read >>= λ more. Ok ((taken_off n row ++ 10 ∷ []) ++ more.0, more.1))
    joins (Ok more) = ap (λ xs. let p : List ℕ × List Row = (xs, more.1) in Ok p) (sym (append_assoc (taken_off n row) (10 ∷ []) more.0))
    joins (Err e) = refl

rows_cut : (front back : List Row) (f g : List ℕ → YamlTree) (L floor n : ℕ) (leading : Bool) → Each (Before L) front →
    Reaches L (ended f (literal_rows floor n leading (front ++ back))) → Goes (ended g (literal_rows floor n leading front)) ⊥
rows_cut [] back f g L floor n leading h r = tt
rows_cut (row ∷ front) back f g L floor n leading h r =
    rows_by (ends_literal floor n row) (is_misplaced n leading row) f g L floor n leading row front back refl refl h
    (λ f g. rows_cut front back f g L floor n (leading && is_blank_row row) h.1) r

filled_by : (t : Bool) (row : Row) (rows : List Row) → is_blank_row row ≡ t → (first_filled rows ≡ None → Each IsBlank rows) → first_filled (row ∷ rows) ≡ None → Each IsBlank (row ∷ rows)
filled_by true row rows h more e = (h, more (rw h at e))
filled_by false row rows h more e = let never = rw h at e in absurd (cc)

none_filled : (rows : List Row) → first_filled rows ≡ None → Each IsBlank rows
none_filled [] e = tt
none_filled (row ∷ rows) e = filled_by (is_blank_row row) row rows refl (none_filled rows) e

same_by : (t : Bool) (row : Row) (front back : List Row) (first : Row) → is_blank_row row ≡ t → (first_filled front ≡ Some first → first_filled (front ++ back) ≡ Some first) →
    first_filled (row ∷ front) ≡ Some first → first_filled (row ∷ front ++ back) ≡ Some first
same_by true row front back first h more e = rw h (more (rw h at e))
same_by false row front back first h more e = rw h (rw h at e)

same_filled : (front back : List Row) (first : Row) → first_filled front ≡ Some first → first_filled (front ++ back) ≡ Some first
same_filled [] back first e = absurd (cc)
same_filled (row ∷ front) back first e = same_by (is_blank_row row) row front back first refl (same_filled front back first) e

literal_by : (o : Option Row) (front back : List Row) (L number floor : ℕ) (keep : Bool) → first_filled front ≡ o → Each (Before L) front →
    Reaches L (literal_at number floor keep (first_filled (front ++ back)) (front ++ back)) → Goes (literal_at number floor keep (first_filled front) front) ⊥
literal_by None front back L number floor keep e h r = rw (e, complete_read (scalar number []) front (blanks_bare front (none_filled front e))) tt
literal_by (Some first) front back L number floor keep e h r =
    let made = λ (text : List ℕ). scalar number (literal_text keep text) in
    rw e
    (by_if ⊥ L (nat_lt first.indent floor) (complete (scalar number []) (front ++ back)) (ended made (literal_rows floor first.indent true (front ++ back)))
    (complete (scalar number []) front) (ended made (literal_rows floor first.indent true front))
    (λ c. complete_cut (scalar number []) (scalar number []) L front back h)
    (λ c. rows_cut front back made made L floor first.indent true h)
    (subst (λ (o : Option Row). Reaches L (literal_at number floor keep o (front ++ back))) (same_filled front back first e) r))

literal_cut : (front back : List Row) (L floor : ℕ) (head : Row) → Each (Before L) front → Reaches L (literal_of floor head (front ++ back)) → Goes (literal_of floor head front) ⊥
literal_cut front back L floor head h r = literal_by (first_filled front) front back L head.number floor (not (begins 45 (drop 1 head.text))) refl h r

-- ---- flows

flow_by : (read : Result FlowRead LineFlaw) (front back : List Row) (L left : ℕ) (head : Row) → flow_read head.text ≡ read → head.number < L → Each (Before L) front →
    Reaches L (flow_of left head (front ++ back)) → Goes (flow_of left head front) ⊥
flow_by (Err flaw) front back L left head e l h r = let never : L ≤ head.number = rw e at r in absurd (omega (arith, l, never))
flow_by (Ok read) front back L left head e l h r =
    let v = flow_tree head.number (begins 123 head.text) read.items in
    rw e (by_flaw ⊥ L (either (read_flaw (begins 123 head.text) read) (depth_flaw left)) head.number (complete v (front ++ back)) (complete v front) l (λ g. complete_cut v v L front back h) (rw e at r))

-- ---- what stands alone

pub alone_cut : (front back : List Row) (L left floor : ℕ) (head : Row) → head.number < L → Each (Before L) front →
    Reaches L (alone left floor head (front ++ back)) → Goes (alone left floor head front) (Open head.text front back)
alone_cut front back L left floor head l h r =
    let O = Open head.text front back in
    let all = front ++ back in
    by_if O L (begins 124 head.text) (flaw_or (literal_flaw head.text) head.number (literal_of floor head all)) _ (flaw_or (literal_flaw head.text) head.number (literal_of floor head front)) _
    (λ a. by_flaw O L (literal_flaw head.text) head.number (literal_of floor head all) (literal_of floor head front) l (λ g s. sure O (literal_of floor head front) (literal_cut front back L floor head h s)))
    (λ a. by_if O L (begins 39 head.text) (single_of floor head all) _ (single_of floor head front) _
    (λ b. single_of_cut front back L floor head b l h)
    (λ b. by_if O L (begins 34 head.text) (double_of head all) _ (double_of head front) _
    (λ c s. sure O (double_of head front) (double_of_cut front back L head l h s))
    (λ c. by_if O L (begins 91 head.text || begins 123 head.text) (flow_of left head all) (flaw_or (plain_flaw head.text) head.number (plain_of head all))
    (flow_of left head front) (flaw_or (plain_flaw head.text) head.number (plain_of head front))
    (λ d s. sure O (flow_of left head front) (flow_by (flow_read head.text) front back L left head refl l h s))
    (λ d. by_flaw O L (plain_flaw head.text) head.number (plain_of head all) (plain_of head front) l (λ g s. sure O (plain_of head front) (plain_of_cut front back L head h s)))))) r
