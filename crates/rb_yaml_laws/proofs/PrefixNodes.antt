-- Nodes, read over the rows before a line.
use Rattle.std.proofs.Common.{◌≡◌, ◌⊎◌, ◌≤◌, ◌<◌, ◌+◌, ℕ, zero, suc, Bool, true, false, cond, ◌&&◌, is_none, List, [], ◌∷◌, ◌++◌, drop, length, unwrap_or, Option, Some, None, Result, Ok, Err, refl, sym, ap, subst, ◌∙◌, append_assoc, append-nil, arith}
use Rattle.std.proofs.lemmas.Bool.{and_parts}
use Rattle.std.specs.List.{AllByRecursion as Each}
use Rattle.rb_causes.specs.Texts.{is_blank}
use Rattle.rb_yaml.specs.Faults.{LineFault, ◌>>=◌, either, foremost, fault_at, fault_with, depth_fault, sooner_fault, beside}
use Rattle.rb_yaml.specs.Rows.{Row, past_blanks, is_content, tab_flaw, first_content}
use Rattle.rb_yaml.specs.Parts.{until, onward, parts}
use Rattle.rb_yaml.specs.Signs.{begins_item, is_nothing}
use Rattle.rb_yaml.specs.Line.{behind_item, tab_behind, place_flaw}
use Rattle.rb_yaml.specs.Edges.{begins_part, is_item_at, begins_entry}
use Rattle.rb_yaml.specs.Keys.{KeyPart, key_part, begins_with_key, begins_collection}
use Rattle.rb_yaml.specs.Scalars.{TreeReading}
use Rattle.rb_yaml.specs.Tree.{seq, mapping, trees_of, entries_of}
use Rattle.rb_yaml.specs.Alone.{Reader, alone, stray}
use Rattle.rb_yaml.specs.Entries.{new_key_flaw, key_text, then_ill}
use Rattle.rb_yaml.specs.Deep.{deep_value, deep_entry, deep_turn, deep_turns, too_deep}
use Rattle.rb_yaml.specs.Nodes.{block, compact_flaw, item_value, item_of, PartReader, all_items, seq_of, inner_value, value_after_key, entry_of, Entry, EntryReader, all_entries, map_of, node}
use Rattle.rb_yaml.proofs.NodeFacts.{more_parts, parts_split}
use Rattle.rb_yaml_laws.specs.Open.{OpenFrom, HasOpenQuote}
use Rattle.rb_yaml_laws.specs.Quotes.{Single, Double}
use Rattle.rb_yaml_laws.specs.Quotes as quotes
use Rattle.rb_yaml_laws.specs.Keys as keys
use Rattle.rb_yaml_laws.specs.Keys.{Key}
use Rattle.rb_yaml_laws.proofs.RowFacts.{each_append, each_left, each_right, none_bare, bare_none, first_at, at_first}
use Rattle.rb_yaml_laws.proofs.CutFacts.{onward_at, until_at, passed, none_passes}
use Rattle.rb_yaml_laws.proofs.FlawFacts.{either_none, new_key_none}
use Rattle.rb_yaml_laws.proofs.KeyFacts.{key_meant}
use Rattle.rb_yaml_laws.proofs.PrefixSteps.{Reaches, Goes, Before, From, Open, OpenIn, goes_weak, by_if, by_beside, by_last, by_same, first_le, open_further, open_in, open_behind, open_back}
use Rattle.rb_yaml_laws.proofs.PrefixTexts.{alone_cut}

-- a reader of nodes that tells nothing of rows before a line, but quotes that stay open
abbrev pub Cuts : ℕ → Reader → Type 0
Cuts L below = (floor : ℕ) (head : Row) (front back : List Row) → head.number < L → Each (Before L) front → Each (From L) back →
    Reaches L (below floor head (front ++ back)) → Goes (below floor head front) (Open head.text front back)

-- ---- what a text ends with

past_by : (t : Bool) (b : ℕ) (bs : List ℕ) → is_blank b ≡ t → (ws : List ℕ) × (bs ≡ ws ++ past_blanks bs) → (ws : List ℕ) × (b ∷ bs ≡ ws ++ past_blanks (b ∷ bs))
past_by true b bs h more = (b ∷ more.0, rw h (ap (λ xs. b ∷ xs) more.1))
past_by false b bs h more = ([], rw h refl)

past_suffix : (text : List ℕ) → (ws : List ℕ) × (text ≡ ws ++ past_blanks text)
past_suffix [] = ([], refl)
past_suffix (b ∷ bs) = past_by (is_blank b) b bs refl (past_suffix bs)

drop_suffix : (text : List ℕ) → (ws : List ℕ) × (text ≡ ws ++ drop 1 text)
drop_suffix [] = ([], refl)
drop_suffix (b ∷ bs) = (b ∷ [], refl)

item_suffix : (row : Row) → (ws : List ℕ) × (row.text ≡ ws ++ (behind_item row).text)
item_suffix row =
    let one = drop_suffix row.text in
    let more = past_suffix (drop 1 row.text) in
    (one.0 ++ more.0, one.1 ∙ ap (λ xs. one.0 ++ xs) more.1 ∙ sym (append_assoc one.0 more.0 (past_blanks (drop 1 row.text))))

abbrev Suffix : List ℕ → List ℕ → Type 0
Suffix tail text = (front : List ℕ) × (text ≡ front ++ tail)

suffix_on : (b : ℕ) (tail text : List ℕ) → Suffix tail text → Suffix tail (b ∷ text)
suffix_on b tail text s = (b ∷ s.0, ap (λ xs. b ∷ xs) s.1)

suffix_of : (a b c : List ℕ) → Suffix b c → Suffix a b → Suffix a c
suffix_of a b c s t = (s.0 ++ t.0, s.1 ∙ ap (λ xs. s.0 ++ xs) t.1 ∙ sym (append_assoc s.0 t.0 a))

single_suffix : {text said rest : List ℕ} → Single text said rest → Suffix rest text
single_suffix (quotes.Single.closing h) = (39 ∷ [], refl)
single_suffix (quotes.Single.quote {text = text} {rest = rest} s) = suffix_on 39 rest (39 ∷ text) (suffix_on 39 rest text (single_suffix s))
single_suffix (quotes.Single.other {b = b} {text = text} {rest = rest} n s) = suffix_on b rest text (single_suffix s)

double_suffix : {text said rest : List ℕ} → Double text said rest → Suffix rest text
double_suffix quotes.Double.closing = (34 ∷ [], refl)
double_suffix (quotes.Double.escape {b = b} {text = text} {rest = rest} e s) = suffix_on 92 rest (b ∷ text) (suffix_on b rest text (double_suffix s))
double_suffix (quotes.Double.other {b = b} {text = text} {rest = rest} n m s) = suffix_on b rest text (double_suffix s)

colon_suffix : (rest behind : List ℕ) → past_blanks rest ≡ 58 ∷ behind → Suffix behind rest
colon_suffix rest behind e = let p = past_suffix rest in (p.0 ++ 58 ∷ [], p.1 ∙ ap (λ xs. p.0 ++ xs) e ∙ sym (append_assoc p.0 (58 ∷ []) behind))

key_suffix : {text key behind : List ℕ} → Key text key behind → Suffix behind text
key_suffix (keys.Key.single {text = text} {rest = rest} {behind = behind} s e h) = suffix_on 39 behind text (suffix_of behind rest text (single_suffix s) (colon_suffix rest behind e))
key_suffix (keys.Key.double {text = text} {rest = rest} {behind = behind} s e h) = suffix_on 34 behind text (suffix_of behind rest text (double_suffix s) (colon_suffix rest behind e))
key_suffix (keys.Key.plain {behind = behind} first front e o c k) = (first ∷ front ++ 58 ∷ [], e ∙ ap (λ xs. first ∷ xs) (sym (append_assoc front (58 ∷ []) behind)))

-- ---- blocks

block_by : (o : Option (Row × List Row)) (L : ℕ) (below : Reader) (floor number : ℕ) (front back : List Row) → Cuts L below → first_content front ≡ o → Each (Before L) front → Each (From L) back →
    Reaches L (block below floor number (front ++ back)) → Goes (block below floor number front) (OpenIn front back)
block_by None L below floor number front back cuts e h k r = rw e tt
block_by (Some first) L below floor number front back cuts e h k r =
    let at = at_first front first e in
    let whole : front ++ back ≡ at.before ++ first.0 ∷ (first.1 ++ back) = ap (λ xs. xs ++ back) at.all ∙ append_assoc at.before (first.0 ∷ first.1) back in
    let found : first_content (front ++ back) ≡ Some (first.0, first.1 ++ back) = ap first_content whole ∙ first_at at.before first.0 (first.1 ++ back) at.bare at.filled in
    let rows = subst (Each (Before L)) at.all h in
    let mine = each_right (Before L) at.before (first.0 ∷ first.1) rows in
    rw e (by_beside (OpenIn front back) L (tab_flaw first.0) first.0.number (below floor first.0 (first.1 ++ back)) (below floor first.0 first.1) mine.0
    (λ g s. goes_weak (Open first.0.text first.1 back) (OpenIn front back) (below floor first.0 first.1) (open_in at.before first.0 first.1 front back at.all) (cuts floor first.0 first.1 back mine.0 mine.1 k s))
    (rw found at r))

pub block_cut : (L : ℕ) (below : Reader) (floor number : ℕ) (front back : List Row) → Cuts L below → Each (Before L) front → Each (From L) back →
    Reaches L (block below floor number (front ++ back)) → Goes (block below floor number front) (OpenIn front back)
block_cut L below floor number front back cuts h k r = block_by (first_content front) L below floor number front back cuts refl h k r

-- ---- items

item_value_cut : (L : ℕ) (below : Reader) (head : Row) (front back : List Row) → Cuts L below → head.number < L → Each (Before L) front → Each (From L) back →
    Reaches L (item_value below head (front ++ back)) → Goes (item_value below head front) (Open head.text front back)
item_value_cut L below head front back cuts l h k r =
    let O = Open head.text front back in
    let inner = below (suc head.indent) (behind_item head) in
    let behind = item_suffix head in
    by_if O L (is_nothing (behind_item head).text) (block below (suc head.indent) head.number (front ++ back)) (beside (fault_with head.number (compact_flaw head)) (inner (front ++ back)))
    (block below (suc head.indent) head.number front) (beside (fault_with head.number (compact_flaw head)) (inner front))
    (λ e s. goes_weak (OpenIn front back) O (block below (suc head.indent) head.number front) (open_behind head.text front back) (block_cut L below (suc head.indent) head.number front back cuts h k s))
    (λ e. by_beside O L (compact_flaw head) head.number (inner (front ++ back)) (inner front) l
    (λ g s. goes_weak (Open (behind_item head).text front back) O (inner front) (open_further behind.0 (behind_item head).text head.text front back behind.1) (cuts (suc head.indent) (behind_item head) front back l h k s))) r

item_cut : (L : ℕ) (below : Reader) (indent : ℕ) (head : Row) (front back : List Row) → Cuts L below → head.number < L → Each (Before L) front → Each (From L) back →
    Reaches L (item_of below indent head (front ++ back)) → Goes (item_of below indent head front) (Open head.text front back)
item_cut L below indent head front back cuts l h k r =
    let O = Open head.text front back in
    let ill : TreeReading = Err (fault_at head.number (foremost (stray head.text) (place_flaw indent head))) in
    let place = fault_with head.number (place_flaw indent head) in
    by_if O L (begins_item head.text) (beside place (item_value below head (front ++ back))) ill (beside place (item_value below head front)) ill
    (λ e. by_beside O L (place_flaw indent head) head.number (item_value below head (front ++ back)) (item_value below head front) l (λ g. item_value_cut L below head front back cuts l h k))
    (λ e s. absurd (omega (arith, l, s))) r

-- ---- parts, one after the other

abbrev ReadsOn : {A : Type 0} → ℕ → (Row → List Row → Result A LineFault) → Type 0
ReadsOn L read = (head : Row) (front back : List Row) → head.number < L → Each (Before L) front → Each (From L) back →
    Reaches L (read head (front ++ back)) → Goes (read head front) (Open head.text front back)

-- where nothing follows, there is a value
whole_cut : {A : Type 0} (L : ℕ) (read : Row → List Row → Result A LineFault) (head : Row) (rows : List Row) → ReadsOn L read → head.number < L → Each (Before L) rows → Reaches L (read head rows) → Goes (read head rows) ⊥
whole_cut L read head rows on l h r =
    goes_weak (Open head.text rows []) ⊥ (read head rows) (λ o. o.1 refl)
    (on head rows [] l h tt (subst (λ xs. Reaches L (read head xs)) (sym (append-nil rows)) r))

until_by : (t : Bool) (L : ℕ) (test : Row → Bool) (row : Row) (rows : List Row) → test row ≡ t → L ≤ row.number → Each (From L) (until test rows) → Each (From L) (until test (row ∷ rows))
until_by true L test row rows e l more = rw e tt
until_by false L test row rows e l more = rw e (l, more)

pub until_from : (L : ℕ) (test : Row → Bool) (rows : List Row) → Each (From L) rows → Each (From L) (until test rows)
until_from L test [] k = tt
until_from L test (row ∷ rows) k = until_by (test row) L test row rows refl k.0 (until_from L test rows k.1)

pub no_until : (test : Row → Bool) (rows : List Row) → rows ≡ [] → until test rows ≡ []
no_until test rows e = ap (until test) e

-- the last part of the rows before the line
last_open : (test : Row → Bool) (text : List ℕ) (so_far back : List Row) → Open text so_far (until test back) → Open text (so_far ++ []) back
last_open test text so_far back o =
    let p = open_back (until test back) back (no_until test back) o in (subst (λ xs. OpenFrom text xs ⊎ HasOpenQuote xs) (sym (append-nil so_far)) p.0, p.1)

next_open : (text : List ℕ) (so_far : List Row) (row : Row) (front back : List Row) → Open row.text front back → Open text (so_far ++ row ∷ front) back
next_open text so_far row front back o = open_behind text (so_far ++ row ∷ front) back (open_in so_far row front (so_far ++ row ∷ front) back refl o)

items_by : (t : Bool) (L : ℕ) (read : PartReader) (test : Row → Bool) (head row : Row) (so_far front back : List Row) → ReadsOn L read → test row ≡ t → head.number < L → Each (Before L) so_far →
    (Reaches L (all_items read (parts test row [] (front ++ back))) → Goes (all_items read (parts test row [] front)) (Open row.text front back)) →
    (Reaches L (all_items read (parts test head (so_far ++ row ∷ []) (front ++ back))) → Goes (all_items read (parts test head (so_far ++ row ∷ []) front)) (Open head.text ((so_far ++ row ∷ []) ++ front) back)) →
    Reaches L (all_items read (parts test head so_far (row ∷ front ++ back))) → Goes (all_items read (parts test head so_far (row ∷ front))) (Open head.text (so_far ++ row ∷ front) back)
items_by true L read test head row so_far front back on e l h next grow r =
    let O = Open head.text (so_far ++ row ∷ front) back in
    let rest = λ (rows : List Row). all_items read (parts test row [] rows) in
    rw e
    (by_same O L (read head so_far) (λ v. rest (front ++ back) >>= λ vs. Ok (v ∷ vs)) (λ v. rest front >>= λ vs. Ok (v ∷ vs)) (whole_cut L read head so_far on l h)
    (λ v. by_last O L (rest (front ++ back)) (rest front) (λ vs. Ok (v ∷ vs)) (λ vs. Ok (v ∷ vs)) (λ s. goes_weak (Open row.text front back) O (rest front) (next_open head.text so_far row front back) (next s)) (λ vs. tt))
    (rw e at r))
items_by false L read test head row so_far front back on e l h next grow r =
    rw e (goes_weak (Open head.text ((so_far ++ row ∷ []) ++ front) back) (Open head.text (so_far ++ row ∷ front) back) (all_items read (parts test head (so_far ++ row ∷ []) front))
    (subst (λ xs. Open head.text xs back) (append_assoc so_far (row ∷ []) front)) (grow (rw e at r)))

items_cut : (front : List Row) (L : ℕ) (read : PartReader) (test : Row → Bool) (head : Row) (so_far back : List Row) → ReadsOn L read → head.number < L → Each (Before L) so_far → Each (Before L) front → Each (From L) back →
    Reaches L (all_items read (parts test head so_far (front ++ back))) → Goes (all_items read (parts test head so_far front)) (Open head.text (so_far ++ front) back)
items_cut [] L read test head so_far back on l h f k r =
    let O = Open head.text (so_far ++ []) back in
    let mine = until test back in
    let rest = all_items read (more_parts test (onward test back)) in
    by_last O L (read head (so_far ++ mine)) (read head so_far) (λ v. rest >>= λ vs. Ok (v ∷ vs)) (λ v. Ok (v ∷ []))
    (λ s. goes_weak (Open head.text so_far mine) O (read head so_far) (last_open test head.text so_far back) (on head so_far mine l h (until_from L test back k) s))
    (λ v. tt) (subst (λ ps. Reaches L (all_items read ps)) (parts_split test head so_far back) r)
items_cut (row ∷ front) L read test head so_far back on l h f k r =
    items_by (test row) L read test head row so_far front back on refl l h (items_cut front L read test row [] back on f.0 tt f.1 k)
    (items_cut front L read test head (so_far ++ row ∷ []) back on l (each_append (Before L) so_far (row ∷ []) h (f.0, tt)) f.1 k) r

seq_cut : (L : ℕ) (below : Reader) (head : Row) (front back : List Row) → Cuts L below → head.number < L → Each (Before L) front → Each (From L) back →
    Reaches L (seq_of below head (front ++ back)) → Goes (seq_of below head front) (Open head.text front back)
seq_cut L below head front back cuts l h k r =
    let read = item_of below head.indent in
    let cut = λ (rows : List Row). all_items read (parts (begins_part head.indent) head [] rows) in
    by_last (Open head.text front back) L (cut (front ++ back)) (cut front) (λ vs. Ok (seq head.number (trees_of vs))) (λ vs. Ok (seq head.number (trees_of vs)))
    (items_cut front L read (begins_part head.indent) head [] back (λ f fs bs. λ a b c. item_cut L below head.indent f fs bs cuts a b c) l tt h k) (λ vs. tt) r

-- ---- entries

inner_cut : (L left : ℕ) (below : Reader) (indent number : ℕ) (text : List ℕ) (front back : List Row) → Cuts L below → number < L → Each (Before L) front → Each (From L) back →
    Reaches L (inner_value left below indent number text (front ++ back)) → Goes (inner_value left below indent number text front) (Open text front back)
inner_cut L left below indent number text front back cuts l h k r =
    let O = Open text front back in
    let head : Row = record { number = number; indent = zero; text = text } in
    by_if O L (is_nothing text) (block below (suc indent) number (front ++ back)) (alone left (suc indent) head (front ++ back)) (block below (suc indent) number front) (alone left (suc indent) head front)
    (λ e s. goes_weak (OpenIn front back) O (block below (suc indent) number front) (open_behind text front back) (block_cut L below (suc indent) number front back cuts h k s))
    (λ e. alone_cut front back L left (suc indent) head l h) r

ill_reaches : (L n : ℕ) (read : TreeReading) → Reaches L (then_ill read n) → Reaches L read
ill_reaches L n (Ok v) r = tt
ill_reaches L n (Err f) r = r

ill_never : (L n : ℕ) (read : TreeReading) → n < L → (Reaches L read → Goes read ⊥) → Reaches L (then_ill read n) → ⊥
ill_never L n (Ok v) l h r = omega (arith, l, r)
ill_never L n (Err f) l h r = h r

onward_far : (test : Row → Bool) (front back : List Row) → Each (λ row. test row ≡ false) front → (onward test (front ++ back) ≡ onward test back) × (until test (front ++ back) ≡ front ++ until test back)
onward_far test [] back h = (refl, refl)
onward_far test (row ∷ front) back h = let m = onward_far test front back h.1 in (rw h.0 m.0, rw h.0 (ap (λ xs. row ∷ xs) m.1))

bare_left : (front back : List Row) → is_none (first_content (front ++ back)) ≡ true → first_content front ≡ None
bare_left front back e = bare_none front (each_left (λ row. is_content row ≡ false) front back (none_bare (front ++ back) (none (first_content (front ++ back)) e)))
  where
    none : (o : Option (Row × List Row)) → is_none o ≡ true → o ≡ None
    none None e = refl
    none (Some x) e = absurd (cc)

-- an item at the key's indent stands behind the line
far_by : (t : Bool) (L left : ℕ) (below : Reader) (indent number : ℕ) (text : List ℕ) (front back : List Row) (item : Row) (items : List Row) → Cuts L below → number < L → Each (Before L) front → Each (From L) back →
    (is_nothing text && is_none (first_content (front ++ until (is_item_at indent) back))) ≡ t →
    Reaches L (cond t (below indent item items) (then_ill (inner_value left below indent number text (front ++ until (is_item_at indent) back)) item.number)) →
    Goes (inner_value left below indent number text front) (Open text front back)
far_by true L left below indent number text front back item items cuts l h k e r =
    let mine = until (is_item_at indent) back in
    rw ((and_parts (is_nothing text) (is_none (first_content (front ++ mine))) e).0, bare_left front mine ((and_parts (is_nothing text) (is_none (first_content (front ++ mine))) e).1)) tt
far_by false L left below indent number text front back item items cuts l h k e r =
    let mine = until (is_item_at indent) back in
    goes_weak (Open text front mine) (Open text front back) (inner_value left below indent number text front) (open_back mine back (no_until (is_item_at indent) back))
    (inner_cut L left below indent number text front mine cuts l h (until_from L (is_item_at indent) back k) (ill_reaches L item.number (inner_value left below indent number text (front ++ mine)) r))

far_cut : (o : List Row) (L left : ℕ) (below : Reader) (indent number : ℕ) (text : List ℕ) (front back : List Row) → Cuts L below → number < L → Each (Before L) front → Each (From L) back →
    onward (is_item_at indent) front ≡ [] → onward (is_item_at indent) back ≡ o →
    Reaches L (value_after_key left below indent number text (front ++ back)) → Goes (inner_value left below indent number text front) (Open text front back)
far_cut [] L left below indent number text front back cuts l h k e f r =
    let far = onward_far (is_item_at indent) front back (none_passes (is_item_at indent) front e) in
    inner_cut L left below indent number text front back cuts l h k (rw (far.0 ∙ f) at r)
far_cut (item ∷ items) L left below indent number text front back cuts l h k e f r =
    let far = onward_far (is_item_at indent) front back (none_passes (is_item_at indent) front e) in
    far_by (is_nothing text && is_none (first_content (front ++ until (is_item_at indent) back))) L left below indent number text front back item items cuts l h k refl (rw (far.0 ∙ f, far.1) at r)

value_by : (o : List Row) (L left : ℕ) (below : Reader) (indent number : ℕ) (text : List ℕ) (front back : List Row) → Cuts L below → number < L → Each (Before L) front → Each (From L) back →
    onward (is_item_at indent) front ≡ o → Reaches L (value_after_key left below indent number text (front ++ back)) → Goes (value_after_key left below indent number text front) (Open text front back)
value_by [] L left below indent number text front back cuts l h k e r = rw e (far_cut (onward (is_item_at indent) back) L left below indent number text front back cuts l h k e refl r)
value_by (item ∷ items) L left below indent number text front back cuts l h k e r =
    let test = is_item_at indent in
    let O = Open text front back in
    let at = passed test front item items e in
    let whole : front ++ back ≡ at.before ++ item ∷ (items ++ back) = ap (λ xs. xs ++ back) at.all ∙ append_assoc at.before (item ∷ items) back in
    let on : onward test (front ++ back) ≡ item ∷ (items ++ back) = ap (onward test) whole ∙ onward_at test at.before item (items ++ back) at.each at.passes in
    let up : until test (front ++ back) ≡ at.before = ap (until test) whole ∙ until_at test at.before item (items ++ back) at.each at.passes in
    let rows = subst (Each (Before L)) at.all h in
    let mine = each_right (Before L) at.before (item ∷ items) rows in
    let inner = inner_value left below indent number text at.before in
    let O' = Open text at.before [] in
    let never = ill_never L item.number inner mine.0
    (λ s. goes_weak O' ⊥ inner (λ o. o.1 refl)
    (inner_cut L left below indent number text at.before [] cuts l (each_left (Before L) at.before (item ∷ items) rows) tt (subst (λ xs. Reaches L (inner_value left below indent number text xs)) (sym (append-nil at.before)) s))) in
    rw (e, at.front)
    (by_if O L (is_nothing text && is_none (first_content at.before)) (below indent item (items ++ back)) (then_ill inner item.number) (below indent item items) (then_ill inner item.number)
    (λ c s. goes_weak (Open item.text items back) O (below indent item items) (λ q. open_behind text front back (open_in at.before item items front back at.all q)) (cuts indent item items back mine.0 mine.1 k s))
    (λ c s. absurd (never s))
    (rw (on, up) at r))

value_cut : (L left : ℕ) (below : Reader) (indent number : ℕ) (text : List ℕ) (front back : List Row) → Cuts L below → number < L → Each (Before L) front → Each (From L) back →
    Reaches L (value_after_key left below indent number text (front ++ back)) → Goes (value_after_key left below indent number text front) (Open text front back)
value_cut L left below indent number text front back cuts l h k r = value_by (onward (is_item_at indent) front) L left below indent number text front back cuts l h k refl r

entry_by : (o : Option KeyPart) (L left : ℕ) (below : Reader) (indent : ℕ) (seen : List (List ℕ)) (head : Row) (front back : List Row) → Cuts L below → head.number < L → Each (Before L) front → Each (From L) back →
    key_part head.text ≡ o → Reaches L (entry_of left below indent seen head (front ++ back)) → Goes (entry_of left below indent seen head front) (Open head.text front back)
entry_by None L left below indent seen head front back cuts l h k e r = let never : L ≤ head.number = rw e at r in absurd (omega (arith, l, never))
entry_by (Some part) L left below indent seen head front back cuts l h k e r =
    let O = Open head.text front back in
    let flaw = either (place_flaw indent head) (new_key_flaw seen part.key) in
    let text = past_blanks part.behind in
    let value = value_after_key left below head.indent head.number text in
    let far : flaw ≡ None → Suffix text head.text = λ g. (
    let new = new_key_none seen part.key (either_none (place_flaw indent head) (new_key_flaw seen part.key) g).1 in
    let read = e ∙ ap (λ x. let p : KeyPart = record { key = x; behind = part.behind } in Some p) new.is in
    suffix_of text part.behind head.text (key_suffix (key_meant head.text new.key part.behind read)) (past_suffix part.behind)
    ) in
    rw e
    (by_last O L (beside (fault_with head.number flaw) (value (front ++ back))) (beside (fault_with head.number flaw) (value front)) (λ v. Ok (key_text part.key, v)) (λ v. Ok (key_text part.key, v))
    (by_beside O L flaw head.number (value (front ++ back)) (value front) l
    (λ g s. goes_weak (Open text front back) O (value front) (open_further (far g).0 text head.text front back (far g).1) (value_cut L left below head.indent head.number text front back cuts l h k s)))
    (λ v. tt) (rw e at r))

entry_cut : (L left : ℕ) (below : Reader) (indent : ℕ) (seen : List (List ℕ)) (head : Row) (front back : List Row) → Cuts L below → head.number < L → Each (Before L) front → Each (From L) back →
    Reaches L (entry_of left below indent seen head (front ++ back)) → Goes (entry_of left below indent seen head front) (Open head.text front back)
entry_cut L left below indent seen head front back cuts l h k r = entry_by (key_part head.text) L left below indent seen head front back cuts l h k refl r

entries_by : (t : Bool) (L : ℕ) (read : EntryReader) (test : Row → Bool) (seen : List (List ℕ)) (head row : Row) (so_far front back : List Row) → ((keys : List (List ℕ)) → ReadsOn L (read keys)) → test row ≡ t → head.number < L → Each (Before L) so_far →
    ((keys : List (List ℕ)) → Reaches L (all_entries read keys (parts test row [] (front ++ back))) → Goes (all_entries read keys (parts test row [] front)) (Open row.text front back)) →
    (Reaches L (all_entries read seen (parts test head (so_far ++ row ∷ []) (front ++ back))) → Goes (all_entries read seen (parts test head (so_far ++ row ∷ []) front)) (Open head.text ((so_far ++ row ∷ []) ++ front) back)) →
    Reaches L (all_entries read seen (parts test head so_far (row ∷ front ++ back))) → Goes (all_entries read seen (parts test head so_far (row ∷ front))) (Open head.text (so_far ++ row ∷ front) back)
entries_by true L read test seen head row so_far front back on e l h next grow r =
    let O = Open head.text (so_far ++ row ∷ front) back in
    let rest = λ (v : Entry) (rows : List Row). all_entries read (seen ++ v.0 ∷ []) (parts test row [] rows) in
    rw e
    (by_same O L (read seen head so_far) (λ v. rest v (front ++ back) >>= λ vs. Ok (v ∷ vs)) (λ v. rest v front >>= λ vs. Ok (v ∷ vs)) (whole_cut L (read seen) head so_far (on seen) l h)
    (λ v. by_last O L (rest v (front ++ back)) (rest v front) (λ vs. Ok (v ∷ vs)) (λ vs. Ok (v ∷ vs))
    (λ s. goes_weak (Open row.text front back) O (rest v front) (next_open head.text so_far row front back) (next (seen ++ v.0 ∷ []) s)) (λ vs. tt))
    (rw e at r))
entries_by false L read test seen head row so_far front back on e l h next grow r =
    rw e (goes_weak (Open head.text ((so_far ++ row ∷ []) ++ front) back) (Open head.text (so_far ++ row ∷ front) back) (all_entries read seen (parts test head (so_far ++ row ∷ []) front))
    (subst (λ xs. Open head.text xs back) (append_assoc so_far (row ∷ []) front)) (grow (rw e at r)))

entries_cut : (front : List Row) (L : ℕ) (read : EntryReader) (test : Row → Bool) (seen : List (List ℕ)) (head : Row) (so_far back : List Row) → ((keys : List (List ℕ)) → ReadsOn L (read keys)) → head.number < L →
    Each (Before L) so_far → Each (Before L) front → Each (From L) back →
    Reaches L (all_entries read seen (parts test head so_far (front ++ back))) → Goes (all_entries read seen (parts test head so_far front)) (Open head.text (so_far ++ front) back)
entries_cut [] L read test seen head so_far back on l h f k r =
    let O = Open head.text (so_far ++ []) back in
    let mine = until test back in
    let rest = λ (v : Entry). all_entries read (seen ++ v.0 ∷ []) (more_parts test (onward test back)) in
    by_last O L (read seen head (so_far ++ mine)) (read seen head so_far) (λ v. rest v >>= λ vs. Ok (v ∷ vs)) (λ v. Ok (v ∷ []))
    (λ s. goes_weak (Open head.text so_far mine) O (read seen head so_far) (last_open test head.text so_far back) (on seen head so_far mine l h (until_from L test back k) s))
    (λ v. tt) (subst (λ ps. Reaches L (all_entries read seen ps)) (parts_split test head so_far back) r)
entries_cut (row ∷ front) L read test seen head so_far back on l h f k r =
    entries_by (test row) L read test seen head row so_far front back on refl l h (λ keys. entries_cut front L read test keys row [] back on f.0 tt f.1 k)
    (entries_cut front L read test seen head (so_far ++ row ∷ []) back on l (each_append (Before L) so_far (row ∷ []) h (f.0, tt)) f.1 k) r

map_cut : (L left : ℕ) (below : Reader) (head : Row) (front back : List Row) → Cuts L below → head.number < L → Each (Before L) front → Each (From L) back →
    Reaches L (map_of left below head (front ++ back)) → Goes (map_of left below head front) (Open head.text front back)
map_cut L left below head front back cuts l h k r =
    let read = entry_of left below head.indent in
    let cut = λ (rows : List Row). all_entries read [] (parts (begins_entry head.indent) head [] rows) in
    by_last (Open head.text front back) L (cut (front ++ back)) (cut front) (λ es. Ok (mapping head.number (entries_of es))) (λ es. Ok (mapping head.number (entries_of es)))
    (entries_cut front L read (begins_entry head.indent) [] head [] back (λ keys f fs bs. λ a b c. entry_cut L left below head.indent keys f fs bs cuts a b c) l tt h k) (λ es. tt) r

-- ---- too deep: the fault stands on the row

entry_le : (o : Option KeyPart) (row : Row) (rows : List Row) → (deep_entry row rows o).line ≤ row.number
entry_le None row rows = omega arith
entry_le (Some part) row rows = first_le (fault_at row.number _) (deep_value row (past_blanks part.behind) rows)

abbrev line_of : Option LineFault → ℕ
line_of None = 0
line_of (Some fault) = fault.line

turn_le : (t₁ t₂ t₃ t₄ : Bool) (row : Row) (rows : List Row) (fault : LineFault) → begins_item row.text ≡ t₁ → is_nothing (behind_item row).text ≡ t₂ → begins_collection (behind_item row).text ≡ t₃ → tab_behind row ≡ t₄ →
    deep_turn row rows ≡ Some fault → fault.line ≤ row.number
turn_le false t₂ t₃ t₄ row rows fault h₁ h₂ h₃ h₄ e =
    let n : (deep_entry row rows (key_part row.text)).line ≡ fault.line = ap line_of (rw h₁ at e) in
    let l = entry_le (key_part row.text) row rows in omega (arith, n, l)
turn_le true true t₃ t₄ row rows fault h₁ h₂ h₃ h₄ e = let n : row.number ≡ fault.line = ap line_of (rw (h₁, h₂) at e) in omega (arith, n)
turn_le true false false t₄ row rows fault h₁ h₂ h₃ h₄ e =
    let read = alone zero (suc row.indent) (behind_item row) rows in
    let n : (sooner_fault (depth_fault row.number) read).line ≡ fault.line = ap line_of (rw (h₁, h₂, h₃) at e) in
    let l = first_le (depth_fault row.number) read in omega (arith, n, l)
turn_le true false true true row rows fault h₁ h₂ h₃ h₄ e = let n : row.number ≡ fault.line = ap line_of (rw (h₁, h₂, h₃, h₄) at e) in omega (arith, n)
turn_le true false true false row rows fault h₁ h₂ h₃ h₄ e = let never = rw (h₁, h₂, h₃, h₄) at e in absurd (cc)

turns_le : (o : Option LineFault) (spent : LineFault) (fuel : ℕ) (row : Row) (rows : List Row) → deep_turn row rows ≡ o → (deep_turns spent fuel (behind_item row) rows).line ≤ row.number →
    (unwrap_or (deep_turn row rows) (deep_turns spent fuel (behind_item row) rows)).line ≤ row.number
turns_le None spent fuel row rows e more = rw e more
turns_le (Some fault) spent fuel row rows e more =
    rw e (turn_le (begins_item row.text) (is_nothing (behind_item row).text) (begins_collection (behind_item row).text) (tab_behind row) row rows fault refl refl refl refl e)

deep_le : (spent : LineFault) (fuel : ℕ) (row : Row) (rows : List Row) → spent.line ≤ row.number → (deep_turns spent fuel row rows).line ≤ row.number
unfolding deep_turns
deep_le spent zero row rows h = h
deep_le spent (suc fuel) row rows h = turns_le (deep_turn row rows) spent fuel row rows refl (deep_le spent fuel (behind_item row) rows h)

-- ---- nodes

pub node_cut : (left L : ℕ) → Cuts L (node left)
node_cut zero L floor head front back l h k r =
    let O = Open head.text front back in
    let deep = λ (rows : List Row). too_deep (length head.text + 1) head rows in
    by_if O L (begins_collection head.text) (Err (deep (front ++ back))) (alone zero floor head (front ++ back)) (Err (deep front)) (alone zero floor head front)
    (λ e s. let le = deep_le (depth_fault head.number) (length head.text + 1) head (front ++ back) (omega arith) in absurd (omega (arith, l, s, le)))
    (λ e. alone_cut front back L zero floor head l h) r
node_cut (suc left) L floor head front back l h k r =
    let O = Open head.text front back in
    by_if O L (begins_item head.text) (seq_of (node left) head (front ++ back)) _ (seq_of (node left) head front) _
    (λ e. seq_cut L (node left) head front back (node_cut left L) l h k)
    (λ e. by_if O L (begins_with_key head.text) (map_of left (node left) head (front ++ back)) (alone (suc left) floor head (front ++ back)) (map_of left (node left) head front) (alone (suc left) floor head front)
    (λ f. map_cut L left (node left) head front back (node_cut left L) l h k)
    (λ f. alone_cut front back L (suc left) floor head l h)) r
