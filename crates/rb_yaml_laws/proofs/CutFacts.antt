-- Rows cut into parts, and which rows begin one.
use Rattle.std.proofs.Common.{◌≡◌, ◌⊎◌, inl, inr, ◌<◌, ℕ, Bool, true, false, not, ◌&&◌, nat_eq, nat_le, List, [], ◌∷◌, ◌++◌, refl, sym, ap, subst, ◌∙◌, append_assoc, append-nil, arith}
use Rattle.std.proofs.lemmas.Bool.Decides.{nat_tests}
use Rattle.std.proofs.Math.Bool.{and-false}
use Rattle.std.proofs.lemmas.Bool.{lt-leb, leb-false, ne_eqb, le-leb, and_parts, and_from, not_from_false}
use Rattle.std.specs.List.{AllByRecursion as Each}
use Rattle.rb_causes.specs.Texts.{is_blank}
use Rattle.rb_yaml.specs.Rows.{Row, begins, is_content, is_tabbed}
use Rattle.rb_yaml.specs.Parts.{until, onward, parts}
use Rattle.rb_yaml.specs.Signs.{begins_item, ends_sign, is_nothing}
use Rattle.rb_yaml.specs.Edges.{begins_part, is_item_at, begins_entry}
use Rattle.rb_yaml_laws.specs.Bare.{IsWithin, IsBeneath}
use Rattle.rb_yaml_laws.specs.Nodes.{StandsAt}

-- ---- parts

-- all rows as parts
abbrev pub cut : (Row → Bool) → List Row → List (Row × List Row)
cut test [] = []
cut test (row ∷ rows) = parts test row [] rows

-- the first row, if there is one, begins a part
abbrev pub Starts : (Row → Bool) → List Row → Type 0
Starts test [] = Unit {0}
Starts test (row ∷ rows) = test row ≡ true

pub cut_at : (test : Row → Bool) (first : Row) (so_far body rows : List Row) → Each (λ row. test row ≡ false) body → Starts test rows →
    parts test first so_far (body ++ rows) ≡ (first, so_far ++ body) ∷ cut test rows
cut_at test first so_far [] [] h s = ap (λ xs. (first, xs) ∷ []) (sym (append-nil so_far))
cut_at test first so_far [] (row ∷ rows) h s = rw s (ap (λ xs. (first, xs) ∷ parts test row [] rows) (sym (append-nil so_far)))
cut_at test first so_far (b ∷ body) rows h s =
    rw h.0 (cut_at test first (so_far ++ b ∷ []) body rows h.1 s ∙ ap (λ xs. (first, xs) ∷ cut test rows) (append_assoc so_far (b ∷ []) body))

pub onward_none : (test : Row → Bool) (rows : List Row) → Each (λ row. test row ≡ false) rows → onward test rows ≡ []
onward_none test [] h = refl
onward_none test (row ∷ rows) h = rw h.0 (onward_none test rows h.1)

pub onward_at : (test : Row → Bool) (before : List Row) (row : Row) (rows : List Row) → Each (λ r. test r ≡ false) before → test row ≡ true → onward test (before ++ row ∷ rows) ≡ row ∷ rows
onward_at test [] row rows h t = rw t refl
onward_at test (b ∷ before) row rows h t = rw h.0 (onward_at test before row rows h.1 t)

pub until_at : (test : Row → Bool) (before : List Row) (row : Row) (rows : List Row) → Each (λ r. test r ≡ false) before → test row ≡ true → until test (before ++ row ∷ rows) ≡ before
until_at test [] row rows h t = rw t refl
until_at test (b ∷ before) row rows h t = rw h.0 (ap (λ xs. b ∷ xs) (until_at test before row rows h.1 t))

-- where the first row that passes stands
pub record PassedAt (test : Row → Bool) (rows : List Row) (first : Row) (behind : List Row) : Type 0 where
  pub before : List Row
  pub all : rows ≡ before ++ first ∷ behind
  pub each : Each (λ row. test row ≡ false) before
  pub passes : test first ≡ true
  pub front : until test rows ≡ before

passed_by : (t : Bool) (test : Row → Bool) (row : Row) (rows : List Row) (first : Row) (behind : List Row) → test row ≡ t → (onward test rows ≡ first ∷ behind → PassedAt test rows first behind) →
    onward test (row ∷ rows) ≡ first ∷ behind → PassedAt test (row ∷ rows) first behind
passed_by true test row rows first behind h more e =
    let whole = rw h at e in
    let same : row ≡ first = cc in
    let rest : rows ≡ behind = cc in
    record { before = []; all = whole; each = tt; passes = sym (ap test same) ∙ h; front = rw h refl }
passed_by false test row rows first behind h more e =
    let m = more (rw h at e) in
    record { before = row ∷ m.before; all = ap (λ xs. row ∷ xs) m.all; each = (h, m.each); passes = m.passes; front = rw h (ap (λ xs. row ∷ xs) m.front) }

pub passed : (test : Row → Bool) (rows : List Row) (first : Row) (behind : List Row) → onward test rows ≡ first ∷ behind → PassedAt test rows first behind
passed test [] first behind e = absurd (cc)
passed test (row ∷ rows) first behind e = passed_by (test row) test row rows first behind refl (passed test rows first behind) e

none_by : (t : Bool) (test : Row → Bool) (row : Row) (rows : List Row) → test row ≡ t → (onward test rows ≡ [] → Each (λ r. test r ≡ false) rows) → onward test (row ∷ rows) ≡ [] → Each (λ r. test r ≡ false) (row ∷ rows)
none_by true test row rows h more e = let never = rw h at e in absurd (cc)
none_by false test row rows h more e = (h, more (rw h at e))

pub none_passes : (test : Row → Bool) (rows : List Row) → onward test rows ≡ [] → Each (λ row. test row ≡ false) rows
none_passes test [] e = tt
none_passes test (row ∷ rows) e = none_by (test row) test row rows refl (none_passes test rows) e

-- ---- which rows begin a part

-- a text that begins and not with a blank, and is no comment, is content
pub filled_content : (row : Row) → is_nothing row.text ≡ false → (b : ℕ) (bs : List ℕ) → row.text ≡ b ∷ bs → is_blank b ≡ false → is_content row ≡ true
filled_content row h b bs e d = subst (λ xs. is_content (record row { text = xs }) ≡ true) (sym e) (by (nat_eq b 35) refl)
  where
    by : (t : Bool) → nat_eq b 35 ≡ t → is_content (record row { text = b ∷ bs }) ≡ true
    by true k = let n = (sym (ap is_nothing e) ∙ h) in let never : true ≡ false = sym k ∙ n in absurd (cc)
    by false k = rw (d, k) refl

dash_dark : (b : ℕ) → nat_eq b 45 ≡ true → is_blank b ≡ false
dash_dark b h = grind (arith, nat_tests)

dash_text : (b : ℕ) → nat_eq b 45 ≡ true → nat_eq b 35 ≡ false
dash_text b h = grind (arith, nat_tests)

dash_no_tab : (b : ℕ) → nat_eq b 45 ≡ true → nat_eq b 9 ≡ false
dash_no_tab b h = grind (arith, nat_tests)

item_content_at : (number indent : ℕ) (text : List ℕ) → begins_item text ≡ true → is_content (record { number = number; indent = indent; text = text }) ≡ true
item_content_at number indent [] h = absurd (cc)
item_content_at number indent (b ∷ bs) h =
    let dash = (and_parts (nat_eq b 45) (ends_sign bs) h).0 in
    filled_content (record { number = number; indent = indent; text = b ∷ bs }) (dash_text b dash) b bs refl (dash_dark b dash)

pub item_content : (row : Row) → begins_item row.text ≡ true → is_content row ≡ true
item_content row h = item_content_at row.number row.indent row.text h

item_no_tab_at : (text : List ℕ) → begins_item text ≡ true → begins 9 text ≡ false
item_no_tab_at [] h = refl
item_no_tab_at (b ∷ bs) h = dash_no_tab b ((and_parts (nat_eq b 45) (ends_sign bs) h).0)

pub item_no_tab : (row : Row) → begins_item row.text ≡ true → is_tabbed row ≡ false
item_no_tab row h = item_no_tab_at row.text h

-- a row without content is no item
item_by : (row : Row) (t : Bool) → begins_item row.text ≡ t → is_content row ≡ false → begins_item row.text ≡ false
item_by row true h e = let c = item_content row h in absurd (cc)
item_by row false h e = h

pub bare_no_item : (row : Row) → is_content row ≡ false → begins_item row.text ≡ false
bare_no_item row e = item_by row (begins_item row.text) refl e

part_by : (c : Bool) (a b : ℕ) → c ≡ true → a ≡ b → (c && nat_le a b) ≡ true
part_by c a b h e = and_from c (nat_le a b) h (le-leb a b (omega (arith, e)))

no_part_by : (c : Bool) (a b : ℕ) → (c ≡ false) ⊎ (b < a) → (c && nat_le a b) ≡ false
no_part_by false a b h = refl
no_part_by true a b (inl h) = absurd (cc)
no_part_by true a b (inr h) = lt-leb a b h

within_by : (c : Bool) (a b : ℕ) → (c && nat_le a b) ≡ false → (c ≡ false) ⊎ (b < a)
within_by false a b h = inl refl
within_by true a b h = inr (leb-false a b h)

pub within_no_part : (column : ℕ) (row : Row) → IsWithin column row → begins_part column row ≡ false
within_no_part column row h = no_part_by (is_content row) row.indent column h

pub no_part_within : (column : ℕ) (row : Row) → begins_part column row ≡ false → IsWithin column row
no_part_within column row h = within_by (is_content row) row.indent column h

pub stands_part : (column : ℕ) (row : Row) → StandsAt column row → begins_part column row ≡ true
stands_part column row h = part_by (is_content row) row.indent column h.0 h.2

pub within_no_item : (column : ℕ) (row : Row) → IsWithin column row → is_item_at column row ≡ false
within_no_item column row (inl h) = rw (bare_no_item row h) (and-false (nat_eq row.indent column))
within_no_item column row (inr h) = let n : nat_eq row.indent column ≡ false = ne_eqb row.indent column (λ e. absurd (omega (arith, h, e))) in rw n refl

entry_by : (p i : Bool) → p ≡ true → i ≡ false → (p && not i) ≡ true
entry_by p i h k = and_from p (not i) h (not_from_false i k)

pub stands_entry : (column : ℕ) (row : Row) → StandsAt column row → begins_item row.text ≡ false → begins_entry column row ≡ true
stands_entry column row h k = entry_by (begins_part column row) (is_item_at column row) (stands_part column row h) (rw k (and-false (nat_eq row.indent column)))

no_entry_by : (p i : Bool) → (p ≡ false) ⊎ (i ≡ true) → (p && not i) ≡ false
no_entry_by false i h = refl
no_entry_by true i (inl h) = absurd (cc)
no_entry_by true i (inr h) = rw h refl

pub beneath_no_entry : (column : ℕ) (row : Row) → IsBeneath column row → begins_entry column row ≡ false
beneath_no_entry column row (inl h) = no_entry_by (begins_part column row) (is_item_at column row) (inl (within_no_part column row h))
beneath_no_entry column row (inr h) = no_entry_by (begins_part column row) (is_item_at column row) (inr h)

beneath_by : (p i : Bool) → (p && not i) ≡ false → (p ≡ false) ⊎ (i ≡ true)
beneath_by false i h = inl refl
beneath_by true true h = inr refl
beneath_by true false h = absurd (cc)

beneath_from : (column : ℕ) (row : Row) → (begins_part column row ≡ false) ⊎ (is_item_at column row ≡ true) → IsBeneath column row
beneath_from column row (inl h) = inl (no_part_within column row h)
beneath_from column row (inr h) = inr h

pub no_entry_beneath : (column : ℕ) (row : Row) → begins_entry column row ≡ false → IsBeneath column row
no_entry_beneath column row h = beneath_from column row (beneath_by (begins_part column row) (is_item_at column row) h)

-- a row that belongs to a key and is no item at its column stands further in
within_from : (column : ℕ) (row : Row) → IsBeneath column row → is_item_at column row ≡ false → IsWithin column row
within_from column row (inl h) k = h
within_from column row (inr h) k = absurd (cc)

pub each_within : (column : ℕ) (rows : List Row) → Each (IsBeneath column) rows → Each (λ row. is_item_at column row ≡ false) rows → Each (IsWithin column) rows
each_within column [] h k = tt
each_within column (row ∷ rows) h k = (within_from column row h.0 k.0, each_within column rows h.1 k.1)
