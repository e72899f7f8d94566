-- Rows with and without content, and what is said of each row of a list.
use Rattle.std.proofs.Common.{◌≡◌, ◌⊎◌, inl, inr, Bool, true, false, not, ◌&&◌, cond, List, [], ◌∷◌, ◌++◌, Option, Some, None, Ok, refl, sym, ap, subst, ◌∙◌}
use Rattle.std.specs.List.{AllByRecursion as Each}
use Rattle.rb_yaml.specs.Rows.{Row, is_blank_row, is_comment_row, is_content, first_content}
use Rattle.rb_yaml.specs.Scalars.{TreeReading, complete}
use Rattle.rb_yaml.specs.Tree.{YamlTree}
use Rattle.rb_yaml_laws.specs.Bare.{Bare}
use Rattle.rb_yaml_laws.specs.Plain.{IsBlank}

-- ---- each

pub each_append : {A : Type 0} (P : A → Type 0) (xs ys : List A) → Each P xs → Each P ys → Each P (xs ++ ys)
each_append P [] ys h k = k
each_append P (x ∷ xs) ys h k = (h.0, each_append P xs ys h.1 k)

pub each_left : {A : Type 0} (P : A → Type 0) (xs ys : List A) → Each P (xs ++ ys) → Each P xs
each_left P [] ys h = tt
each_left P (x ∷ xs) ys h = (h.0, each_left P xs ys h.1)

pub each_right : {A : Type 0} (P : A → Type 0) (xs ys : List A) → Each P (xs ++ ys) → Each P ys
each_right P [] ys h = h
each_right P (x ∷ xs) ys h = each_right P xs ys h.1

pub each_weak : {A : Type 0} (P Q : A → Type 0) → ((x : A) → P x → Q x) → (xs : List A) → Each P xs → Each Q xs
each_weak P Q f [] h = tt
each_weak P Q f (x ∷ xs) h = (f x h.0, each_weak P Q f xs h.1)

-- ---- content

content_by : (a b : Bool) → (not a && not b) ≡ true → (a ≡ false) × (b ≡ false)
content_by true b h = absurd (cc)
content_by false true h = absurd (cc)
content_by false false h = (refl, refl)

pub content_is : (row : Row) → is_content row ≡ true → (is_blank_row row ≡ false) × (is_comment_row row ≡ false)
content_is row h = content_by (is_blank_row row) (is_comment_row row) h

bare_by : (a b : Bool) → (not a && not b) ≡ false → (a ≡ true) ⊎ ((a ≡ false) × (b ≡ true))
bare_by true b h = inl refl
bare_by false true h = inr (refl, refl)
bare_by false false h = absurd (cc)

pub bare_is : (row : Row) → is_content row ≡ false → (is_blank_row row ≡ true) ⊎ ((is_blank_row row ≡ false) × (is_comment_row row ≡ true))
bare_is row h = bare_by (is_blank_row row) (is_comment_row row) h

pub content_from : (row : Row) → is_blank_row row ≡ false → is_comment_row row ≡ false → is_content row ≡ true
content_from row h k = rw (h, k) refl

pub blank_bare : (row : Row) → is_blank_row row ≡ true → is_content row ≡ false
blank_bare row h = rw h refl

comment_by : (a b : Bool) → b ≡ true → (not a && not b) ≡ false
comment_by true b h = refl
comment_by false true h = refl
comment_by false false h = absurd (cc)

pub comment_bare : (row : Row) → is_comment_row row ≡ true → is_content row ≡ false
comment_bare row h = comment_by (is_blank_row row) (is_comment_row row) h

pub blanks_bare : (rows : List Row) → Each IsBlank rows → Bare rows
blanks_bare rows h = each_weak IsBlank (λ row. is_content row ≡ false) blank_bare rows h

-- ---- the first row with content

pub first_passed : (row : Row) (rows : List Row) → is_content row ≡ false → first_content (row ∷ rows) ≡ first_content rows
first_passed row rows h = ap (λ t. cond t (Some (row, rows)) (first_content rows)) h

pub bare_none : (rows : List Row) → Bare rows → first_content rows ≡ None
bare_none [] h = refl
bare_none (row ∷ rows) h = first_passed row rows h.0 ∙ bare_none rows h.1

none_by : (t : Bool) (row : Row) (rows : List Row) → is_content row ≡ t → (first_content rows ≡ None → Bare rows) → cond t (Some (row, rows)) (first_content rows) ≡ None → Bare (row ∷ rows)
none_by true row rows h more e = absurd (cc)
none_by false row rows h more e = (h, more e)

pub none_bare : (rows : List Row) → first_content rows ≡ None → Bare rows
none_bare [] e = tt
none_bare (row ∷ rows) e = none_by (is_content row) row rows refl (none_bare rows) e

pub first_at : (before : List Row) (head : Row) (behind : List Row) → Bare before → is_content head ≡ true → first_content (before ++ head ∷ behind) ≡ Some (head, behind)
first_at [] head behind h k = ap (λ t. cond t (Some (head, behind)) (first_content behind)) k
first_at (row ∷ before) head behind h k = first_passed row (before ++ head ∷ behind) h.0 ∙ first_at before head behind h.1 k

-- where the first row with content stands
pub record FirstAt (rows : List Row) (first : Row × List Row) : Type 0 where
  pub before : List Row
  pub bare : Bare before
  pub filled : is_content first.0 ≡ true
  pub all : rows ≡ before ++ first.0 ∷ first.1

at_by : (t : Bool) (row : Row) (rows : List Row) (first : Row × List Row) → is_content row ≡ t → (first_content rows ≡ Some first → FirstAt rows first) →
    cond t (Some (row, rows)) (first_content rows) ≡ Some first → FirstAt (row ∷ rows) first
at_by true row rows first h more e = let same : (row, rows) ≡ first = cc in subst (FirstAt (row ∷ rows)) same (record { before = []; bare = tt; filled = h; all = refl })
at_by false row rows first h more e = let m = more e in record { before = row ∷ m.before; bare = (h, m.bare); filled = m.filled; all = ap (λ xs. row ∷ xs) m.all }

pub at_first : (rows : List Row) (first : Row × List Row) → first_content rows ≡ Some first → FirstAt rows first
at_first [] first e = absurd (cc)
at_first (row ∷ rows) first e = at_by (is_content row) row rows first refl (at_first rows first) e

-- ---- a value that is complete

pub complete_read : (v : YamlTree) (rows : List Row) → Bare rows → complete v rows ≡ Ok v
complete_read v rows h = rw (bare_none rows h) refl

ended_by : (v w : YamlTree) (rows : List Row) (o : Option (Row × List Row)) → first_content rows ≡ o → complete v rows ≡ Ok w → (w ≡ v) × Bare rows
ended_by v w rows None h e = let bare = none_bare rows h in let same = sym (complete_read v rows bare) ∙ e in (cc, bare)
ended_by v w rows (Some left) h e = let never = rw h at e in absurd (cc)

pub complete_meant : (v w : YamlTree) (rows : List Row) → complete v rows ≡ Ok w → (w ≡ v) × Bare rows
complete_meant v w rows e = ended_by v w rows (first_content rows) refl e

-- a reading that is a fault
abbrev pub Never : TreeReading → Type 0
Never read = (value : YamlTree) → read ≡ Ok value → ⊥
