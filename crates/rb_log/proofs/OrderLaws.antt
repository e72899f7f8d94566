-- What is held by name stands in order of the names, with the number of its rows.
use Rattle.std.proofs.Common.{◌≡◌, ◌∙◌, ◌<◌, ◌+◌, ℕ, zero, suc, List, [], ◌∷◌, length, map, filter, find, Bool, true, false, ◌&&◌, bytes_eq, Option, Some, None, option_map, slice_get, unwrap_or, ap, sym, subst, refl, arith, if◌then◌else◌}
use Rattle.std.specs.Ordering.{nat_cmp, match_ordering, ordering_reverse}
use Rattle.std.specs.Cmp.Lexicographic.{slice_cmp, nat_list_cmp_total}
use Rattle.std.specs.declared.cmp.Ordering.{Ordering}
use Rattle.std.specs.declared.cmp.Ordering.TheVariants.{Less, Equal, Greater}
use Rattle.rb_causes.specs.declared.row.Row.{Row}
use Rattle.rb_causes.proofs.Texts.{text_is, same_text, text_order}
use Rattle.rb_cron.specs.declared.zone.NamedZone.{NamedZone}
use Rattle.rb_log.specs.Rows.{is_nodes, is_jobs, is_zone}
use Rattle.rb_log.specs.World.{Latest, LoggedProject, put_by, put_latest, latest, latest_of, row_name, put_nodes, project_name, project_of, with_jobs, with_fire, is_fire, zones_of, projects_at, latest_nodes, count_of}
use Rattle.rb_log.specs.Laws.{NamesAscend, ProjectsAscend, CountsAreTold, NodesAreCounted}
use Rattle.rb_log.proofs.LatestLaws.{Keeps, KeepsNodes, named, skipped, taken, put_other, jobs_keep_nodes, fires_keep_nodes}

before_is : (a b : List ℕ) → slice_cmp nat_cmp a b ≡ Greater → slice_cmp nat_cmp b a ≡ Less
before_is a b h = nat_list_cmp_total.antisymm b a ∙ ap ordering_reverse h

module _ {A : Type 0} (name_of : A → List ℕ) where
  -- this name is before all of these
  abbrev IsFirst : List ℕ → List A → Type 0
  IsFirst name [] = Unit {0}
  IsFirst name (x ∷ xs) = (slice_cmp nat_cmp name (name_of x) ≡ Less) × IsFirst name xs

  abbrev Ascend : List A → Type 0
  Ascend [] = Unit {0}
  Ascend (x ∷ xs) = IsFirst (name_of x) xs × Ascend xs

  first_of : (a b : List ℕ) (xs : List A) → slice_cmp nat_cmp a b ≡ Less → IsFirst b xs
      → IsFirst a xs
  first_of a b [] h k = tt
  first_of a b (x ∷ xs) h k =
      (nat_list_cmp_total.trans a b (name_of x) h k.0, first_of a b xs h k.1)

  equal_is : (new x : A) → slice_cmp nat_cmp (name_of new) (name_of x) ≡ Equal
      → name_of new ≡ name_of x
  equal_is new x h = text_is (name_of new) (name_of x) (text_order (name_of new) (name_of x) Equal h)

  first_by : (name : List ℕ) (new : A) (over : A → A) (x : A) (xs : List A) (o : Ordering)
      → Keeps name_of new over → slice_cmp nat_cmp name (name_of new) ≡ Less
      → slice_cmp nat_cmp (name_of new) (name_of x) ≡ o → IsFirst name (x ∷ xs)
      → IsFirst name (put_by name_of new over xs)
      → IsFirst name
      (match_ordering o (new ∷ x ∷ xs) (over x ∷ xs) (x ∷ put_by name_of new over xs))
  first_by name new over x xs Less keeps less is h more = (less, h)
  first_by name new over x xs Equal keeps less is h more =
      (ap (slice_cmp nat_cmp name) (keeps x (sym (equal_is new x is))) ∙ less, h.1)
  first_by name new over x xs Greater keeps less is h more = (h.0, more)

  first_put : (name : List ℕ) (new : A) (over : A → A) (xs : List A) → Keeps name_of new over
      → slice_cmp nat_cmp name (name_of new) ≡ Less → IsFirst name xs
      → IsFirst name (put_by name_of new over xs)
  first_put name new over [] keeps less h = (less, tt)
  first_put name new over (x ∷ xs) keeps less h =
      first_by name new over x xs (slice_cmp nat_cmp (name_of new) (name_of x)) keeps less refl h
      (first_put name new over xs keeps less h.1)

  ascend_by : (new : A) (over : A → A) (x : A) (xs : List A) (o : Ordering)
      → Keeps name_of new over → slice_cmp nat_cmp (name_of new) (name_of x) ≡ o
      → Ascend (x ∷ xs) → Ascend (put_by name_of new over xs)
      → Ascend (match_ordering o (new ∷ x ∷ xs) (over x ∷ xs) (x ∷ put_by name_of new over xs))
  ascend_by new over x xs Less keeps is h more =
      ((is, first_of (name_of new) (name_of x) xs is h.0), h)
  ascend_by new over x xs Equal keeps is h more =
      let same : name_of x ≡ name_of (over x) =
      sym (equal_is new x is) ∙ sym (keeps x (sym (equal_is new x is))) in
      (subst (λ n. IsFirst n xs) same h.0, h.1)
  ascend_by new over x xs Greater keeps is h more =
      (first_put (name_of x) new over xs keeps (before_is (name_of new) (name_of x) is) h.0, more)

  ascend_put : (new : A) (over : A → A) (xs : List A) → Keeps name_of new over → Ascend xs
      → Ascend (put_by name_of new over xs)
  ascend_put new over [] keeps h = (tt, tt)
  ascend_put new over (x ∷ xs) keeps h =
      ascend_by new over x xs (slice_cmp nat_cmp (name_of new) (name_of x)) keeps refl h
      (ascend_put new over xs keeps h.1)

  -- ---- by their places

  first_at : (name : List ℕ) (xs : List A) (j : ℕ) (y : A) → IsFirst name xs
      → slice_get xs j ≡ Some y → slice_cmp nat_cmp name (name_of y) ≡ Less
  first_at name [] j y h get = absurd (grind (arith, get))
  first_at name (x ∷ xs) zero y h get =
      subst (λ o. slice_cmp nat_cmp name (name_of (unwrap_or o x)) ≡ Less) get h.0
  first_at name (x ∷ xs) (suc j) y h get = first_at name xs j y h.1 get

  ascend_at : (xs : List A) (i j : ℕ) (x y : A) → Ascend xs → slice_get xs i ≡ Some x
      → slice_get xs j ≡ Some y → i < j → slice_cmp nat_cmp (name_of x) (name_of y) ≡ Less
  ascend_at [] i j x y h get other less = absurd (grind (arith, get))
  ascend_at (z ∷ xs) i zero x y h get other less = absurd (omega (arith, less))
  ascend_at (z ∷ xs) zero (suc j) x y h get other less =
      subst (λ o. slice_cmp nat_cmp (name_of (unwrap_or o z)) (name_of y) ≡ Less) get
      (first_at (name_of z) xs j y h.0 other)
  ascend_at (z ∷ xs) (suc i) (suc j) x y h get other less =
      ascend_at xs i j x y h.1 get other (omega (arith, less))

  -- ---- none of a name that is before all

  none_first : (name : List ℕ) (xs : List A) → IsFirst name xs
      → find (named name_of name) xs ≡ None
  none_first name [] h = refl
  none_first name (x ∷ xs) h =
      skipped name_of (named name_of name) x xs
      (differ (bytes_eq (name_of x) name) refl) ∙ none_first name xs h.1
    where
      differ : (b : Bool) → bytes_eq (name_of x) name ≡ b → bytes_eq (name_of x) name ≡ false
      differ false k = k
      differ true k =
          let wrong : true ≡ false =
          sym (same_text name (name_of x) (sym (text_is (name_of x) name k)))
          ∙ text_order name (name_of x) Less h.0 in
          absurd (grind (arith, wrong))

  -- ---- counts

  module _ (count : A → ℕ) where
    abbrev counted : Option A → ℕ
    counted None = 0
    counted (Some x) = count x

    abbrev Counted : A → (A → A) → List A → Type 0
    Counted new over xs =
        counted (find (named name_of (name_of new)) (put_by name_of new over xs))
        ≡ suc (counted (find (named name_of (name_of new)) xs))

    counted_by : (new : A) (over : A → A) (x : A) (xs : List A) (o : Ordering)
        → Keeps name_of new over → count new ≡ 1 → ((y : A) → count (over y) ≡ suc (count y))
        → slice_cmp nat_cmp (name_of new) (name_of x) ≡ o → Ascend (x ∷ xs)
        → Counted new over xs
        → counted (find (named name_of (name_of new))
        (match_ordering o (new ∷ x ∷ xs) (over x ∷ xs) (x ∷ put_by name_of new over xs)))
        ≡ suc (counted (find (named name_of (name_of new)) (x ∷ xs)))
    counted_by new over x xs Less keeps one more is h rest =
        ap counted (taken name_of (named name_of (name_of new)) new (x ∷ xs)
        (same_text (name_of new) (name_of new) refl)) ∙ one
        ∙ ap (λ o. suc (counted o)) (sym (none_first (name_of new) (x ∷ xs)
        (is, first_of (name_of new) (name_of x) xs is h.0)))
    counted_by new over x xs Equal keeps one more is h rest =
        let same : name_of x ≡ name_of new = sym (equal_is new x is) in
        ap counted (taken name_of (named name_of (name_of new)) (over x) xs
        (same_text (name_of (over x)) (name_of new) (keeps x same))) ∙ more x
        ∙ ap (λ o. suc (counted o)) (sym (taken name_of (named name_of (name_of new)) x xs
        (same_text (name_of x) (name_of new) same)))
    counted_by new over x xs Greater keeps one more is h rest =
        let apart : bytes_eq (name_of x) (name_of new) ≡ false =
        text_order (name_of x) (name_of new) Less (before_is (name_of new) (name_of x) is) in
        ap counted (skipped name_of (named name_of (name_of new)) x (put_by name_of new over xs)
        apart) ∙ rest
        ∙ ap (λ o. suc (counted o))
        (sym (skipped name_of (named name_of (name_of new)) x xs apart))

    counted_put : (new : A) (over : A → A) (xs : List A) → Keeps name_of new over
        → count new ≡ 1 → ((y : A) → count (over y) ≡ suc (count y)) → Ascend xs
        → Counted new over xs
    counted_put new over [] keeps one more h =
        ap counted (taken name_of (named name_of (name_of new)) new []
        (same_text (name_of new) (name_of new) refl)) ∙ one
    counted_put new over (x ∷ xs) keeps one more h =
        counted_by new over x xs (slice_cmp nat_cmp (name_of new) (name_of x)) keeps one more refl
        h (counted_put new over xs keeps one more h.1)

-- ---- rows by name

latest_ascends_in : (row : Row) (b : Bool) (ls : List Latest) → Ascend row_name ls
    → Ascend row_name (if b then put_latest row ls else ls)
latest_ascends_in row true ls h = ascend_put row_name _ _ ls (λ x same. refl) h
latest_ascends_in row false ls h = h

latest_ascends : (is_kind : Row → Bool) (past : List Row)
    → Ascend row_name (latest is_kind past)
latest_ascends is_kind [] = tt
latest_ascends is_kind (row ∷ past) =
    latest_ascends_in row (is_kind row) (latest is_kind past) (latest_ascends is_kind past)

pub names_ascend : NamesAscend
names_ascend is_kind past i j a b =
    ascend_at row_name (latest is_kind past) i j a b (latest_ascends is_kind past)

abbrev count_in : Latest → ℕ
count_in l = l.count

counted_is : (o : Option Latest) → counted row_name count_in o ≡ count_of o
counted_is None = refl
counted_is (Some l) = refl

latest_counted : (row : Row) (ls : List Latest) → Ascend row_name ls
    → count_of (latest_of row.name (put_latest row ls)) ≡ suc (count_of (latest_of row.name ls))
latest_counted row ls h =
    sym (counted_is (latest_of row.name (put_latest row ls)))
    ∙ counted_put row_name count_in (record { row = row; count = 1 })
    (λ l. record { row = row; count = l.count + 1 }) ls (λ x same. refl) refl
    (λ l. omega arith) h
    ∙ ap suc (counted_is (latest_of row.name ls))

-- one more where the row has the name, and else as many
more_by : (row : Row) (name : List ℕ) (b : Bool) (after before : ℕ)
    → bytes_eq row.name name ≡ b → (b ≡ true → after ≡ suc before)
    → (b ≡ false → after ≡ before) → after ≡ (if b then suc before else before)
more_by row name true after before is h k = h refl
more_by row name false after before is h k = k refl

latest_count_by : (row : Row) (name : List ℕ) (ls : List Latest) → Ascend row_name ls
    → count_of (latest_of name (put_latest row ls))
    ≡ (if bytes_eq row.name name then suc (count_of (latest_of name ls))
    else count_of (latest_of name ls))
latest_count_by row name ls h =
    more_by row name (bytes_eq row.name name) (count_of (latest_of name (put_latest row ls)))
    (count_of (latest_of name ls)) refl
    (λ same. subst (λ n. count_of (latest_of n (put_latest row ls))
    ≡ suc (count_of (latest_of n ls))) (text_is row.name name same) (latest_counted row ls h))
    (λ other. ap count_of (put_other row_name name (record { row = row; count = 1 })
    (λ l. record { row = row; count = l.count + 1 }) ls (λ x same. refl) other))

-- the number of rows that meet a test, with one more row
kept_more : (p : Row → Bool) (row : Row) (past : List Row) (b : Bool) → p row ≡ b
    → length (filter p (row ∷ past))
    ≡ (if b then suc (length (filter p past)) else length (filter p past))
kept_more p row past true h =
    ap (λ c. length (if c then row ∷ filter p past else filter p past)) h
kept_more p row past false h =
    ap (λ c. length (if c then row ∷ filter p past else filter p past)) h

both_by : (b c : Bool) (n : ℕ)
    → (if b then (if c then suc n else n) else n) ≡ (if b && c then suc n else n)
both_by true c n = refl
both_by false c n = refl

latest_count_in : (row : Row) (name : List ℕ) (b : Bool) (ls : List Latest)
    → Ascend row_name ls
    → count_of (latest_of name (if b then put_latest row ls else ls))
    ≡ (if b then (if bytes_eq row.name name then suc (count_of (latest_of name ls))
    else count_of (latest_of name ls)) else count_of (latest_of name ls))
latest_count_in row name true ls h = latest_count_by row name ls h
latest_count_in row name false ls h = refl

pub counts_are_told : CountsAreTold
counts_are_told is_kind name [] = refl
counts_are_told is_kind name (row ∷ past) =
    let p : Row → Bool = λ r. is_kind r && bytes_eq r.name name in
    let ls : List Latest = latest is_kind past in
    latest_count_in row name (is_kind row) ls (latest_ascends is_kind past)
    ∙ both_by (is_kind row) (bytes_eq row.name name) (count_of (latest_of name ls))
    ∙ ap (λ n. if is_kind row && bytes_eq row.name name then suc n else n)
    (counts_are_told is_kind name past)
    ∙ sym (kept_more p row past (p row) refl)

-- ---- projects

abbrev nodes_count : LoggedProject → ℕ
nodes_count p = p.nodes.count

name_kept : (f : LoggedProject → LoggedProject) → KeepsNodes f → (p : LoggedProject)
    → project_name (f p) ≡ project_name p
name_kept f keeps p = ap (λ (l : Latest). l.row.name) (keeps p)

stays_first : (f : LoggedProject → LoggedProject) → KeepsNodes f → (name : List ℕ)
    (ps : List LoggedProject) → IsFirst project_name name ps
    → IsFirst project_name name (map f ps)
stays_first f keeps name [] h = tt
stays_first f keeps name (p ∷ ps) h =
    (ap (slice_cmp nat_cmp name) (name_kept f keeps p) ∙ h.0, stays_first f keeps name ps h.1)

still_ascend : (f : LoggedProject → LoggedProject) → KeepsNodes f → (ps : List LoggedProject)
    → Ascend project_name ps → Ascend project_name (map f ps)
still_ascend f keeps [] h = tt
still_ascend f keeps (p ∷ ps) h = (
  subst (λ n. IsFirst project_name n (map f ps)) (sym (name_kept f keeps p))
      (stays_first f keeps (project_name p) ps h.0),
  still_ascend f keeps ps h.1,
)

projects_ascend_in : (zones : List NamedZone) (row : Row) (b c d : Bool) (ps : List LoggedProject)
    → Ascend project_name ps
    → Ascend project_name
    (if b then put_nodes row ps else if c then map (with_jobs zones row) ps
    else if d then map (with_fire row) ps else ps)
projects_ascend_in zones row true c d ps h = ascend_put project_name _ _ ps (λ x same. refl) h
projects_ascend_in zones row false true d ps h =
    still_ascend (with_jobs zones row) (jobs_keep_nodes zones row) ps h
projects_ascend_in zones row false false true ps h =
    still_ascend (with_fire row) (fires_keep_nodes row) ps h
projects_ascend_in zones row false false false ps h = h

all_ascend : (past : List Row) → Ascend project_name (projects_at past)
all_ascend [] = tt
all_ascend (row ∷ past) =
    projects_ascend_in (zones_of (latest is_zone past)) row (is_nodes row) (is_jobs row)
    (is_fire row) (projects_at past) (all_ascend past)

pub projects_ascend : ProjectsAscend
projects_ascend past i j p q =
    ascend_at project_name (projects_at past) i j p q (all_ascend past)

nodes_counted_is : (o : Option LoggedProject)
    → counted project_name nodes_count o ≡ count_of (option_map (λ (p : LoggedProject). p.nodes) o)
nodes_counted_is None = refl
nodes_counted_is (Some p) = refl

abbrev number : List ℕ → List LoggedProject → ℕ
number name ps = count_of (latest_nodes name ps)

nodes_counted : (row : Row) (ps : List LoggedProject) → Ascend project_name ps
    → number row.name (put_nodes row ps) ≡ suc (number row.name ps)
nodes_counted row ps h =
    sym (nodes_counted_is (project_of row.name (put_nodes row ps)))
    ∙ counted_put project_name nodes_count
    (record { nodes = record { row = row; count = 1 }; jobs = [] })
    (λ p. record p { nodes = record { row = row; count = p.nodes.count + 1 } }) ps
    (λ x same. refl) refl (λ p. omega arith) h
    ∙ ap suc (nodes_counted_is (project_of row.name ps))

nodes_count_by : (row : Row) (name : List ℕ) (ps : List LoggedProject) → Ascend project_name ps
    → number name (put_nodes row ps)
    ≡ (if bytes_eq row.name name then suc (number name ps) else number name ps)
nodes_count_by row name ps h =
    more_by row name (bytes_eq row.name name) (number name (put_nodes row ps)) (number name ps)
    refl
    (λ same. subst (λ n. number n (put_nodes row ps) ≡ suc (number n ps))
    (text_is row.name name same) (nodes_counted row ps h))
    (λ other. ap (λ o. count_of (option_map (λ (p : LoggedProject). p.nodes) o))
    (put_other project_name name (record { nodes = record { row = row; count = 1 }; jobs = [] })
    (λ p. record p { nodes = record { row = row; count = p.nodes.count + 1 } }) ps
    (λ x same. refl) other))

same_count : (f : LoggedProject → LoggedProject) → KeepsNodes f → (name : List ℕ)
    (ps : List LoggedProject) → number name (map f ps) ≡ number name ps
same_count f keeps name [] = refl
same_count f keeps name (p ∷ ps) =
    count_by (bytes_eq (project_name p) name) (bytes_eq (project_name (f p)) name)
    (same_count f keeps name ps) refl refl
  where
    here : LoggedProject → Bool
    here q = bytes_eq (project_name q) name

    as_here : here (f p) ≡ here p
    as_here = ap (λ n. bytes_eq n name) (name_kept f keeps p)

    nodes_in : Option LoggedProject → ℕ
    nodes_in o = count_of (option_map (λ (q : LoggedProject). q.nodes) o)

    count_by : (b c : Bool) → number name (map f ps) ≡ number name ps
        → here p ≡ b → here (f p) ≡ c
        → number name (f p ∷ map f ps) ≡ number name (p ∷ ps)
    count_by b true rest h k =
        ap nodes_in (taken project_name here (f p) (map f ps) k)
        ∙ ap (λ (l : Latest). l.count) (keeps p)
        ∙ sym (ap nodes_in (taken project_name here p ps (sym as_here ∙ k)))
    count_by b false rest h k =
        ap nodes_in (skipped project_name here (f p) (map f ps) k)
        ∙ rest
        ∙ sym (ap nodes_in (skipped project_name here p ps (sym as_here ∙ k)))

nodes_count_in : (zones : List NamedZone) (row : Row) (name : List ℕ) (b c d : Bool)
    (ps : List LoggedProject) → Ascend project_name ps
    → number name (if b then put_nodes row ps else if c then map (with_jobs zones row) ps
    else if d then map (with_fire row) ps else ps)
    ≡ (if b then (if bytes_eq row.name name then suc (number name ps) else number name ps)
    else number name ps)
nodes_count_in zones row name true c d ps h = nodes_count_by row name ps h
nodes_count_in zones row name false true d ps h =
    same_count (with_jobs zones row) (jobs_keep_nodes zones row) name ps
nodes_count_in zones row name false false true ps h =
    same_count (with_fire row) (fires_keep_nodes row) name ps
nodes_count_in zones row name false false false ps h = refl

pub nodes_are_counted : NodesAreCounted
nodes_are_counted name [] = refl
nodes_are_counted name (row ∷ past) =
    let p : Row → Bool = λ r. is_nodes r && bytes_eq r.name name in
    let ps : List LoggedProject = projects_at past in
    nodes_count_in (zones_of (latest is_zone past)) row name (is_nodes row) (is_jobs row)
    (is_fire row) ps (all_ascend past)
    ∙ both_by (is_nodes row) (bytes_eq row.name name) (number name ps)
    ∙ ap (λ n. if is_nodes row && bytes_eq row.name name then suc n else n)
    (nodes_are_counted name past)
    ∙ sym (kept_more p row past (p row) refl)
