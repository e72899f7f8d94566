-- What is held under a name is the last row of its kind with this name.
use Rattle.std.proofs.Common.{◌≡◌, ◌∙◌, ◌+◌, ℕ, List, [], ◌∷◌, map, find, Bool, true, false, ◌&&◌, cond, bytes_eq, Option, Some, None, option_map, ap, sym, subst, refl, arith, if◌then◌else◌}
use Rattle.std.specs.Ordering.{nat_cmp, match_ordering}
use Rattle.std.specs.Cmp.Lexicographic.{slice_cmp}
use Rattle.std.specs.declared.cmp.Ordering.{Ordering}
use Rattle.std.specs.declared.cmp.Ordering.TheVariants.{Less, Equal, Greater}
use Rattle.rb_causes.specs.declared.row.Row.{Row}
use Rattle.rb_causes.proofs.Texts.{text_is, same_text, text_order}
use Rattle.rb_cron.specs.declared.zone.NamedZone.{NamedZone}
use Rattle.rb_plan.specs.declared.world.HeldJob.{HeldJob}
use Rattle.rb_log.specs.Rows.{is_nodes, is_jobs, is_zone}
use Rattle.rb_log.specs.World.{Latest, LoggedProject, put_by, put_latest, latest, latest_of, row_name, put_nodes, put_jobs, jobs_in, project_name, with_jobs, with_fire, is_fire, zones_of, projects_at, project_of}
use Rattle.rb_log.specs.Laws.{LatestIsLast, NodesAreLast}

-- ---- texts

-- another text than one that is the same is another
apart : (a b name : List ℕ) → a ≡ b → bytes_eq a name ≡ false → bytes_eq b name ≡ false
apart a b name h k = ap (λ t. bytes_eq t name) (sym h) ∙ k

module _ {A : Type 0} (name_of : A → List ℕ) where
  abbrev pub named : List ℕ → A → Bool
  named name x = bytes_eq (name_of x) name

  -- what is made of one of the name keeps the name
  abbrev pub Keeps : A → (A → A) → Type 0
  Keeps new over = (x : A) → name_of x ≡ name_of new → name_of (over x) ≡ name_of new

  pub skipped : (p : A → Bool) (x : A) (xs : List A) → p x ≡ false → find p (x ∷ xs) ≡ find p xs
  skipped p x xs h = ap (λ b. cond b (Some x) (find p xs)) h

  pub taken : (p : A → Bool) (x : A) (xs : List A) → p x ≡ true → find p (x ∷ xs) ≡ Some x
  taken p x xs h = ap (λ b. cond b (Some x) (find p xs)) h

  -- ---- another name is found as before

  abbrev Other : List ℕ → A → (A → A) → List A → Type 0
  Other name new over xs =
      find (named name) (put_by name_of new over xs) ≡ find (named name) xs

  other_by : (name : List ℕ) (new : A) (over : A → A) (x : A) (xs : List A) (o : Ordering)
      → Keeps new over → named name new ≡ false → slice_cmp nat_cmp (name_of new) (name_of x) ≡ o
      → Other name new over xs
      → find (named name)
      (match_ordering o (new ∷ x ∷ xs) (over x ∷ xs) (x ∷ put_by name_of new over xs))
      ≡ find (named name) (x ∷ xs)
  other_by name new over x xs Less keeps differs is more = skipped (named name) new (x ∷ xs) differs
  other_by name new over x xs Equal keeps differs is more =
      let same : name_of new ≡ name_of x =
      text_is (name_of new) (name_of x) (text_order (name_of new) (name_of x) Equal is) in
      skipped (named name) (over x) xs
      (apart (name_of new) (name_of (over x)) name (sym (keeps x (sym same))) differs)
      ∙ sym (skipped (named name) x xs (apart (name_of new) (name_of x) name same differs))
  other_by name new over x xs Greater keeps differs is more =
      ap (λ found. cond (named name x) (Some x) found) more

  pub put_other : (name : List ℕ) (new : A) (over : A → A) (xs : List A) → Keeps new over
      → named name new ≡ false → Other name new over xs
  put_other name new over [] keeps differs = skipped (named name) new [] differs
  put_other name new over (x ∷ xs) keeps differs =
      other_by name new over x xs (slice_cmp nat_cmp (name_of new) (name_of x)) keeps differs refl
      (put_other name new over xs keeps differs)

  -- ---- the name that was put is found

  module _ {B : Type 0} (f : A → B) where
    abbrev Put : A → (A → A) → List A → Type 0
    Put new over xs =
        option_map f (find (named (name_of new)) (put_by name_of new over xs)) ≡ Some (f new)

    put_by_order : (new : A) (over : A → A) (x : A) (xs : List A) (o : Ordering)
        → Keeps new over → ((y : A) → f (over y) ≡ f new)
        → slice_cmp nat_cmp (name_of new) (name_of x) ≡ o → Put new over xs
        → option_map f (find (named (name_of new))
        (match_ordering o (new ∷ x ∷ xs) (over x ∷ xs) (x ∷ put_by name_of new over xs)))
        ≡ Some (f new)
    put_by_order new over x xs Less keeps made is more =
        ap (option_map f) (taken (named (name_of new)) new (x ∷ xs)
        (same_text (name_of new) (name_of new) refl))
    put_by_order new over x xs Equal keeps made is more =
        let same : name_of new ≡ name_of x =
        text_is (name_of new) (name_of x) (text_order (name_of new) (name_of x) Equal is) in
        ap (option_map f) (taken (named (name_of new)) (over x) xs
        (same_text (name_of (over x)) (name_of new) (keeps x (sym same)))) ∙ ap Some (made x)
    put_by_order new over x xs Greater keeps made is more =
        let differs : bytes_eq (name_of x) (name_of new) ≡ false =
        not_same (bytes_eq (name_of x) (name_of new)) refl in
        ap (option_map f) (skipped (named (name_of new)) x (put_by name_of new over xs) differs)
        ∙ more
      where
        not_same : (b : Bool) → bytes_eq (name_of x) (name_of new) ≡ b
            → bytes_eq (name_of x) (name_of new) ≡ false
        not_same false h = h
        not_same true h =
            let wrong : true ≡ false =
            sym (same_text (name_of new) (name_of x) (sym (text_is (name_of x) (name_of new) h)))
            ∙ text_order (name_of new) (name_of x) Greater is in
            absurd (grind (arith, wrong))

    put_same : (new : A) (over : A → A) (xs : List A) → Keeps new over
        → ((y : A) → f (over y) ≡ f new) → Put new over xs
    put_same new over [] keeps made =
        ap (option_map f) (taken (named (name_of new)) new []
        (same_text (name_of new) (name_of new) refl))
    put_same new over (x ∷ xs) keeps made =
        put_by_order new over x xs (slice_cmp nat_cmp (name_of new) (name_of x)) keeps made refl
        (put_same new over xs keeps made)

-- ---- what is found behind a row of its kind

-- the row of this name is found first, or what was found before
pub first_by : (row : Row) (name : List ℕ) (b : Bool) (held : Option Row) (before : Option Row)
    → bytes_eq row.name name ≡ b → (b ≡ true → held ≡ Some row) → (b ≡ false → held ≡ before)
    → held ≡ cond b (Some row) before
first_by row name true held before is h k = h refl
first_by row name false held before is h k = k refl

abbrev row_in : Latest → Row
row_in l = l.row

latest_by : (row : Row) (name : List ℕ) (ls : List Latest)
    → option_map row_in (latest_of name (put_latest row ls))
    ≡ cond (bytes_eq row.name name) (Some row) (option_map row_in (latest_of name ls))
latest_by row name ls =
    let new : Latest = record { row = row; count = 1 } in
    let over : Latest → Latest = λ l. record { row = row; count = l.count + 1 } in
    first_by row name (bytes_eq row.name name)
    (option_map row_in (latest_of name (put_latest row ls)))
    (option_map row_in (latest_of name ls)) refl
    (λ h. subst (λ n. option_map row_in (latest_of n (put_latest row ls)) ≡ Some row)
    (text_is row.name name h)
    (put_same row_name row_in new over ls (λ x h. refl) (λ x. refl)))
    (λ h. ap (option_map row_in) (put_other row_name name new over ls (λ x h. refl) h))

-- where the row is of the kind, or of another
latest_in : (row : Row) (name : List ℕ) (b : Bool) (ls : List Latest) (before : Option Row)
    → option_map row_in (latest_of name ls) ≡ before
    → option_map row_in (latest_of name (if b then put_latest row ls else ls))
    ≡ cond (b && bytes_eq row.name name) (Some row) before
latest_in row name true ls before h =
    latest_by row name ls ∙ ap (λ o. cond (bytes_eq row.name name) (Some row) o) h
latest_in row name false ls before h = h

pub latest_is_last : LatestIsLast
latest_is_last is_kind name [] = refl
latest_is_last is_kind name (row ∷ past) =
    latest_in row name (is_kind row) (latest is_kind past)
    (find (λ r. is_kind r && bytes_eq r.name name) past) (latest_is_last is_kind name past)

-- ---- the nodes of projects

abbrev nodes_in : LoggedProject → Row
nodes_in p = p.nodes.row

-- it leaves the nodes of each project, and so its name
abbrev pub KeepsNodes : (LoggedProject → LoggedProject) → Type 0
KeepsNodes f = (p : LoggedProject) → (f p).nodes ≡ p.nodes

kept_if : (b : Bool) (p : LoggedProject) (jobs : List HeldJob)
    → (if b then record p { jobs = jobs } else p).nodes ≡ p.nodes
kept_if true p jobs = refl
kept_if false p jobs = refl

pub jobs_keep_nodes : (zones : List NamedZone) (row : Row) → KeepsNodes (with_jobs zones row)
jobs_keep_nodes zones row p =
    kept_if (bytes_eq (project_name p) row.name) p (put_jobs row (jobs_in zones row) p.jobs)

pub fires_keep_nodes : (row : Row) → KeepsNodes (with_fire row)
fires_keep_nodes row p = refl

module _ (row : Row) (name : List ℕ) where
  abbrev found : List LoggedProject → Option Row
  found ps = option_map nodes_in (project_of name ps)

  kept_at : (f : LoggedProject → LoggedProject) → KeepsNodes f → (p : LoggedProject)
      (ps : List LoggedProject) → found (map f ps) ≡ found ps
      → found (f p ∷ map f ps) ≡ found (p ∷ ps)
  kept_at f keeps p ps more =
      kept_in (bytes_eq (project_name p) name) (bytes_eq (project_name (f p)) name) refl refl
    where
      named_so : LoggedProject → Bool
      named_so q = bytes_eq (project_name q) name

      as_named : named_so (f p) ≡ named_so p
      as_named = ap (λ (l : Latest). bytes_eq l.row.name name) (keeps p)

      kept_in : (b c : Bool) → named_so p ≡ b → named_so (f p) ≡ c
          → found (f p ∷ map f ps) ≡ found (p ∷ ps)
      kept_in b true h k =
          ap (option_map nodes_in) (taken project_name named_so (f p) (map f ps) k)
          ∙ ap (λ (l : Latest). Some l.row) (keeps p)
          ∙ sym (ap (option_map nodes_in)
          (taken project_name named_so p ps (sym as_named ∙ k)))
      kept_in b false h k =
          ap (option_map nodes_in) (skipped project_name named_so (f p) (map f ps) k)
          ∙ more
          ∙ sym (ap (option_map nodes_in)
          (skipped project_name named_so p ps (sym as_named ∙ k)))

  nodes_stay : (f : LoggedProject → LoggedProject) → KeepsNodes f → (ps : List LoggedProject)
      → found (map f ps) ≡ found ps
  nodes_stay f keeps [] = refl
  nodes_stay f keeps (p ∷ ps) = kept_at f keeps p ps (nodes_stay f keeps ps)

  nodes_by : (ps : List LoggedProject)
      → found (put_nodes row ps) ≡ cond (bytes_eq row.name name) (Some row) (found ps)
  nodes_by ps =
      let new : LoggedProject =
      record { nodes = record { row = row; count = 1 }; jobs = [] } in
      let over : LoggedProject → LoggedProject =
      λ p. record p { nodes = record { row = row; count = p.nodes.count + 1 } } in
      first_by row name (bytes_eq row.name name) (found (put_nodes row ps)) (found ps) refl
      (λ h. subst (λ n. option_map nodes_in (project_of n (put_nodes row ps)) ≡ Some row)
      (text_is row.name name h)
      (put_same project_name nodes_in new over ps (λ x h. refl) (λ x. refl)))
      (λ h. ap (option_map nodes_in)
      (put_other project_name name new over ps (λ x h. refl) h))

  nodes_of : (zones : List NamedZone) (b c d : Bool) (ps : List LoggedProject)
      (before : Option Row) → found ps ≡ before
      → found (if b then put_nodes row ps else if c then map (with_jobs zones row) ps
      else if d then map (with_fire row) ps else ps)
      ≡ cond (b && bytes_eq row.name name) (Some row) before
  nodes_of zones true c d ps before h =
      nodes_by ps ∙ ap (λ o. cond (bytes_eq row.name name) (Some row) o) h
  nodes_of zones false true d ps before h =
      nodes_stay (with_jobs zones row) (jobs_keep_nodes zones row) ps ∙ h
  nodes_of zones false false true ps before h =
      nodes_stay (with_fire row) (fires_keep_nodes row) ps ∙ h
  nodes_of zones false false false ps before h = h

nodes_at : (name : List ℕ) (past : List Row)
    → option_map nodes_in (project_of name (projects_at past))
    ≡ find (λ row. is_nodes row && bytes_eq row.name name) past
nodes_at name [] = refl
nodes_at name (row ∷ past) =
    nodes_of row name (zones_of (latest is_zone past)) (is_nodes row) (is_jobs row) (is_fire row)
    (projects_at past)
    (find (λ r. is_nodes r && bytes_eq r.name name) past) (nodes_at name past)

twice : (o : Option LoggedProject)
    → option_map row_in (option_map (λ (p : LoggedProject). p.nodes) o) ≡ option_map nodes_in o
twice None = refl
twice (Some p) = refl

pub nodes_are_last : NodesAreLast
nodes_are_last name past = twice (project_of name (projects_at past)) ∙ nodes_at name past
