-- The world of a desk is the one that its log says.
use Rattle.std.proofs.Common.{◌≡◌, ◌∙◌, ◌+◌, ℕ, List, [], ◌∷◌, map, ap, sym, refl}
use Rattle.std.specs.Ordering.{nat_cmp, match_ordering}
use Rattle.std.specs.Cmp.Lexicographic.{slice_cmp}
use Rattle.std.specs.declared.cmp.Ordering.{Ordering}
use Rattle.std.specs.declared.cmp.Ordering.TheVariants.{Less, Equal, Greater}
use Rattle.rb_causes.specs.declared.row.Row.{Row}
use Rattle.rb_cron.specs.declared.zone.NamedZone.{NamedZone}
use Rattle.rb_job.specs.declared.job.Job.{Job}
use Rattle.rb_plan.specs.declared.world.HeldJob.{HeldJob}
use Rattle.rb_log.specs.Rows.{row_caller}
use Rattle.rb_log.specs.World.{Latest, LoggedProject, put_by, put_latest, put_nodes, row_name, project_name as logged_name, project_with, inventory_in, put_job, put_jobs, imported_by, zone_in, zones_of}
use Rattle.rb_tables.specs.Worlds.{project_name, put_project, put_zone, put_each, held_by}
use Rattle.rb_changes.proofs.Puts.{same_name}

module _ {A B : Type 0} (name_of : A → List ℕ) (name_in : B → List ℕ) (f : A → B) where
  abbrev Commutes : A → (A → A) → (B → B) → List A → Type 0
  Commutes new over other xs =
      map f (put_by name_of new over xs) ≡ put_by name_in (f new) other (map f xs)

  put_map_by : (new : A) (over : A → A) (other : B → B) (x : A) (xs : List A) (o : Ordering)
      → ((y : A) → name_of y ≡ name_of new → f (over y) ≡ other (f y))
      → slice_cmp nat_cmp (name_of new) (name_of x) ≡ o → Commutes new over other xs
      → map f (match_ordering o (new ∷ x ∷ xs) (over x ∷ xs) (x ∷ put_by name_of new over xs))
      ≡ match_ordering o (f new ∷ f x ∷ map f xs) (other (f x) ∷ map f xs)
      (f x ∷ put_by name_in (f new) other (map f xs))
  put_map_by new over other x xs Less same is more = refl
  put_map_by new over other x xs Equal same is more =
      ap (λ y. y ∷ map f xs) (same x (sym (same_name (name_of new) (name_of x) is)))
  put_map_by new over other x xs Greater same is more = ap (λ ys. f x ∷ ys) more

  -- to put and then to look at each is to look at each and then to put
  pub put_map : (new : A) (over : A → A) (other : B → B) (xs : List A)
      → ((y : A) → name_of y ≡ name_in (f y))
      → ((y : A) → name_of y ≡ name_of new → f (over y) ≡ other (f y))
      → Commutes new over other xs
  put_map new over other [] named same = refl
  put_map new over other (x ∷ xs) named same =
      put_map_by new over other x xs (slice_cmp nat_cmp (name_of new) (name_of x)) same refl
      (put_map new over other xs named same)
      ∙ ap (λ o. match_ordering o (f new ∷ f x ∷ map f xs) (other (f x) ∷ map f xs)
      (f x ∷ put_by name_in (f new) other (map f xs)))
      (ap (λ n. slice_cmp nat_cmp n (name_of x)) (named new)
      ∙ ap (slice_cmp nat_cmp (name_in (f new))) (named x))

-- a row of nodes puts its project
pub nodes_put : (row : Row) (ps : List LoggedProject)
    → map project_with (put_nodes row ps)
    ≡ put_project row.name (inventory_in row) (map project_with ps)
nodes_put row ps =
    put_map logged_name project_name project_with
    (record { nodes = record { row = row; count = 1 }; jobs = [] })
    (λ p. record p { nodes = record { row = row; count = p.nodes.count + 1 } })
    (λ p. record p {
      inventory = inventory_in row;
      inventory_number = p.inventory_number + 1;
    }) ps (λ p. refl) (λ p h. ap (λ name. record {
      name = name;
      inventory = inventory_in row;
      inventory_number = p.nodes.count + 1;
      jobs = p.jobs;
    }) (sym h))

abbrev nodes_of : LoggedProject → Latest
nodes_of p = p.nodes

-- and the last row of its name
pub nodes_latest : (row : Row) (ps : List LoggedProject)
    → map nodes_of (put_nodes row ps) ≡ put_latest row (map nodes_of ps)
nodes_latest row ps =
    put_map logged_name row_name nodes_of
    (record { nodes = record { row = row; count = 1 }; jobs = [] })
    (λ p. record p { nodes = record { row = row; count = p.nodes.count + 1 } })
    (λ l. record { row = row; count = l.count + 1 }) ps (λ p. refl) (λ p h. refl)

-- the jobs of a row are put as they are held
pub jobs_put : (row : Row) (jobs : List Job) (held : List HeldJob)
    → put_jobs row jobs held ≡ put_each (map (held_by row.name (row_caller row) row.at) jobs) held
jobs_put row [] held = refl
jobs_put row (job ∷ jobs) held = jobs_put row jobs (put_job (imported_by row job) held)

abbrev zone_name : NamedZone → List ℕ
zone_name z = z.name

-- a zone as a row imports it
abbrev pub zone_of : Row → NamedZone
zone_of row = record { name = row.name; rule = row.body; zone = row.body }

-- a row of a zone puts it
pub zones_put : (row : Row) (ls : List Latest)
    → zones_of (put_latest row ls) ≡ put_zone (zone_of row) (zones_of ls)
zones_put row ls =
    put_map row_name zone_name zone_in (record { row = row; count = 1 })
    (λ l. record { row = row; count = l.count + 1 }) (λ z. zone_of row) ls (λ l. refl)
    (λ l h. refl)
