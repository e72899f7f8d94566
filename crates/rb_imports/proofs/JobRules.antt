-- The rules of an import of jobs on the projects of a world are those on what the log says.
use Rattle.std.specs.List.{list_any}
use Rattle.std.proofs.Common.{◌≡◌, ◌∙◌, ℕ, Bool, true, false, not, ◌||◌, List, [], ◌∷◌, ◌++◌, map, find, Option, Some, None, option_map, is_some, Result, Ok, Err, IsErrAnd, bytes_eq, slice_get, unwrap_or, zero, suc, ap, sym, subst, refl, arith, if◌then◌else◌}
use Rattle.rb_causes.specs.Texts.{has_text}
use Rattle.rb_causes.proofs.Texts.{same_text, text_turned}
use Rattle.rb_yaml.specs.Faults.{◌>>=◌}
use Rattle.rb_job.specs.declared.job.Job.{Job}
use Rattle.rb_plan.specs.Access.{Access}
use Rattle.rb_plan.specs.declared.world.Project.{Project}
use Rattle.rb_log.specs.Imports.{is_taken as logged_taken, ids_free as logged_ids, is_named_elsewhere, names_free, may_import_job, may_import_jobs, imported_job as logged_job, action_by}
use Rattle.rb_log.specs.Moves.{must}
use Rattle.rb_log.specs.World.{LoggedProject, project_name, project_with, held_under, job_id, latest_nodes}
use Rattle.rb_log.specs.declared.answer.Answer.{Answer}
use Rattle.rb_log.specs.declared.answer.Answer.TheVariants as answer
use Rattle.rb_tables.specs.Changes.{Keeps, IsRefusal}
use Rattle.rb_tables.proofs.Projects.{found_with}
use Rattle.rb_tables.proofs.Rights.{held_same}
use Rattle.rb_imports.specs.JobImports.{is_called, holds_elsewhere, is_taken, ids_free, has_other, name_free, each_keeps, may_import, imported_job}

-- ---- lists

any_map : {A B : Type 0} (f : A → B) (p : B → Bool) (xs : List A)
    → list_any p (map f xs) ≡ list_any (λ x. p (f x)) xs
any_map f p [] = refl
any_map f p (x ∷ xs) = ap (λ b. p (f x) || b) (any_map f p xs)

or_later : (a b c : Bool) → (a || (b || c)) ≡ (b || (a || c))
or_later true true c = refl
or_later true false c = refl
or_later false b c = refl

-- one more text behind is one more before
seen_more : (seen : List (List ℕ)) (id text : List ℕ)
    → has_text (seen ++ id ∷ []) text ≡ (bytes_eq text id || has_text seen text)
seen_more [] id text = ap (λ b. b || false) (text_turned id text)
seen_more (x ∷ seen) id text =
    ap (λ b. bytes_eq x text || b) (seen_more seen id text)
    ∙ or_later (bytes_eq x text) (bytes_eq text id) (has_text seen text)

-- ---- ids

abbrev Same : List (List ℕ) → List (List ℕ) → Type 0
Same seen earlier = (text : List ℕ) → has_text seen text ≡ list_any (bytes_eq text) earlier

more_same : (seen earlier : List (List ℕ)) (id : List ℕ) → Same seen earlier
    → Same (seen ++ id ∷ []) (id ∷ earlier)
more_same seen earlier id h text =
    seen_more seen id text ∙ ap (λ b. bytes_eq text id || b) (h text)

taken_same : (ps : List LoggedProject) (project : List ℕ) (seen earlier : List (List ℕ))
    (id : List ℕ) → Same seen earlier
    → is_taken (map project_with ps) project seen id ≡ logged_taken ps project earlier id
taken_same ps project seen earlier id h =
    ap (λ b. b || has_text seen id) (any_map project_with (holds_elsewhere project id) ps)
    ∙ ap (λ b. list_any (λ p. holds_elsewhere project id (project_with p)) ps || b) (h id)

pub ids_same : (ps : List LoggedProject) (project : List ℕ) (seen earlier ids : List (List ℕ))
    → Same seen earlier
    → ids_free (map project_with ps) project seen ids ≡ logged_ids ps project earlier ids
ids_same ps project seen earlier [] h = refl
ids_same ps project seen earlier (id ∷ ids) h =
    ap (λ b. must (not b) (answer.IdTaken id)
    >>= λ free. ids_free (map project_with ps) project (seen ++ id ∷ []) ids)
    (taken_same ps project seen earlier id h)
    ∙ ap (λ rest. must (not (logged_taken ps project earlier id)) (answer.IdTaken id)
    >>= λ free. rest)
    (ids_same ps project (seen ++ id ∷ []) (id ∷ earlier) ids (more_same seen earlier id h))

-- ---- names

pub names_same : (ps : List LoggedProject) (project : List ℕ) (jobs : List Job)
    → each_keeps (name_free (map project_with ps) project) jobs ≡ names_free ps project jobs
names_same ps project [] = refl
names_same ps project (job ∷ jobs) =
    ap (λ b. must (not b) (answer.NameTaken (job_id project job))
    >>= λ kept. each_keeps (name_free (map project_with ps) project) jobs)
    (any_map project_with (has_other project (job_id project job) job) ps)
    ∙ ap (λ rest. must (not (is_named_elsewhere ps project job))
    (answer.NameTaken (job_id project job)) >>= λ kept. rest)
    (names_same ps project jobs)

-- ---- what is held under an id

pub rights_same : (access : Access) (project : List ℕ) (ps : List LoggedProject)
    (jobs : List Job)
    → each_keeps (may_import access project (map project_with ps)) jobs
    ≡ may_import_jobs access project ps jobs
rights_same access project ps [] = refl
rights_same access project ps (job ∷ jobs) =
    ap (λ o. may_import_job access o job
    >>= λ kept. each_keeps (may_import access project (map project_with ps)) jobs)
    (held_same (job_id project job) ps)
    ∙ ap (λ rest. may_import_job access (held_under (job_id project job) ps) job
    >>= λ kept. rest)
    (rights_same access project ps jobs)

pub done_same : (project : List ℕ) (ps : List LoggedProject) (jobs : List Job)
    → map (imported_job project (map project_with ps)) jobs ≡ map (logged_job project ps) jobs
done_same project ps [] = refl
done_same project ps (job ∷ jobs) =
    ap (λ o. record { id = job_id project job; action = action_by o job }
    ∷ map (imported_job project (map project_with ps)) jobs)
    (held_same (job_id project job) ps)
    ∙ ap (λ rest. logged_job project ps job ∷ rest) (done_same project ps jobs)

-- ---- the project

some_map : {A B : Type 0} (f : A → B) (o : Option A) → is_some (option_map f o) ≡ is_some o
some_map f None = refl
some_map f (Some x) = refl

pub there_same : (name : List ℕ) (ps : List LoggedProject)
    → is_some (find (is_called name) (map project_with ps)) ≡ is_some (latest_nodes name ps)
there_same name ps =
    ap is_some (found_with name ps)
    ∙ some_map project_with (find (λ p. bytes_eq (project_name p) name) ps)
    ∙ sym (some_map (λ (p : LoggedProject). p.nodes)
    (find (λ p. bytes_eq (project_name p) name) ps))

-- what stands at a place of the world stands there in the log
pub record StandsAt (ps : List LoggedProject) (place : ℕ) (p : Project) : Type 0 where
  pub logged : LoggedProject
  pub found : slice_get ps place ≡ Some logged
  pub held : project_with logged ≡ p

pub stands_at : (ps : List LoggedProject) (place : ℕ) (p : Project)
    → slice_get (map project_with ps) place ≡ Some p → StandsAt ps place p
stands_at [] place p h = absurd (grind (arith, h))
stands_at (q ∷ ps) zero p h =
    record { logged = q; found = refl; held = ap (λ o. unwrap_or o p) h }
stands_at (q ∷ ps) (suc place) p h =
    let rest = stands_at ps place p h in
    record { logged = rest.logged; found = rest.found; held = rest.held }

-- one whose project is called so is there
there_by : (name : List ℕ) (ps : List LoggedProject) (place : ℕ) (q : LoggedProject)
    → slice_get ps place ≡ Some q → bytes_eq (project_name q) name ≡ true
    → is_some (find (λ p. bytes_eq (project_name p) name) ps) ≡ true
there_by name [] place q get is = absurd (grind (arith, get))
there_by name (p ∷ ps) zero q get is =
    here (bytes_eq (project_name p) name)
    (ap (λ o. bytes_eq (project_name (unwrap_or o q)) name) get ∙ is)
  where
    here : (b : Bool) → b ≡ true
        → is_some (if b then Some p else find (λ p. bytes_eq (project_name p) name) ps) ≡ true
    here true h = refl
    here false h = absurd (grind (arith, h))
there_by name (p ∷ ps) (suc place) q get is =
    here (bytes_eq (project_name p) name) (there_by name ps place q get is)
  where
    here : (b : Bool) → is_some (find (λ p. bytes_eq (project_name p) name) ps) ≡ true
        → is_some (if b then Some p else find (λ p. bytes_eq (project_name p) name) ps) ≡ true
    here true h = refl
    here false h = h

pub there : (name : List ℕ) (ps : List LoggedProject) (place : ℕ) (q : LoggedProject)
    → slice_get ps place ≡ Some q → project_name q ≡ name
    → is_some (latest_nodes name ps) ≡ true
there name ps place q get is =
    some_map (λ (p : LoggedProject). p.nodes) (find (λ p. bytes_eq (project_name p) name) ps)
    ∙ there_by name ps place q get (same_text (project_name q) name is)

-- ---- a rule that is handed on

pub keeps_err : {A : Type 0} (rule : Result Bool Answer) (r : Result A Answer) (a : Answer)
    → IsErrAnd r (λ x. x ≡ a) → IsRefusal rule a → Keeps rule r
keeps_err rule (Ok x) a h is = absurd h
keeps_err rule (Err x) a h is = subst (IsRefusal rule) (sym h) is
