-- What is shown of a project is what the rules show.
use Rattle.std.proofs.Common.{◌≡◌, ◌∙◌, ℕ, Bool, true, false, ◌&&◌, List, [], ◌∷◌, map, filter, find, reverse, cond, bytes_eq, codes, is_some, Option, Some, None, option_map, Ok, ap, sym, subst, refl}
use Rattle.std.specs.List.{list_any}
use Rattle.rb_yaml.specs.Faults.{◌>>=◌}
use Rattle.rb_acl.specs.declared.policy.Caller.{Caller}
use Rattle.rb_causes.specs.declared.row.Row.{Row}
use Rattle.rb_causes.proofs.Lists.{list_any-map}
use Rattle.rb_marks.specs.declared.mark.Status.{Status}
use Rattle.rb_plan.specs.Access.{Access}
use Rattle.rb_plan.specs.declared.world.Project.{Project}
use Rattle.rb_plan.specs.declared.world.World.{World}
use Rattle.rb_log.specs.Executions.{Execution, executions}
use Rattle.rb_log.specs.LogState.{LogState, log_state, world_of}
use Rattle.rb_log.specs.Looks.{has_status, is_of_jobs, job_views, look_at, may_read_job, may_read_node, nodes_of, page_of, readable_in}
use Rattle.rb_log.specs.Moves.{must, only, moved_or, permitted_on_kind}
use Rattle.rb_log.specs.World.{LoggedProject, job_in, project_name, project_of, project_with}
use Rattle.rb_log.specs.declared.answer.Answer.{Answer}
use Rattle.rb_log.specs.declared.answer.Answer.TheVariants as answer
use Rattle.rb_log.specs.declared.call.Look.TheVariants as looks
use Rattle.rb_log.specs.declared.shown.Shown.{Shown}
use Rattle.rb_log.specs.declared.shown.Shown.TheVariants as shown
use Rattle.rb_tables.specs.Changes.{IsRefusal, IsAnswerOf}
use Rattle.rb_tables.specs.Rights.{access_in_project}
use Rattle.rb_looks.specs.Looking.{choice_in, chosen_newest_first, executions_in, if_there, is_chosen, job_ids, jobs_looked_at, may_read, nodes_by, nodes_looked_at, project_named, readable_jobs}
use Rattle.rb_tables.specs.Tables.{IsTabled}
use Rattle.rb_tables.specs.declared.tables.Tables.{Tables}
use Rattle.rb_looks.specs.declared.shown_executions.PageChoice.{PageChoice}
use Rattle.rb_looks.proofs.Shows.{refused_told}

-- ---- a project

project_first : (b : Bool) (p : LoggedProject) (o : Option Project) (q : Option LoggedProject)
    → o ≡ option_map project_with q
    → cond b (Some (project_with p)) o ≡ option_map project_with (cond b (Some p) q)
project_first true p o q h = refl
project_first false p o q h = h

-- it is found where it is held
project_is : (name : List ℕ) (ps : List LoggedProject)
    → find (λ p. bytes_eq p.name name) (map project_with ps)
    ≡ option_map project_with (project_of name ps)
project_is name [] = refl
project_is name (p ∷ ps) =
    project_first (bytes_eq (project_name p) name) p
    (find (λ p. bytes_eq p.name name) (map project_with ps)) (project_of name ps)
    (project_is name ps)

pub nodes_denied : (world : World) (caller : Caller) (name : List ℕ) (p : Project) (a : Answer)
    → Some p ≡ project_named world name
    → IsRefusal
    (permitted_on_kind (access_in_project world name caller) (codes "read") (codes "node")) a
    → IsAnswerOf (nodes_looked_at world caller name) a
nodes_denied world caller name p a found h =
    let access : Access = access_in_project world name caller in
    subst (λ o. IsAnswerOf (if_there o (nodes_by access)) a) found
    (refused_told (permitted_on_kind access (codes "read") (codes "node"))
    (λ permission. Ok (only (answer.Shown (shown.Resources
    (filter (may_read_node access) p.inventory.nodes))))) a h)

pub page_told : (world : World) (es : List Execution) (caller : Caller) (name : List ℕ)
    (max offset : ℕ) (status : Option Status) (p : Project) (choice : PageChoice) (view : Shown)
    → Some p ≡ project_named world name
    → choice ≡ choice_in (access_in_project world p.name caller) p max offset status
    → view ≡ page_of (chosen_newest_first choice es) choice.max choice.offset
    → executions_in world es caller name max offset status ≡ only (answer.Shown view)
page_told world es caller name max offset status p choice view found choice_is view_is =
    ap (λ o. if_there o (λ p. only (answer.Shown (page_of
    (chosen_newest_first (choice_in (access_in_project world p.name caller) p max offset status) es) max offset))))
    (sym found)
    ∙ ap (λ v. only (answer.Shown v))
    (sym (view_is ∙ ap (λ c. page_of (chosen_newest_first c es) c.max c.offset) choice_is))

-- ---- the jobs of a project that may be read

kept_first : {A B : Type 0} (b : Bool) (f : A → B) (x : A) (xs : List A) (ys : List B)
    → map f xs ≡ ys → map f (cond b (x ∷ xs) xs) ≡ cond b (f x ∷ ys) ys
kept_first true f x xs ys h = ap (λ zs. f x ∷ zs) h
kept_first false f x xs ys h = h

-- to look at each that is kept is to keep of what each looks like
kept_in : {A B : Type 0} (q : B → Bool) (f : A → B) (xs : List A)
    → map f (filter (λ x. q (f x)) xs) ≡ filter q (map f xs)
kept_in q f [] = refl
kept_in q f (x ∷ xs) =
    kept_first (q (f x)) f x (filter (λ x. q (f x)) xs) (filter q (map f xs)) (kept_in q f xs)

-- a test that tells the same keeps the same
alike : {A : Type 0} (p q : A → Bool) (xs : List A) → ((x : A) → p x ≡ q x)
    → filter p xs ≡ filter q xs
alike p q [] same = refl
alike p q (x ∷ xs) same =
    ap (λ b. cond b (x ∷ filter p xs) (filter p xs)) (same x)
    ∙ ap (λ ys. cond (q x) (x ∷ ys) ys) (alike p q xs same)

module _ (s : LogState) (caller : Caller) where
  abbrev here : LoggedProject → Access
  here p = access_in_project (world_of s) (project_name p) caller

  readable_is : (p : LoggedProject)
      → readable_jobs (here p) (project_with p) ≡ readable_in s caller (Some p)
  readable_is p = kept_in (may_read_job s caller) (job_in p) p.jobs

  jobs_by : (o : Option LoggedProject)
      → if_there (option_map project_with o) (λ p. only (answer.Shown (shown.Jobs (job_views
      (readable_jobs (access_in_project (world_of s) p.name caller) p)))))
      ≡ moved_or (must (is_some (option_map (λ p. p.nodes) o)) answer.NoProject >>= λ there.
      Ok (only (answer.Shown (shown.Jobs (job_views (readable_in s caller o))))))
  jobs_by None = refl
  jobs_by (Some p) = ap (λ ps. only (answer.Shown (shown.Jobs (job_views ps)))) (readable_is p)

  jobs_shown : (name : List ℕ)
      → jobs_looked_at (world_of s) caller name ≡ look_at s caller (looks.Jobs name)
  jobs_shown name =
      ap (λ o. if_there o (λ p. only (answer.Shown (shown.Jobs (job_views
      (readable_jobs (access_in_project (world_of s) p.name caller) p))))))
      (project_is name s.projects)
      ∙ jobs_by (project_of name s.projects)

  nodes_found : (name : List ℕ) (o : Option LoggedProject)
      → if_there (option_map project_with o) (nodes_by (access_in_project (world_of s) name caller))
      ≡ moved_or (must (is_some (option_map (λ p. p.nodes) o)) answer.NoProject >>= λ there.
      permitted_on_kind (access_in_project (world_of s) name caller) (codes "read") (codes "node")
      >>= λ permission.
      Ok (only (answer.Shown (shown.Resources
      (filter (may_read_node (access_in_project (world_of s) name caller))
      (nodes_of (option_map (λ p. p.nodes) o)))))))
  nodes_found name None = refl
  nodes_found name (Some p) = refl

  nodes_shown : (name : List ℕ)
      → nodes_looked_at (world_of s) caller name ≡ look_at s caller (looks.Resources name)
  nodes_shown name =
      ap (λ o. if_there o (nodes_by (access_in_project (world_of s) name caller)))
      (project_is name s.projects)
      ∙ nodes_found name (project_of name s.projects)

  -- an execution of a job whose id is one of these is of one of these jobs
  is_of : (p : LoggedProject) (e : Execution)
      → list_any (λ id. bytes_eq id e.accepted.job) (job_ids (filter (may_read (here p)) p.jobs))
      ≡ is_of_jobs (readable_in s caller (Some p)) e
  is_of p e =
      list_any-map (λ id. bytes_eq id e.accepted.job) (λ held. held.id)
      (filter (may_read (here p)) p.jobs)
      ∙ sym (list_any-map (λ j. bytes_eq j.held.id e.accepted.job) (job_in p)
      (filter (may_read (here p)) p.jobs))
      ∙ ap (λ js. is_of_jobs js e) (readable_is p)

  page_by : (max offset : ℕ) (status : Option Status) (o : Option LoggedProject)
      → if_there (option_map project_with o) (λ p. only (answer.Shown (page_of
      (chosen_newest_first (choice_in (access_in_project (world_of s) p.name caller) p max offset status) s.executions)
      max offset)))
      ≡ moved_or (must (is_some (option_map (λ p. p.nodes) o)) answer.NoProject >>= λ there.
      Ok (only (answer.Shown (page_of
      (filter (λ e. is_of_jobs (readable_in s caller o) e && has_status status e)
      (reverse s.executions)) max offset))))
  page_by max offset status None = refl
  page_by max offset status (Some p) =
      ap (λ es. only (answer.Shown (page_of es max offset)))
      (alike (is_chosen (choice_in (here p) (project_with p) max offset status))
      (λ e. is_of_jobs (readable_in s caller (Some p)) e && has_status status e)
      (reverse s.executions) (λ e. ap (λ b. b && has_status status e) (is_of p e)))

  executions_shown : (name : List ℕ) (max offset : ℕ) (status : Option Status)
      → executions_in (world_of s) s.executions caller name max offset status
      ≡ look_at s caller (looks.Executions name max offset status)
  executions_shown name max offset status =
      ap (λ o. if_there o (λ p. only (answer.Shown (page_of
      (chosen_newest_first (choice_in (access_in_project (world_of s) p.name caller) p max offset status) s.executions)
      max offset))))
      (project_is name s.projects)
      ∙ page_by max offset status (project_of name s.projects)

-- ---- what the tables show

module _ (t : Tables) (past : List Row) (caller : Caller) (tabled : IsTabled t past) where
  pub jobs_are_shown : (name : List ℕ)
      → jobs_looked_at t.world caller name ≡ look_at (log_state past) caller (looks.Jobs name)
  jobs_are_shown name =
      ap (λ w. jobs_looked_at w caller name) tabled.says.world ∙ jobs_shown (log_state past) caller name

  pub nodes_are_shown : (name : List ℕ)
      → nodes_looked_at t.world caller name ≡ look_at (log_state past) caller (looks.Resources name)
  nodes_are_shown name =
      ap (λ w. nodes_looked_at w caller name) tabled.says.world
      ∙ nodes_shown (log_state past) caller name

  pub executions_are_shown : (name : List ℕ) (max offset : ℕ) (status : Option Status)
      → executions_in t.world (executions past) caller name max offset status
      ≡ look_at (log_state past) caller (looks.Executions name max offset status)
  executions_are_shown name max offset status =
      ap (λ w. executions_in w (executions past) caller name max offset status)
      tabled.says.world
      ∙ executions_shown (log_state past) caller name max offset status
