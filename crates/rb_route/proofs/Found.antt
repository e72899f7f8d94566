-- What the router finds is what a path asks for.
use Rattle.std.proofs.Common.{◌≡◌, ◌∙◌, ℕ, Bool, true, false, cond, bytes_eq, List, [], ◌∷◌, ◌++◌, codes, Option, Some, None, option_map, ap, sym, subst, refl}
use Rattle.std.specs.Option.{option_and_then}
use Rattle.matchit.specs.Level.{IsText}
use Rattle.matchit.specs.Rows.{RowsOf}
use Rattle.matchit.specs.Seek.{or_else, seek}
use Rattle.rb_causes.proofs.Texts.{text_is}
use Rattle.rb_route.specs.Router.{asked_in}
use Rattle.rb_route.specs.Routes.{Asked, asked_among, path_pieces, patterns}
use Rattle.rb_route.specs.declared.route.Route.{Route}
use Rattle.rb_route.specs.declared.route.Route.TheVariants.{Run, Execution, State, Abort, Jobs, ImportJobs, Resources, Executions, ImportPolicy}
use Rattle.rb_route.proofs.Seeking.{on, pre, none_found, or_none}
use Rattle.rb_route.proofs.Cutting.{piece, behind, slashed, goes, part, seek_part}
use Rattle.rb_route.proofs.Words.{IsPiece, more_pieces, pieces_are, text_behind, seek_slashed, seek_either}

-- ---- the words of the patterns

is_abort : IsPiece (codes "abort")
is_abort = (refl, refl, refl, (refl, refl, refl, (refl, refl, refl, (refl, refl, refl, (refl, refl, refl, tt)))))

is_state : IsPiece (codes "state")
is_state = (refl, refl, refl, (refl, refl, refl, (refl, refl, refl, (refl, refl, refl, (refl, refl, refl, tt)))))

is_run : IsPiece (codes "run")
is_run = (refl, refl, refl, (refl, refl, refl, (refl, refl, refl, tt)))

is_executions : IsPiece (codes "executions")
is_executions = (refl, refl, refl, (refl, refl, refl, (refl, refl, refl, (refl, refl, refl, (refl, refl, refl, (refl, refl, refl, (refl, refl, refl, (refl, refl, refl, (refl, refl, refl, (refl, refl, refl, tt))))))))))

is_jobs : IsPiece (codes "jobs")
is_jobs = (refl, refl, refl, (refl, refl, refl, (refl, refl, refl, (refl, refl, refl, tt))))

is_import : IsPiece (codes "import")
is_import = (refl, refl, refl, (refl, refl, refl, (refl, refl, refl, (refl, refl, refl, (refl, refl, refl, (refl, refl, refl, tt))))))

is_resources : IsPiece (codes "resources")
is_resources = (refl, refl, refl, (refl, refl, refl, (refl, refl, refl, (refl, refl, refl, (refl, refl, refl, (refl, refl, refl, (refl, refl, refl, (refl, refl, refl, (refl, refl, refl, tt)))))))))

is_execution : IsPiece (codes "execution")
is_execution = (refl, refl, refl, (refl, refl, refl, (refl, refl, refl, (refl, refl, refl, (refl, refl, refl, (refl, refl, refl, (refl, refl, refl, (refl, refl, refl, (refl, refl, refl, tt)))))))))

is_job : IsPiece (codes "job")
is_job = (refl, refl, refl, (refl, refl, refl, (refl, refl, refl, tt)))

is_project : IsPiece (codes "project")
is_project = (refl, refl, refl, (refl, refl, refl, (refl, refl, refl, (refl, refl, refl, (refl, refl, refl, (refl, refl, refl, (refl, refl, refl, tt)))))))

is_system : IsPiece (codes "system")
is_system = (refl, refl, refl, (refl, refl, refl, (refl, refl, refl, (refl, refl, refl, (refl, refl, refl, (refl, refl, refl, tt))))))

is_acl : IsPiece (codes "acl")
is_acl = (refl, refl, refl, (refl, refl, refl, (refl, refl, refl, tt)))

is_api : IsPiece (codes "api")
is_api = (refl, refl, refl, (refl, refl, refl, (refl, refl, refl, tt)))

module _ {K : Type 0} (entry : Route → K) (value : K → Route)
    (same : (r : Route) → value (entry r) ≡ r) where
  -- ---- the rows of the router

  abbrev leaf : Route → RowsOf K
  leaf r = slashed [] (Some (entry r))

  abbrev marks : RowsOf K
  marks = pre (codes "abort") (leaf Abort) ++ pre (codes "state") (leaf State)

  abbrev lists_behind : RowsOf K
  lists_behind =
      pre (codes "jobs") (slashed (pre (codes "import") (leaf ImportJobs)) (Some (entry Jobs)))
      ++ pre (codes "resources") (leaf Resources)

  abbrev lists : RowsOf K
  lists = pre (codes "executions") (leaf Executions) ++ lists_behind

  abbrev executions : RowsOf K
  executions = on 256 (slashed marks (Some (entry Execution)))

  abbrev jobs : RowsOf K
  jobs = on 256 (slashed (pre (codes "run") (leaf Run)) None)

  abbrev projects : RowsOf K
  projects = on 256 (slashed lists None)

  abbrev files : RowsOf K
  files = pre (codes "acl") (slashed (on 256 (leaf ImportPolicy)) None)

  abbrev kinds_last : RowsOf K
  kinds_last = pre (codes "project") (slashed projects None) ++ pre (codes "system") (slashed files None)

  abbrev kinds_later : RowsOf K
  kinds_later = pre (codes "job") (slashed jobs None) ++ kinds_last

  abbrev kinds : RowsOf K
  kinds = pre (codes "execution") (slashed executions None) ++ kinds_later

  abbrev pub table : RowsOf K
  table = slashed (pre (codes "api") (slashed (on 256 (slashed kinds None)) None)) None

  -- ---- both sides, where these are the pieces

  abbrev by_router : List (List ℕ) → Option K → Option Asked
  by_router l o = option_and_then (asked_in l) (option_map value o)

  abbrev by_form : List (List ℕ) → Option Asked
  by_form l = asked_among l patterns

  abbrev Agree : List (List ℕ) → Option K → Type 0
  Agree l o = by_router l o ≡ by_form l

  abbrev front : List ℕ → List (List ℕ) → List (List ℕ)
  front v l = [] ∷ codes "api" ∷ v ∷ l

  on_piece : (v w : List ℕ) (l : List (List ℕ)) (o : Option K) (p : List ℕ) → bytes_eq w p ≡ true
      → Agree (front v (w ∷ l)) o → Agree (front v (p ∷ l)) o
  on_piece v w l o p h k = subst (λ q. Agree (front v (q ∷ l)) o) (text_is w p h) k

  agree_by : (l m : List (List ℕ)) (o q : Option K) → l ≡ m → o ≡ q → Agree m q → Agree l o
  agree_by l m o q h k a = subst (λ x. Agree x o) (sym h) (subst (Agree m) (sym k) a)

  or_else_same : {a b c d : Option K} → a ≡ b → c ≡ d → or_else a c ≡ or_else b d
  or_else_same {a} {b} {c} {d} h k = ap (λ x. or_else x c) h ∙ ap (or_else b) k

  -- ---- executions

  mark_abort : (c : ℕ) (cs : List ℕ) (d : ℕ) (ds : List ℕ) (b : Option (List ℕ))
      → Agree (front (c ∷ cs) (codes "execution" ∷ (d ∷ ds) ∷ codes "abort" ∷ more_pieces b))
      (goes [] (Some (entry Abort)) b)
  mark_abort c cs d ds None = rw (same Abort) refl
  mark_abort c cs d ds (Some r) = rw (pieces_are r, none_found r 0) refl

  mark_state : (c : ℕ) (cs : List ℕ) (d : ℕ) (ds : List ℕ) (b : Option (List ℕ))
      → Agree (front (c ∷ cs) (codes "execution" ∷ (d ∷ ds) ∷ codes "state" ∷ more_pieces b))
      (goes [] (Some (entry State)) b)
  mark_state c cs d ds None = rw (same State) refl
  mark_state c cs d ds (Some r) = rw (pieces_are r, none_found r 0) refl

  marks_by : (c : ℕ) (cs : List ℕ) (d : ℕ) (ds : List ℕ) (p : List ℕ) (b : Option (List ℕ))
      (e f : Bool) → bytes_eq (codes "abort") p ≡ e → bytes_eq (codes "state") p ≡ f
      → Agree (front (c ∷ cs) (codes "execution" ∷ (d ∷ ds) ∷ p ∷ more_pieces b))
      (or_else (cond e (goes [] (Some (entry Abort)) b) None)
      (cond f (goes [] (Some (entry State)) b) None))
  marks_by c cs d ds p b true f h k =
      subst (λ q. (f : Bool) → bytes_eq (codes "state") q ≡ f
      → Agree (front (c ∷ cs) (codes "execution" ∷ (d ∷ ds) ∷ q ∷ more_pieces b))
      (or_else (goes [] (Some (entry Abort)) b)
      (cond f (goes [] (Some (entry State)) b) None)))
      (text_is (codes "abort") p h)
      (λ f k. rw (sym k) (rw (or_none (goes [] (Some (entry Abort)) b)) (mark_abort c cs d ds b)))
      f k
  marks_by c cs d ds p b false true h k =
      subst (λ q. Agree (front (c ∷ cs) (codes "execution" ∷ (d ∷ ds) ∷ q ∷ more_pieces b))
      (goes [] (Some (entry State)) b)) (text_is (codes "state") p k) (mark_state c cs d ds b)
  marks_by c cs d ds p b false false h k = rw (h, k) refl

  marks_are : (c : ℕ) (cs : List ℕ) (d : ℕ) (ds : List ℕ) (r : List ℕ)
      → Agree (front (c ∷ cs) (codes "execution" ∷ (d ∷ ds) ∷ path_pieces r)) (seek 0 marks r)
  marks_are c cs d ds r =
      rw (
        pieces_are r,
        seek_either 97 (pre (codes "bort") (leaf Abort))
            (pre (codes "state") (leaf State)) r refl refl
            (record { parameter = refl; catch_all = refl; ends = refl; byte = refl }),
        seek_slashed (codes "abort") [] (Some (entry Abort)) r
            is_abort,
        seek_slashed (codes "state") [] (Some (entry State)) r
            is_state,
      )
      (marks_by c cs d ds (piece r) (behind r) (bytes_eq (codes "abort") (piece r))
      (bytes_eq (codes "state") (piece r)) refl refl)

  number_by : (c : ℕ) (cs p : List ℕ) (b : Option (List ℕ))
      → Agree (front (c ∷ cs) (codes "execution" ∷ p ∷ more_pieces b))
      (part marks (Some (entry Execution)) p b)
  number_by c cs [] b = refl
  number_by c cs (d ∷ ds) None = rw (same Execution) refl
  number_by c cs (d ∷ ds) (Some r) = marks_are c cs d ds r

  executions_are : (c : ℕ) (cs : List ℕ) (b : Option (List ℕ))
      → ((r : List ℕ) → b ≡ Some r → IsText r)
      → Agree (front (c ∷ cs) (codes "execution" ∷ more_pieces b)) (goes executions None b)
  executions_are c cs None t = refl
  executions_are c cs (Some r) t =
      rw (pieces_are r, seek_part marks (Some (entry Execution)) r (t r refl))
      (number_by c cs (piece r) (behind r))

  -- ---- a job

  run_by : (c : ℕ) (cs : List ℕ) (d : ℕ) (ds p : List ℕ) (b : Option (List ℕ)) (e : Bool)
      → bytes_eq (codes "run") p ≡ e
      → Agree (front (c ∷ cs) (codes "job" ∷ (d ∷ ds) ∷ p ∷ more_pieces b))
      (cond e (goes [] (Some (entry Run)) b) None)
  run_by c cs d ds p None true h = rw h (rw (same Run) refl)
  run_by c cs d ds p (Some r) true h = rw h (rw (pieces_are r, none_found r 0) refl)
  run_by c cs d ds p b false h = rw h refl

  run_is : (c : ℕ) (cs : List ℕ) (d : ℕ) (ds r : List ℕ)
      → Agree (front (c ∷ cs) (codes "job" ∷ (d ∷ ds) ∷ path_pieces r))
      (seek 0 (pre (codes "run") (leaf Run)) r)
  run_is c cs d ds r =
      rw (pieces_are r, seek_slashed (codes "run") [] (Some (entry Run)) r is_run)
      (run_by c cs d ds (piece r) (behind r) (bytes_eq (codes "run") (piece r)) refl)

  job_by : (c : ℕ) (cs p : List ℕ) (b : Option (List ℕ))
      → Agree (front (c ∷ cs) (codes "job" ∷ p ∷ more_pieces b))
      (part (pre (codes "run") (leaf Run)) None p b)
  job_by c cs [] b = refl
  job_by c cs (d ∷ ds) None = refl
  job_by c cs (d ∷ ds) (Some r) = run_is c cs d ds r

  jobs_are : (c : ℕ) (cs : List ℕ) (b : Option (List ℕ))
      → ((r : List ℕ) → b ≡ Some r → IsText r)
      → Agree (front (c ∷ cs) (codes "job" ∷ more_pieces b)) (goes jobs None b)
  jobs_are c cs None t = refl
  jobs_are c cs (Some r) t =
      rw (pieces_are r, seek_part (pre (codes "run") (leaf Run)) None r (t r refl))
      (job_by c cs (piece r) (behind r))

  -- ---- a policy file

  file_by : (c : ℕ) (cs p : List ℕ) (b : Option (List ℕ))
      → Agree (front (c ∷ cs) (codes "system" ∷ codes "acl" ∷ p ∷ more_pieces b))
      (part [] (Some (entry ImportPolicy)) p b)
  file_by c cs [] b = refl
  file_by c cs (d ∷ ds) None = rw (same ImportPolicy) refl
  file_by c cs (d ∷ ds) (Some r) = rw (pieces_are r, none_found r 0) refl

  file_is : (c : ℕ) (cs : List ℕ) (b : Option (List ℕ))
      → ((r : List ℕ) → b ≡ Some r → IsText r)
      → Agree (front (c ∷ cs) (codes "system" ∷ codes "acl" ∷ more_pieces b))
      (goes (on 256 (leaf ImportPolicy)) None b)
  file_is c cs None t = refl
  file_is c cs (Some r) t =
      rw (pieces_are r, seek_part [] (Some (entry ImportPolicy)) r (t r refl))
      (file_by c cs (piece r) (behind r))

  acl_by : (c : ℕ) (cs p : List ℕ) (b : Option (List ℕ))
      → ((r : List ℕ) → b ≡ Some r → IsText r) → (e : Bool) → bytes_eq (codes "acl") p ≡ e
      → Agree (front (c ∷ cs) (codes "system" ∷ p ∷ more_pieces b))
      (cond e (goes (on 256 (leaf ImportPolicy)) None b) None)
  acl_by c cs p b t true h =
      subst (λ q. Agree (front (c ∷ cs) (codes "system" ∷ q ∷ more_pieces b))
      (goes (on 256 (leaf ImportPolicy)) None b)) (text_is (codes "acl") p h) (file_is c cs b t)
  acl_by c cs p b t false h = rw h refl

  files_are : (c : ℕ) (cs : List ℕ) (b : Option (List ℕ))
      → ((r : List ℕ) → b ≡ Some r → IsText r)
      → Agree (front (c ∷ cs) (codes "system" ∷ more_pieces b)) (goes files None b)
  files_are c cs None t = refl
  files_are c cs (Some r) t =
      rw (pieces_are r, seek_slashed (codes "acl") (on 256 (leaf ImportPolicy)) None r is_acl)
      (acl_by c cs (piece r) (behind r) (λ q h. text_behind r q (t r refl) h)
      (bytes_eq (codes "acl") (piece r)) refl)

  -- ---- a project

  import_by : (c : ℕ) (cs : List ℕ) (d : ℕ) (ds p : List ℕ) (b : Option (List ℕ)) (e : Bool)
      → bytes_eq (codes "import") p ≡ e
      → Agree (front (c ∷ cs) (codes "project" ∷ (d ∷ ds) ∷ codes "jobs" ∷ p ∷ more_pieces b))
      (cond e (goes [] (Some (entry ImportJobs)) b) None)
  import_by c cs d ds p None true h = rw h (rw (same ImportJobs) refl)
  import_by c cs d ds p (Some r) true h = rw h (rw (pieces_are r, none_found r 0) refl)
  import_by c cs d ds p b false h = rw h refl

  list_jobs : (c : ℕ) (cs : List ℕ) (d : ℕ) (ds : List ℕ) (b : Option (List ℕ))
      → Agree (front (c ∷ cs) (codes "project" ∷ (d ∷ ds) ∷ codes "jobs" ∷ more_pieces b))
      (goes (pre (codes "import") (leaf ImportJobs)) (Some (entry Jobs)) b)
  list_jobs c cs d ds None = rw (same Jobs) refl
  list_jobs c cs d ds (Some r) =
      rw (pieces_are r, seek_slashed (codes "import") [] (Some (entry ImportJobs)) r is_import)
      (import_by c cs d ds (piece r) (behind r) (bytes_eq (codes "import") (piece r)) refl)

  list_executions : (c : ℕ) (cs : List ℕ) (d : ℕ) (ds : List ℕ) (b : Option (List ℕ))
      → Agree (front (c ∷ cs) (codes "project" ∷ (d ∷ ds) ∷ codes "executions" ∷ more_pieces b))
      (goes [] (Some (entry Executions)) b)
  list_executions c cs d ds None = rw (same Executions) refl
  list_executions c cs d ds (Some r) = rw (pieces_are r, none_found r 0) refl

  list_resources : (c : ℕ) (cs : List ℕ) (d : ℕ) (ds : List ℕ) (b : Option (List ℕ))
      → Agree (front (c ∷ cs) (codes "project" ∷ (d ∷ ds) ∷ codes "resources" ∷ more_pieces b))
      (goes [] (Some (entry Resources)) b)
  list_resources c cs d ds None = rw (same Resources) refl
  list_resources c cs d ds (Some r) = rw (pieces_are r, none_found r 0) refl

  abbrev lists_found : List ℕ → Option (List ℕ) → Option K
  lists_found p b =
      or_else (cond (bytes_eq (codes "executions") p) (goes [] (Some (entry Executions)) b) None)
      (or_else (cond (bytes_eq (codes "jobs") p)
      (goes (pre (codes "import") (leaf ImportJobs)) (Some (entry Jobs)) b) None)
      (cond (bytes_eq (codes "resources") p) (goes [] (Some (entry Resources)) b) None))

  abbrev lists_agree : ℕ → List ℕ → ℕ → List ℕ → Option (List ℕ) → List ℕ → Type 0
  lists_agree c cs d ds b p =
      Agree (front (c ∷ cs) (codes "project" ∷ (d ∷ ds) ∷ p ∷ more_pieces b)) (lists_found p b)

  lists_by : (c : ℕ) (cs : List ℕ) (d : ℕ) (ds : List ℕ) (p : List ℕ) (b : Option (List ℕ))
      (e f g : Bool) → bytes_eq (codes "executions") p ≡ e → bytes_eq (codes "jobs") p ≡ f
      → bytes_eq (codes "resources") p ≡ g → lists_agree c cs d ds b p
  lists_by c cs d ds p b true f g h k l =
      subst (lists_agree c cs d ds b) (text_is (codes "executions") p h)
      (rw (or_none (goes [] (Some (entry Executions)) b)) (list_executions c cs d ds b))
  lists_by c cs d ds p b false true g h k l =
      subst (lists_agree c cs d ds b) (text_is (codes "jobs") p k)
      (rw (or_none (goes (pre (codes "import") (leaf ImportJobs)) (Some (entry Jobs)) b))
      (list_jobs c cs d ds b))
  lists_by c cs d ds p b false false true h k l =
      subst (lists_agree c cs d ds b) (text_is (codes "resources") p l)
      (list_resources c cs d ds b)
  lists_by c cs d ds p b false false false h k l = rw (h, k, l) refl

  lists_are : (c : ℕ) (cs : List ℕ) (d : ℕ) (ds r : List ℕ)
      → Agree (front (c ∷ cs) (codes "project" ∷ (d ∷ ds) ∷ path_pieces r)) (seek 0 lists r)
  lists_are c cs d ds r =
      rw (
        pieces_are r,
        seek_either 101 (pre (codes "xecutions") (leaf Executions)) lists_behind r
            refl refl (record { parameter = refl; catch_all = refl; ends = refl; byte = refl }),
        seek_either 106 (pre (codes "obs")
            (slashed (pre (codes "import") (leaf ImportJobs)) (Some (entry Jobs))))
            (pre (codes "resources") (leaf Resources)) r
            refl refl (record { parameter = refl; catch_all = refl; ends = refl; byte = refl }),
        seek_slashed (codes "executions") [] (Some (entry Executions)) r is_executions,
        seek_slashed (codes "jobs") (pre (codes "import") (leaf ImportJobs)) (Some (entry Jobs)) r
            is_jobs,
        seek_slashed (codes "resources") [] (Some (entry Resources)) r is_resources,
      )
      (lists_by c cs d ds (piece r) (behind r) (bytes_eq (codes "executions") (piece r))
      (bytes_eq (codes "jobs") (piece r)) (bytes_eq (codes "resources") (piece r))
      refl refl refl)

  project_by : (c : ℕ) (cs p : List ℕ) (b : Option (List ℕ))
      → Agree (front (c ∷ cs) (codes "project" ∷ p ∷ more_pieces b)) (part lists None p b)
  project_by c cs [] b = refl
  project_by c cs (d ∷ ds) None = refl
  project_by c cs (d ∷ ds) (Some r) = lists_are c cs d ds r

  projects_are : (c : ℕ) (cs : List ℕ) (b : Option (List ℕ))
      → ((r : List ℕ) → b ≡ Some r → IsText r)
      → Agree (front (c ∷ cs) (codes "project" ∷ more_pieces b)) (goes projects None b)
  projects_are c cs None t = refl
  projects_are c cs (Some r) t =
      rw (pieces_are r, seek_part lists None r (t r refl))
      (project_by c cs (piece r) (behind r))

  -- ---- all kinds

  abbrev kinds_found : List ℕ → Option (List ℕ) → Option K
  kinds_found p b =
      or_else (cond (bytes_eq (codes "execution") p) (goes executions None b) None)
      (or_else (cond (bytes_eq (codes "job") p) (goes jobs None b) None)
      (or_else (cond (bytes_eq (codes "project") p) (goes projects None b) None)
      (cond (bytes_eq (codes "system") p) (goes files None b) None)))

  abbrev kinds_agree : ℕ → List ℕ → Option (List ℕ) → List ℕ → Type 0
  kinds_agree c cs b p = Agree (front (c ∷ cs) (p ∷ more_pieces b)) (kinds_found p b)

  kinds_by : (c : ℕ) (cs p : List ℕ) (b : Option (List ℕ))
      → ((r : List ℕ) → b ≡ Some r → IsText r) → (e f g h : Bool)
      → bytes_eq (codes "execution") p ≡ e → bytes_eq (codes "job") p ≡ f
      → bytes_eq (codes "project") p ≡ g → bytes_eq (codes "system") p ≡ h
      → kinds_agree c cs b p
  kinds_by c cs p b t true f g h i j k l =
      subst (kinds_agree c cs b) (text_is (codes "execution") p i)
      (rw (or_none (goes executions None b)) (executions_are c cs b t))
  kinds_by c cs p b t false true g h i j k l =
      subst (kinds_agree c cs b) (text_is (codes "job") p j)
      (rw (or_none (goes jobs None b)) (jobs_are c cs b t))
  kinds_by c cs p b t false false true h i j k l =
      subst (kinds_agree c cs b) (text_is (codes "project") p k)
      (rw (or_none (goes projects None b)) (projects_are c cs b t))
  kinds_by c cs p b t false false false true i j k l =
      subst (kinds_agree c cs b) (text_is (codes "system") p l) (files_are c cs b t)
  kinds_by c cs p b t false false false false i j k l = rw (i, j, k, l) refl

  kinds_seek : (r : List ℕ) → seek 0 kinds r ≡ kinds_found (piece r) (behind r)
  kinds_seek r =
      seek_either 101 (pre (codes "xecution") (slashed executions None)) kinds_later r refl refl
      (record { parameter = refl; catch_all = refl; ends = refl; byte = refl })
      ∙ or_else_same (seek_slashed (codes "execution") executions None r is_execution)
      (seek_either 106 (pre (codes "ob") (slashed jobs None)) kinds_last r refl refl
      (record { parameter = refl; catch_all = refl; ends = refl; byte = refl })
      ∙ or_else_same (seek_slashed (codes "job") jobs None r is_job)
      (seek_either 112 (pre (codes "roject") (slashed projects None))
      (pre (codes "system") (slashed files None)) r refl refl
      (record { parameter = refl; catch_all = refl; ends = refl; byte = refl })
      ∙ or_else_same (seek_slashed (codes "project") projects None r is_project)
      (seek_slashed (codes "system") files None r is_system)))

  kinds_are : (c : ℕ) (cs r : List ℕ) → IsText r
      → Agree (front (c ∷ cs) (path_pieces r)) (seek 0 kinds r)
  kinds_are c cs r t =
      agree_by (front (c ∷ cs) (path_pieces r))
      (front (c ∷ cs) (piece r ∷ more_pieces (behind r))) (seek 0 kinds r)
      (kinds_found (piece r) (behind r)) (ap (front (c ∷ cs)) (pieces_are r)) (kinds_seek r)
      (kinds_by c cs (piece r) (behind r) (λ q h. text_behind r q t h)
      (bytes_eq (codes "execution") (piece r)) (bytes_eq (codes "job") (piece r))
      (bytes_eq (codes "project") (piece r)) (bytes_eq (codes "system") (piece r))
      refl refl refl refl)

  -- ---- the front of a path

  version_by : (p : List ℕ) (b : Option (List ℕ)) → ((r : List ℕ) → b ≡ Some r → IsText r)
      → Agree ([] ∷ codes "api" ∷ p ∷ more_pieces b) (part kinds None p b)
  version_by [] b t = refl
  version_by (c ∷ cs) None t = refl
  version_by (c ∷ cs) (Some r) t = kinds_are c cs r (t r refl)

  version_are : (b : Option (List ℕ)) → ((r : List ℕ) → b ≡ Some r → IsText r)
      → Agree ([] ∷ codes "api" ∷ more_pieces b) (goes (on 256 (slashed kinds None)) None b)
  version_are None t = refl
  version_are (Some r) t =
      agree_by ([] ∷ codes "api" ∷ path_pieces r)
      ([] ∷ codes "api" ∷ piece r ∷ more_pieces (behind r)) (seek 0 (on 256 (slashed kinds None)) r)
      (part kinds None (piece r) (behind r))
      (ap (λ l. [] ∷ codes "api" ∷ l) (pieces_are r)) (seek_part kinds None r (t r refl))
      (version_by (piece r) (behind r) (λ q h. text_behind r q (t r refl) h))

  api_by : (p : List ℕ) (b : Option (List ℕ)) → ((r : List ℕ) → b ≡ Some r → IsText r)
      → (e : Bool) → bytes_eq (codes "api") p ≡ e
      → Agree ([] ∷ p ∷ more_pieces b)
      (cond e (goes (on 256 (slashed kinds None)) None b) None)
  api_by p b t true h =
      subst (λ q. Agree ([] ∷ q ∷ more_pieces b) (goes (on 256 (slashed kinds None)) None b))
      (text_is (codes "api") p h) (version_are b t)
  api_by p b t false h = rw h refl

  abbrev versions : RowsOf K
  versions = on 256 (slashed kinds None)

  api_are : (b : Option (List ℕ)) → ((r : List ℕ) → b ≡ Some r → IsText r)
      → Agree ([] ∷ more_pieces b) (goes (pre (codes "api") (slashed versions None)) None b)
  api_are None t = refl
  api_are (Some r) t =
      agree_by ([] ∷ path_pieces r) ([] ∷ piece r ∷ more_pieces (behind r))
      (seek 0 (pre (codes "api") (slashed versions None)) r)
      (cond (bytes_eq (codes "api") (piece r)) (goes versions None (behind r)) None)
      (ap (λ l. [] ∷ l) (pieces_are r)) (seek_slashed (codes "api") versions None r is_api)
      (api_by (piece r) (behind r) (λ q h. text_behind r q (t r refl) h)
      (bytes_eq (codes "api") (piece r)) refl)

  root_by : (p : List ℕ) (b : Option (List ℕ)) → ((r : List ℕ) → b ≡ Some r → IsText r)
      → (e : Bool) → bytes_eq [] p ≡ e
      → Agree (p ∷ more_pieces b)
      (cond e (goes (pre (codes "api") (slashed versions None)) None b) None)
  root_by p b t true h =
      subst (λ q. Agree (q ∷ more_pieces b)
      (goes (pre (codes "api") (slashed versions None)) None b)) (text_is [] p h) (api_are b t)
  root_by p b t false h = rw h refl

  pub table_agrees : (path : List ℕ) → IsText path
      → option_and_then (asked_in (path_pieces path)) (option_map value (seek 0 table path))
      ≡ asked_among (path_pieces path) patterns
  table_agrees path t =
      agree_by (path_pieces path) (piece path ∷ more_pieces (behind path)) (seek 0 table path)
      (cond (bytes_eq [] (piece path))
      (goes (pre (codes "api") (slashed versions None)) None (behind path)) None)
      (pieces_are path)
      (seek_slashed [] (pre (codes "api") (slashed versions None)) None path tt)
      (root_by (piece path) (behind path) (λ q h. text_behind path q t h)
      (bytes_eq [] (piece path)) refl)
