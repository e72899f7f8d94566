-- The jobs that are due, as the tables find the first of them.
use Rattle.std.proofs.Common.{◌≡◌, ◌∙◌, ◌<◌, ◌+◌, ◌++◌, ℕ, suc, ℤ, List, [], ◌∷◌, map, length, drop, Bool, true, false, Option, Some, None, option_map, unwrap_or, slice_get, get_or, ap, sym, subst, refl, arith, if◌then◌else◌}
use Rattle.std.specs.List.{filter_map, cons_option}
use Rattle.std.specs.Ordering.{is_gt, match_ordering, nat_cmp}
use Rattle.std.specs.Cmp.Lexicographic.{slice_cmp}
use Rattle.std.specs.declared.cmp.Ordering.{Ordering}
use Rattle.std.specs.declared.cmp.Ordering.TheVariants.{Less, Equal, Greater}
use Rattle.std.specs.Global.{Global}
use Rattle.std.specs.Prelude.{IfSome, Vec, int_le}
use Rattle.std.proofs.lemmas.List.{length-map}
use Rattle.std.proofs.lemmas.Option.{slice_get-get_or, slice_get-map, slice_get_read}
use Rattle.rb_causes.proofs.Lists.{nothing_left}
use Rattle.rb_cron.specs.Due.{Source}
use Rattle.rb_plan.specs.declared.world.HeldJob.{HeldJob}
use Rattle.rb_plan.specs.declared.world.Project.{Project}
use Rattle.rb_log.specs.Ticks.{DueJob as LoggedDue, come_by, due_instant, due_job, due_jobs, first_by_id, lesser_id, no_later}
use Rattle.rb_log.specs.World.{LoggedProject, project_with}
use Rattle.rb_tables.specs.Due.{next_by, next_of, project_nexts}
use Rattle.rb_tables.specs.declared.tables.Tables.{Tables}
use Rattle.rb_tables.proofs.DeskAt.{get_there}
use Rattle.rb_tables.proofs.Starts.{drop_at}
use Rattle.rb_runs.specs.Ticking.{IsDueJob, IsDueOf, IsJobAt, IsPlaceIn, MayBeDueJob, due_among, due_if, due_in, due_left}
use Rattle.rb_runs.specs.declared.ticking.DueJob.{DueJob}
use Rattle.rb_runs.specs.declared.ticking.JobPlace.{JobPlace}

-- ---- a job at its place

-- there is one
pub job_is : (ps : List Project) (place : JobPlace) (x y : HeldJob) → IsJobAt ps place x
    → IsJobAt ps place y → x ≡ y
job_is ps place x y a b =
    let project : a.project ≡ b.project =
    ap (λ o. unwrap_or o a.project) (sym a.in_projects ∙ b.in_projects) in
    ap (λ o. unwrap_or o x)
    (sym a.in_project ∙ ap (λ (p : Project). slice_get p.jobs place.job) project ∙ b.in_project)

-- what may be due stands at one
pub stands_there : (ps : List Project) (o : Option DueJob) (y : Option LoggedDue)
    → MayBeDueJob ps o y → IfSome o (λ d. IsPlaceIn ps d.place)
stands_there ps None y h = tt
stands_there ps (Some d) None h = absurd h
stands_there ps (Some d) (Some x) h = (x.held, h.held)

-- and stands for some job
stands_for : (ps : List Project) (o : Option DueJob) → IfSome o (λ d. IsPlaceIn ps d.place)
    → (y : Option LoggedDue) × MayBeDueJob ps o y
stands_for ps None h = (None, tt)
stands_for ps (Some d) h =
    (Some (record { held = h.0; instant = d.instant }), record { held = h.1; instant = refl })

pub none_due : (ps : List Project) (y : Option LoggedDue) → MayBeDueJob ps None y → y ≡ None
none_due ps None h = refl
none_due ps (Some x) h = absurd h

pub some_due : (ps : List Project) (d : DueJob) (y : Option LoggedDue) → MayBeDueJob ps (Some d) y
    → (x : LoggedDue) × (y ≡ Some x) × IsDueJob ps d x
some_due ps d None h = absurd h
some_due ps d (Some x) h = (x, refl, h)

-- ---- the lesser of two

pub lesser_first : (ps : List Project) (d : DueJob) (x : LoggedDue) (y : Option LoggedDue)
    → IsDueJob ps d x → MayBeDueJob ps None y → IsDueJob ps d (lesser_id x y)
lesser_first ps d x None is h = is
lesser_first ps d x (Some y) is h = absurd h

by_order : (ps : List Project) (first other : DueJob) (x y : LoggedDue) (o : Ordering) (b : Bool)
    → b ≡ is_gt o → IsDueJob ps first x → IsDueJob ps other y
    → IsDueJob ps (if b then other else first) (match_ordering o x x y)
by_order ps first other x y Less true h is it = absurd (grind (arith, h))
by_order ps first other x y Less false h is it = is
by_order ps first other x y Equal true h is it = absurd (grind (arith, h))
by_order ps first other x y Equal false h is it = is
by_order ps first other x y Greater true h is it = it
by_order ps first other x y Greater false h is it = absurd (grind (arith, h))

pub lesser_is : (ps : List Project) (first other : DueJob) (x : LoggedDue) (y : Option LoggedDue)
    (b : Bool) → ((z : HeldJob) → IsJobAt ps other.place z
    → b ≡ is_gt (slice_cmp nat_cmp x.held.id z.id)) → IsDueJob ps first x
    → MayBeDueJob ps (Some other) y
    → IsDueJob ps (if b then other else first) (lesser_id x y)
lesser_is ps first other x None b tells is h = absurd h
lesser_is ps first other x (Some y) b tells is h =
    by_order ps first other x y (slice_cmp nat_cmp x.held.id y.held.id) b
    (tells y.held h.held) is h

-- ---- one job of a project

instant_by : (now looked : ℤ) (b : Bool) (o : Option Source)
    → (if b then come_by now looked o else None)
    ≡ no_later now (if b then next_by looked o else None)
instant_by now looked false o = refl
instant_by now looked true None = refl
instant_by now looked true (Some source) = refl

-- it is due where its next instant has come
instant_is : (now : ℤ) (held : HeldJob) (next : Option ℤ) → next ≡ next_of held
    → due_instant now held ≡ no_later now next
instant_is now held next h = instant_by now held.looked _ held.job.schedule ∙ ap (no_later now) (sym h)

due_as : (now : ℤ) (held : HeldJob) (next : Option ℤ) → next ≡ next_of held
    → due_job now held ≡ option_map (λ t. record { held = held; instant = t }) (no_later now next)
due_as now held next h =
    ap (option_map (λ t. record { held = held; instant = t })) (instant_is now held next h)

left_from : (now : ℤ) (p : Project) (job : ℕ) (held : HeldJob) → slice_get p.jobs job ≡ Some held
    → due_left now (Some p) job
    ≡ cons_option (due_job now held) (due_left now (Some p) (suc job))
left_from now p job held get = ap (filter_map (due_job now)) (drop_at p.jobs job held get)

module _ (now : ℤ) (p : Project) (job : ℕ) (held : HeldJob)
    (get : slice_get p.jobs job ≡ Some held) where
  -- one that is never due
  pub passes_none : None ≡ next_of held
      → due_left now (Some p) job ≡ due_left now (Some p) (suc job)
  passes_none h =
      left_from now p job held get
      ∙ ap (λ o. cons_option o (due_left now (Some p) (suc job))) (due_as now held None h)

  -- or not yet
  pub passes_later : (t : ℤ) → Some t ≡ next_of held → int_le t now ≡ false
      → due_left now (Some p) job ≡ due_left now (Some p) (suc job)
  passes_later t h late =
      left_from now p job held get
      ∙ ap (λ o. cons_option o (due_left now (Some p) (suc job))) (due_as now held (Some t) h
      ∙ ap (λ b. option_map (λ i. record { held = held; instant = i })
      (if b then Some t else None)) late)

  -- and one that is
  pub takes : (t : ℤ) → Some t ≡ next_of held → int_le t now ≡ true
      → due_left now (Some p) job
      ≡ record { held = held; instant = t } ∷ due_left now (Some p) (suc job)
  takes t h come =
      left_from now p job held get
      ∙ ap (λ o. cons_option o (due_left now (Some p) (suc job))) (due_as now held (Some t) h
      ∙ ap (λ b. option_map (λ i. record { held = held; instant = i })
      (if b then Some t else None)) come)

-- ---- all of them

-- those of the projects from a place on
pub among_from : (now : ℤ) (ps : List Project) (k : ℕ) (p : Project) → slice_get ps k ≡ Some p
    → due_among now (drop k ps) ≡ due_in now ps k ++ due_among now (drop (suc k) ps)
among_from now ps k p get =
    ap (due_among now) (drop_at ps k p get)
    ∙ ap (λ o. due_if now o ++ due_among now (drop (suc k) ps)) (sym get)

pub among_back : (now : ℤ) (ps : List Project) (k place : ℕ) → k < length ps → place ≡ k + 1
    → (o : Option DueJob)
    → MayBeDueJob ps o (first_by_id (due_in now ps k ++ due_among now (drop place ps)))
    → MayBeDueJob ps o (first_by_id (due_among now (drop k ps)))
among_back now ps k place low back o h =
    let p = get_there ps k low in
    let next : place ≡ suc k = omega (arith, back) in
    subst (λ ds. MayBeDueJob ps o (first_by_id ds))
    (ap (λ n. due_in now ps k ++ due_among now (drop n ps)) next ∙ sym (among_from now ps k p.0 p.1))
    h

-- as the log tells them
pub due_same : (now : ℤ) (ps : List LoggedProject)
    → due_among now (map project_with ps) ≡ due_jobs now ps
due_same now [] = refl
due_same now (p ∷ ps) = ap (λ ds. filter_map (due_job now) p.jobs ++ ds) (due_same now ps)

-- ---- the tables

-- The project at a place, when each of whose jobs is due next is told so.
pub record IsDueHere (t : Tables) (place : ℕ) (due : List (Option ℤ)) : Type 0 where
  pub project : Project
  pub found : slice_get t.world.projects place ≡ Some project
  pub told : due ≡ project_nexts project

pub due_here : (t : Tables) (place : ℕ) → IsDueOf t place → (v : Vec (Option ℤ) Global)
    → v ≡ get_or t.due.items place v → (due : List (Option ℤ)) → due ≡ v.items
    → IsDueHere t place due
due_here t place of v item due is =
    let p = get_there t.world.projects place of.there in
    let many = ap length of.told in
    let low : place < length t.due.items =
    omega (
      arith,
      of.there,
      many,
      length-map t.due.items (λ (w : Vec (Option ℤ) Global). w.items),
      length-map t.world.projects project_nexts,
    ) in
    let same : Some v.items ≡ Some (project_nexts p.0) =
    sym (slice_get-map (λ (w : Vec (Option ℤ) Global). w.items) t.due.items place
    ∙ ap (option_map (λ (w : Vec (Option ℤ) Global). w.items))
    (slice_get_read t.due.items (length t.due.items) place v refl low item))
    ∙ ap (λ xs. slice_get xs place) of.told
    ∙ slice_get-map project_nexts t.world.projects place
    ∙ ap (option_map project_nexts) p.1 in
    record {
      project = p.0;
      found = p.1;
      told = is ∙ ap (λ o. unwrap_or o v.items) same;
    }

module _ (t : Tables) (place : ℕ) (due : List (Option ℤ)) (h : IsDueHere t place due) where
  -- the job at a place, and when it is due next
  pub held_there : (k : ℕ) → k < length due
      → (held : HeldJob) × (slice_get h.project.jobs k ≡ Some held)
  held_there k low =
      let many = ap length h.told in
      get_there h.project.jobs k (omega (arith, low, many, length-map h.project.jobs next_of))

  pub placed : (k : ℕ) → k < length due → IsPlaceIn t.world.projects (record {
    project = place;
    job = k;
  })
  placed k low =
      let x = held_there k low in
      (x.0, record { project = h.project; in_projects = h.found; in_project = x.1 })

  pub next_is : (k : ℕ) (low : k < length due) (d : Option ℤ)
      → get_or due k d ≡ next_of (held_there k low).0
  next_is k low d =
      ap (λ o. unwrap_or o d) (sym (slice_get-get_or due k d low)
      ∙ ap (λ xs. slice_get xs k) h.told ∙ slice_get-map next_of h.project.jobs k
      ∙ ap (option_map next_of) (held_there k low).1)

  left : (now : ℤ) (k : ℕ) → due_left now (slice_get t.world.projects place) k
      ≡ due_left now (Some h.project) k
  left now k = ap (λ o. due_left now o k) h.found

  module _ (now : ℤ) (rest : List LoggedDue) (k job : ℕ) (is : job ≡ suc k)
      (low : k < length due) (d : Option ℤ) where
    -- those from the job before on, and the rest
    abbrev pub from_on : ℕ → List LoggedDue
    from_on n = due_left now (slice_get t.world.projects place) n ++ rest

    -- one that is not due
    pub goes_by : get_or due k d ≡ None → from_on job ≡ from_on k
    goes_by none =
        let x = held_there k low in
        ap (λ n. from_on n) is ∙ ap (λ ds. ds ++ rest) (left now (suc k)
        ∙ sym (passes_none now h.project k x.0 x.1 (sym none ∙ next_is k low d))
        ∙ sym (left now k))

    pub goes_later : (i : ℤ) → get_or due k d ≡ Some i → int_le i now ≡ false
        → from_on job ≡ from_on k
    goes_later i some late =
        let x = held_there k low in
        ap (λ n. from_on n) is ∙ ap (λ ds. ds ++ rest) (left now (suc k)
        ∙ sym (passes_later now h.project k x.0 x.1 i (sym some ∙ next_is k low d) late)
        ∙ sym (left now k))

    -- one that is
    pub comes : (i : ℤ) → get_or due k d ≡ Some i → int_le i now ≡ true
        → from_on k ≡ record { held = (held_there k low).0; instant = i } ∷ from_on job
    comes i some come =
        let x = held_there k low in
        ap (λ ds. ds ++ rest) (left now k
        ∙ takes now h.project k x.0 x.1 i (sym some ∙ next_is k low d) come)
        ∙ ap (λ ds. record { held = x.0; instant = i } ∷ (ds ++ rest))
        (sym (left now (suc k)))
        ∙ ap (λ n. record { held = x.0; instant = i } ∷ from_on n) (sym is)

    -- which is the first where its id is the least
    module _ (i : ℤ) (first : Option DueJob) (result : DueJob)
        (there : IfSome first (λ f. IsPlaceIn t.world.projects f.place))
        (tells : (x : LoggedDue) (y : Option LoggedDue)
        → IsDueJob t.world.projects (record {
          place = record { project = place; job = k };
          instant = i;
        }) x → MayBeDueJob t.world.projects first y
        → IsDueJob t.world.projects result (lesser_id x y)) where
      abbrev here : LoggedDue
      here = record { held = (held_there k low).0; instant = i }

      here_is : IsDueJob t.world.projects (record {
        place = record { project = place; job = k };
        instant = i;
      }) here
      unfolding held_there placed
      here_is = record { held = (placed k low).1; instant = refl }

      pub taken_there : IsPlaceIn t.world.projects result.place
      taken_there =
          let y = stands_for t.world.projects first there in
          ((lesser_id here y.0).held, (tells here y.0 here_is y.1).held)

      pub taken_is : get_or due k d ≡ Some i → int_le i now ≡ true
          → MayBeDueJob t.world.projects first (first_by_id (from_on job))
          → MayBeDueJob t.world.projects (Some result) (first_by_id (from_on k))
      taken_is some come h =
          subst (λ ds. MayBeDueJob t.world.projects (Some result) (first_by_id ds))
          (sym (comes i some come)) (tells here (first_by_id (from_on job)) here_is h)

  -- behind the last there is none
  pub none_behind : (now : ℤ) (rest : List LoggedDue) (n : ℕ) → n ≡ length due
      → due_left now (slice_get t.world.projects place) n ++ rest ≡ rest
  none_behind now rest n is =
      let many = ap length h.told in
      ap (λ ds. ds ++ rest) (left now n
      ∙ ap (filter_map (due_job now)) (nothing_left h.project.jobs n
      (omega (arith, is, many, length-map h.project.jobs next_of))))
