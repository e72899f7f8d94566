-- A row of jobs changes the tables as it changes what the log says.
use Rattle.std.proofs.Common.{◌≡◌, ◌∙◌, ◌≤◌, ◌<◌, ◌+◌, ◌-◌, ◌^◌, min, ℕ, zero, suc, ℤ, List, [], ◌∷◌, length, map, Bool, true, false, nat_eq, bytes_eq, Option, Some, option_map, Vec, vec_len, vec_capacity, get_or, slice_get, slice_set, unwrap_or, ap, sym, subst, refl, add-one, arith, if◌then◌else◌}
use Rattle.std.specs.declared.alloc.Global.{Global}
use Rattle.std.specs.Ordering.{nat_cmp}
use Rattle.std.specs.Cmp.Lexicographic.{slice_cmp}
use Rattle.std.specs.declared.cmp.Ordering.TheVariants.{Less}
use Rattle.std.proofs.lemmas.Option.{slice_get-get_or, slice_get-map, slice_get_within}
use Rattle.std.proofs.lemmas.List.{length-map}
use Rattle.std.specs.Vec.{with_item}
use Rattle.rb_causes.specs.declared.row.Row.{Row}
use Rattle.rb_causes.proofs.Texts.{text_is, same_text, text_order}
use Rattle.rb_cron.specs.declared.zone.NamedZone.{NamedZone}
use Rattle.rb_plan.specs.declared.world.Project.{Project}
use Rattle.rb_plan.specs.declared.world.World.{World}
use Rattle.rb_log.specs.Rows.{counted_bytes, is_jobs, jobs_kind}
use Rattle.rb_log.specs.World.{LoggedProject, project_name, project_with, with_jobs, projects_at, put_jobs, jobs_in, zones_of}
use Rattle.rb_log.specs.Executions.{running_now}
use Rattle.rb_log.specs.Laws.{IsBehind, ProjectsAscend}
use Rattle.rb_log.specs.LogState.{LogState, log_state, world_of}
use Rattle.rb_log.proofs.RoomLaws.{unmarked_all, IsQuiet, either_none}
use Rattle.rb_tables.specs.Changes.{Comes, ChangeMayCome}
use Rattle.rb_tables.specs.Due.{next_of, project_nexts}
use Rattle.rb_tables.specs.Tables.{AreEntries, AreLogTables, latest_of_nodes, nexts, owed_among}
use Rattle.rb_tables.specs.Worlds.{put_each}
use Rattle.rb_tables.specs.declared.change.TableEffect.TheVariants as effect
use Rattle.rb_tables.specs.declared.change.JobsEffect.{JobsEffect}
use Rattle.rb_tables.specs.declared.tables.Tables.{Tables}
use Rattle.rb_tables.proofs.Projects.{rows_few, number_few}
use Rattle.rb_tables.proofs.Marked.{policies_before}
use Rattle.rb_changes.specs.Dues.{Dues, dues}
use Rattle.rb_changes.proofs.OneMark.{counted_more}
use Rattle.rb_changes.proofs.Stepping.{told_set}
use Rattle.rb_changes.proofs.Worlds.{jobs_put}

-- ---- projects of other names stay

abbrev Ascends : List LoggedProject → Type 0
Ascends ps =
    (i j : ℕ) (p q : LoggedProject) → slice_get ps i ≡ Some p → slice_get ps j ≡ Some q
    → i < j → IsBehind p.nodes.row q.nodes.row

tail_ascends : (p : LoggedProject) (ps : List LoggedProject) → Ascends (p ∷ ps) → Ascends ps
tail_ascends p ps h i j x y get other less =
    h (suc i) (suc j) x y get other (omega (arith, less))

earlier_differs : (a b : List ℕ) → slice_cmp nat_cmp a b ≡ Less → bytes_eq a b ≡ false
earlier_differs a b h = text_order a b Less h

later_differs : (a b : List ℕ) → slice_cmp nat_cmp a b ≡ Less → bytes_eq b a ≡ false
later_differs a b h = not_same (bytes_eq b a) refl
  where
    not_same : (e : Bool) → bytes_eq b a ≡ e → bytes_eq b a ≡ false
    not_same false k = k
    not_same true k =
        let wrong : true ≡ false =
        sym (same_text a b (sym (text_is b a k))) ∙ earlier_differs a b h in
        absurd (grind (arith, wrong))

other_stays : (zones : List NamedZone) (row : Row) (p : LoggedProject)
    → bytes_eq (project_name p) row.name ≡ false → with_jobs zones row p ≡ p
other_stays zones row p h =
    ap (λ b. if b then record p { jobs = put_jobs row (jobs_in zones row) p.jobs } else p) h

others_stay : (zones : List NamedZone) (row : Row) (ps : List LoggedProject)
    → ((j : ℕ) (q : LoggedProject) → slice_get ps j ≡ Some q
    → bytes_eq (project_name q) row.name ≡ false)
    → map (with_jobs zones row) ps ≡ ps
others_stay zones row [] h = refl
others_stay zones row (p ∷ ps) h =
    ap (λ x. x ∷ map (with_jobs zones row) ps) (other_stays zones row p (h zero p refl))
    ∙ ap (λ xs. p ∷ xs) (others_stay zones row ps (λ j q get. h (suc j) q get))

some_is : (p q : LoggedProject) → Some p ≡ Some q → p ≡ q
some_is p q h = ap (λ o. unwrap_or o p) h

-- the one of the name, at its place
abbrev named_jobs : List NamedZone → Row → LoggedProject → LoggedProject
named_jobs zones row p = record p { jobs = put_jobs row (jobs_in zones row) p.jobs }

this_changes : (zones : List NamedZone) (row : Row) (p : LoggedProject)
    → project_name p ≡ row.name
    → with_jobs zones row p ≡ named_jobs zones row p
this_changes zones row p h =
    ap (λ b. if b then named_jobs zones row p else p) (same_text (project_name p) row.name h)

at_place : (zones : List NamedZone) (row : Row) (ps : List LoggedProject) (place : ℕ) (q : LoggedProject) → Ascends ps
    → slice_get ps place ≡ Some q → project_name q ≡ row.name
    → map (with_jobs zones row) ps ≡ slice_set ps place (named_jobs zones row q)
at_place zones row [] place q h get named = absurd (grind (arith, get))
at_place zones row (p ∷ ps) zero q h get named =
    let same : p ≡ q = some_is p q get in
    ap (λ x. x ∷ map (with_jobs zones row) ps)
    (this_changes zones row p (ap project_name same ∙ named) ∙ ap (named_jobs zones row) same)
    ∙ ap (λ xs. named_jobs zones row q ∷ xs) (others_stay zones row ps (λ j x other.
    later_differs row.name (project_name x)
    (subst (λ n. slice_cmp nat_cmp n (project_name x) ≡ Less) named
    (h zero (suc j) q x get other (omega arith)))))
at_place zones row (p ∷ ps) (suc place) q h get named =
    ap (λ x. x ∷ map (with_jobs zones row) ps) (other_stays zones row p
    (earlier_differs (project_name p) row.name
    (subst (λ n. slice_cmp nat_cmp (project_name p) n ≡ Less) named
    (h zero (suc place) p q refl get (omega arith)))))
    ∙ ap (λ xs. p ∷ xs) (at_place zones row ps place q (tail_ascends p ps h) get named)

-- ---- the projects of the world

map_set : (ps : List LoggedProject) (place : ℕ) (q : LoggedProject)
    → map project_with (slice_set ps place q)
    ≡ slice_set (map project_with ps) place (project_with q)
map_set [] place q = refl
map_set (p ∷ ps) zero q = refl
map_set (p ∷ ps) (suc place) q = ap (λ xs. project_with p ∷ xs) (map_set ps place q)

pub get_map : (ps : List LoggedProject) (place : ℕ) (q : LoggedProject)
    → slice_get ps place ≡ Some q
    → slice_get (map project_with ps) place ≡ Some (project_with q)
get_map [] place q h = absurd (grind (arith, h))
get_map (p ∷ ps) zero q h = ap (λ x. Some (project_with x)) (some_is p q h)
get_map (p ∷ ps) (suc place) q h = get_map ps place q h

nodes_kept_by : (zones : List NamedZone) (row : Row) (p : LoggedProject) (b : Bool)
    → latest_of_nodes (if b then named_jobs zones row p else p) ≡ latest_of_nodes p
nodes_kept_by zones row p true = refl
nodes_kept_by zones row p false = refl

nodes_kept : (zones : List NamedZone) (row : Row) (ps : List LoggedProject)
    → map latest_of_nodes (map (with_jobs zones row) ps) ≡ map latest_of_nodes ps
nodes_kept zones row [] = refl
nodes_kept zones row (p ∷ ps) =
    ap (λ x. x ∷ map latest_of_nodes (map (with_jobs zones row) ps))
    (nodes_kept_by zones row p (bytes_eq (project_name p) row.name))
    ∙ ap (λ xs. latest_of_nodes p ∷ xs) (nodes_kept zones row ps)

-- ---- the tables

abbrev with_projects : Tables → ℤ → ℕ → Dues → List Project → Tables
with_projects old at n due projects = record old {
  counted = n;
  last = Some at;
  due = due;
  jobs_number = old.jobs_number + 1;
  world = record old.world { projects = projects };
}

abbrev jobs_row : Row → Row
jobs_row row = record row { kind = jobs_kind }

jobs_quiet : (row : Row) → IsQuiet (jobs_row row)
jobs_quiet row = record {
  marks = λ e. either_none (nat_eq row.a e.number) [] refl;
  withdraws = λ p e. refl;
}

module _ (old : Tables) (at : ℤ) (counted : ℕ) (e : JobsEffect) (past : List Row) where
  abbrev Comes' : Row → Type 0
  Comes' row = Comes old at counted (effect.Jobs e) past row

  pub jobs_number_fits : (row : Row) → Comes' row → old.jobs_number + 1 < 2 ^ 64
  jobs_number_fits row h =
      omega (
        arith,
        h.tabled.says.jobs_number,
        number_few is_jobs past,
        rows_few old past h.tabled,
      )

  -- the project at the place, as the world holds it
  pub held_place : (row : Row) (h : Comes' row)
      → slice_get old.world.projects e.place ≡ Some (project_with h.effect.project)
  held_place row h =
      ap (λ (w : World). slice_get w.projects e.place) h.tabled.says.world
      ∙ get_map (projects_at past) e.place h.effect.project h.effect.found

  pub place_fits : (row : Row) → Comes' row → e.place < length old.world.projects
  place_fits row h =
      slice_get_within old.world.projects e.place (project_with h.effect.project)
      (held_place row h)

  -- and when its jobs are due
  pub due_place : (row : Row) (h : Comes' row) (d : Vec (Option ℤ) Global)
      → slice_get old.due.items e.place ≡ Some d
      → d.items ≡ project_nexts (project_with h.effect.project)
  due_place row h d get =
      let there : slice_get (nexts old) e.place ≡ Some d.items =
      slice_get-map (λ (x : Vec (Option ℤ) Global). x.items) old.due.items e.place
      ∙ ap (option_map (λ (x : Vec (Option ℤ) Global). x.items)) get in
      let is
      : slice_get (nexts old) e.place
      ≡ Some (project_nexts (project_with h.effect.project)) =
      ap (λ ds. slice_get ds e.place) h.tabled.says.due
      ∙ slice_get-map project_nexts old.world.projects e.place
      ∙ ap (option_map project_nexts) (held_place row h) in
      ap (λ o. unwrap_or o d.items) (sym there ∙ is)

  module _ (law : ProjectsAscend) (n : ℕ) (due : Dues) (projects : List Project)
      (more : n ≡ min (old.counted + counted) (2 ^ 64 - 1))
      (due_put : dues due ≡ map project_nexts projects)
      (put : (p : Project) → slice_get old.world.projects e.place ≡ Some p
      → projects ≡ slice_set old.world.projects e.place
      (record p { jobs = put_each e.new.items p.jobs })) where
    abbrev Follows : Row → Type 0
    Follows row =
        Comes' row
        → AreLogTables (with_projects old at n due projects) (log_state (row ∷ past))

    follow_by : (row : Row) → Follows (jobs_row row)
    follow_by row h =
        let s : LogState = log_state past in
        let says : AreLogTables old s = h.tabled.says in
        let q : LoggedProject = h.effect.project in
        let zones : List NamedZone = zones_of s.zones in
        let r : Row = jobs_row row in
        let es = unmarked_all (policies_before past) r s.executions (jobs_quiet row) in
        let jobs : put_each e.new.items q.jobs ≡ put_jobs r (jobs_in zones r) q.jobs =
        ap (λ new. put_each new q.jobs) h.effect.new
        ∙ sym (jobs_put r (jobs_in zones r) q.jobs) in
        let made : projects ≡ map project_with (map (with_jobs zones r) s.projects) =
        put (project_with q) (held_place r h)
        ∙ ap (λ (w : World). slice_set w.projects e.place
        (record (project_with q) { jobs = put_each e.new.items q.jobs })) says.world
        ∙ ap (λ js. slice_set (map project_with s.projects) e.place
        (record (project_with q) { jobs = js })) jobs
        ∙ sym (map_set s.projects e.place (named_jobs zones r q))
        ∙ ap (map project_with) (sym (at_place zones r s.projects e.place q
        (law past) h.effect.found h.effect.named)) in record {
          counted = counted_more old past (counted_bytes r) counted n says h.counted_is more;
          last = ap Some h.at_is;
          draw = says.draw;
          workers = says.workers;
          checks = says.checks;
          doors = says.doors;
          leaves = says.leaves;
          owed = says.owed ∙ ap owed_among (sym es);
          zones = says.zones;
          zones_number = says.zones_number;
          nodes = says.nodes ∙ sym (nodes_kept zones r s.projects);
          due = due_put;
          files = says.files;
          few_files = says.few_files;
          jobs_number = ap (λ n. n + 1) says.jobs_number ∙ add-one s.jobs_number;
          executions = subst (AreEntries old.executions.items) (sym es) says.executions;
          world = ap (λ (w : World). record w { projects = projects }) says.world
              ∙ ap (λ ps. record (world_of s) { projects = ps }) made
              ∙ ap (λ es. record (world_of s) {
                projects = map project_with (map (with_jobs zones r) s.projects);
                running = running_now es;
              }) (sym es);
          numbered = says.numbered;
        }

    pub jobs_follow : (row : Row) → Follows row
    jobs_follow row h =
        subst (λ k. Follows (record row { kind = k })) (sym h.effect.kind) (follow_by row) h

-- the row was noted, and then the rest was put
pub noted_jobs_follow : ProjectsAscend → (old noted : Tables) (at : ℤ) (counted : ℕ)
    (e : JobsEffect) (due : Dues) (projects : List Project)
    → noted ≡ record old {
      counted = min (old.counted + counted) (2 ^ 64 - 1);
      last = Some at;
    }
    → dues due ≡ map project_nexts projects
    → ((p : Project) → slice_get noted.world.projects e.place ≡ Some p
    → projects ≡ slice_set noted.world.projects e.place
    (record p { jobs = put_each e.new.items p.jobs }))
    → (past : List Row) (row : Row) → Comes old at counted (effect.Jobs e) past row
    → AreLogTables (record noted {
      due = due;
      jobs_number = noted.jobs_number + 1;
      world = record noted.world { projects = projects };
    }) (log_state (row ∷ past))
noted_jobs_follow law old noted at counted e due projects is next put past row h =
    subst (λ (t : Tables). ((p : Project) → slice_get t.world.projects e.place ≡ Some p
    → projects ≡ slice_set t.world.projects e.place
    (record p { jobs = put_each e.new.items p.jobs }))
    → AreLogTables (record t {
      due = due;
      jobs_number = t.jobs_number + 1;
      world = record t.world { projects = projects };
    }) (log_state (row ∷ past))) (sym is)
    (λ p. jobs_follow old at counted e past law (min (old.counted + counted) (2 ^ 64 - 1)) due
    projects refl next p row h) put

-- with the dues of one project put anew
pub dues_set : (ds : List (List (Option ℤ))) (ps : List Project) (place : ℕ) (p q : Project)
    → ds ≡ map project_nexts ps → slice_get ps place ≡ Some p
    → slice_set ds place (project_nexts q) ≡ map project_nexts (slice_set ps place q)
dues_set ds ps place p q is get =
    ap (λ xs. slice_set xs place (project_nexts q)) is ∙ sym (nexts_set ps place q)
  where
    nexts_set : (ps : List Project) (place : ℕ) (q : Project)
        → map project_nexts (slice_set ps place q)
        ≡ slice_set (map project_nexts ps) place (project_nexts q)
    nexts_set [] place q = refl
    nexts_set (p ∷ ps) zero q = refl
    nexts_set (p ∷ ps) (suc place) q = ap (λ xs. project_nexts p ∷ xs) (nexts_set ps place q)

-- the room is that for the project at the place
pub room_fits : (old : Tables) (at : ℤ) (counted : ℕ) (e : JobsEffect)
    → ChangeMayCome old at counted (effect.Jobs e) → (p : Project)
    → slice_get old.world.projects e.place ≡ Some p
    → length p.jobs + length e.new.items ≤ vec_capacity e.room
room_fits old at counted e h p get =
    let held = held_place old at counted e h.0 h.1 h.2 in
    let is : p ≡ project_with h.2.effect.project =
    ap (λ o. unwrap_or o p) (sym get ∙ held) in
    omega (arith, ap (λ (q : Project). length q.jobs) is, h.2.effect.memory)

-- and so is the one for when its jobs are due
pub due_memory_fits : (old : Tables) (at : ℤ) (counted : ℕ) (e : JobsEffect)
    → ChangeMayCome old at counted (effect.Jobs e) → (p : Project)
    → slice_get old.world.projects e.place ≡ Some p
    → length p.jobs + length e.new.items ≤ vec_capacity e.due_room
due_memory_fits old at counted e h p get =
    let held = held_place old at counted e h.0 h.1 h.2 in
    let is : p ≡ project_with h.2.effect.project =
    ap (λ o. unwrap_or o p) (sym get ∙ held) in
    omega (arith, ap (λ (q : Project). length q.jobs) is, h.2.effect.due_memory)

-- ---- when they are due

module _ (old : Tables) (at : ℤ) (counted : ℕ) (e : JobsEffect) (past : List Row) (row : Row)
    (h : Comes old at counted (effect.Jobs e) past row) where
  pub due_fits : e.place < length old.due.items
  due_fits =
      omega (
        arith,
        place_fits old at counted e past row h,
        ap length h.tabled.says.due,
        length-map old.due.items (λ (x : Vec (Option ℤ) Global). x.items),
        length-map old.world.projects project_nexts,
      )

module _ (old noted : Tables) (at : ℤ) (counted : ℕ) (e : JobsEffect) (past : List Row)
    (row : Row) (h : Comes old at counted (effect.Jobs e) past row) {m : ℤ}
    (is : noted ≡ record old {
      counted = min (old.counted + counted) (2 ^ 64 - 1);
      last = Some m;
    }) where
  -- that of the project at the place
  at_the_place : (d : Vec (Option ℤ) Global) → d ≡ get_or noted.due.items e.place d
      → d.items ≡ project_nexts (project_with h.effect.project)
  at_the_place d read =
      due_place old at counted e past row h d
      (slice_get-get_or old.due.items e.place d (due_fits old at counted e past row h)
      ∙ ap Some (sym (read ∙ ap (λ (t : Tables). get_or t.due.items e.place d) is)))

  pub due_room : (d : Vec (Option ℤ) Global) → d ≡ get_or noted.due.items e.place d
      → vec_len d ≤ vec_capacity e.due_room
  due_room d read =
      omega (
        arith,
        ap length (at_the_place d read),
        length-map h.effect.project.jobs next_of,
        h.effect.due_memory,
        d.ok.0,
      )

  pub due_is : (d : Vec (Option ℤ) Global) → d ≡ get_or noted.due.items e.place d
      → (p : Project) → slice_get noted.world.projects e.place ≡ Some p
      → d.items ≡ project_nexts p
  due_is d read p get =
      let held : slice_get noted.world.projects e.place ≡ Some (project_with h.effect.project) =
      ap (λ (t : Tables). slice_get t.world.projects e.place) is
      ∙ held_place old at counted e past row h in
      at_the_place d read
      ∙ ap (λ o. project_nexts (unwrap_or o p)) (sym held ∙ get)

  pub due_follows : (d : Vec (Option ℤ) Global) (projects : List Project)
      → ((p : Project) → slice_get noted.world.projects e.place ≡ Some p
      → d.items ≡ map next_of (put_each e.new.items p.jobs))
      → ((p : Project) → slice_get noted.world.projects e.place ≡ Some p
      → projects ≡ slice_set noted.world.projects e.place
      (record p { jobs = put_each e.new.items p.jobs }))
      → dues (with_item noted.due e.place d) ≡ map project_nexts projects
  due_follows d projects told put =
      let p : Project = project_with h.effect.project in
      let q : Project = record p { jobs = put_each e.new.items p.jobs } in
      let held : slice_get noted.world.projects e.place ≡ Some p =
      ap (λ (t : Tables). slice_get t.world.projects e.place) is
      ∙ held_place old at counted e past row h in
      let says : dues noted.due ≡ map project_nexts noted.world.projects =
      ap (λ (t : Tables). dues t.due) is ∙ h.tabled.says.due
      ∙ sym (ap (λ (t : Tables). map project_nexts t.world.projects) is) in
      sym (told_set (λ (x : Vec (Option ℤ) Global). x.items) noted.due.items e.place d)
      ∙ ap (λ xs. slice_set (dues noted.due) e.place xs) (told p held)
      ∙ dues_set (dues noted.due) noted.world.projects e.place p q says held
      ∙ ap (map project_nexts) (sym (put p held))
