-- A row of nodes changes the tables as it changes what the log says.
use Rattle.std.specs.declared.alloc.Global.{Global}
use Rattle.std.specs.Ordering.{nat_cmp, match_ordering}
use Rattle.std.specs.Cmp.Lexicographic.{slice_cmp}
use Rattle.std.specs.declared.cmp.Ordering.{Ordering}
use Rattle.std.specs.declared.cmp.Ordering.TheVariants.{Less, Equal, Greater}
use Rattle.std.proofs.Common.{◌≡◌, ◌∙◌, ◌≤◌, ◌<◌, ◌+◌, ◌-◌, ◌^◌, min, ℕ, suc, ℤ, List, [], ◌∷◌, length, map, find, Bool, true, false, nat_eq, bytes_eq, Option, Some, None, option_map, Vec, vec_capacity, ap, sym, subst, refl, arith, if◌then◌else◌}
use Rattle.std.proofs.lemmas.List.{length-map}
use Rattle.rb_causes.specs.declared.row.Row.{Row}
use Rattle.rb_plan.specs.declared.world.Project.{Project}
use Rattle.rb_plan.specs.declared.world.World.{World}
use Rattle.rb_log.specs.Rows.{counted_bytes, is_nodes, is_jobs, is_zone, nodes_kind}
use Rattle.rb_log.specs.World.{Latest, LoggedProject, put_by, put_nodes, put_latest, project_name, project_with, with_fire, with_jobs, is_fire, zones_of, latest, projects_at, latest_of, latest_nodes, count_of, inventory_in}
use Rattle.rb_log.specs.Executions.{running_now}
use Rattle.rb_log.specs.LogState.{LogState, log_state, world_of}
use Rattle.rb_log.specs.Laws.{NodesAreCounted}
use Rattle.rb_log.proofs.RoomLaws.{IsQuiet, either_none, unmarked_all}
use Rattle.rb_tables.specs.Changes.{Comes}
use Rattle.rb_tables.specs.Due.{project_nexts}
use Rattle.rb_tables.specs.Tables.{AreEntries, AreLogTables, latest_of_nodes, owed_among}
use Rattle.rb_tables.specs.Worlds.{put_project, node_imports_of, node_imports_in}
use Rattle.rb_tables.specs.declared.change.TableEffect.TheVariants as effect
use Rattle.rb_tables.specs.declared.change.NodesEffect.{NodesEffect}
use Rattle.rb_tables.specs.declared.tables.Tables.{Tables}
use Rattle.rb_tables.proofs.Projects.{latest_is, found_with, rows_few, nodes_few}
use Rattle.rb_tables.proofs.Marked.{policies_before}
use Rattle.rb_changes.specs.Dues.{Dues, dues}
use Rattle.rb_changes.proofs.OneMark.{counted_more}
use Rattle.rb_changes.proofs.Worlds.{nodes_put, nodes_latest}

-- ---- a row that marks no execution

nodes_quiet : (row : Row) → IsQuiet (record row { kind = nodes_kind })
nodes_quiet row = record {
  marks = λ e. either_none (nat_eq row.a e.number) [] refl;
  withdraws = λ p e. refl;
}

-- ---- how many there are

module _ {A : Type 0} (name_of : A → List ℕ) where
  one_more : (new : A) (over : A → A) (x : A) (xs put : List A) (o : Ordering)
      → length put ≤ suc (length xs)
      → length (match_ordering o (new ∷ x ∷ xs) (over x ∷ xs) (x ∷ put)) ≤ suc (suc (length xs))
  one_more new over x xs put Less h = omega (arith, h)
  one_more new over x xs put Equal h = omega (arith, h)
  one_more new over x xs put Greater h = omega (arith, h)

  pub put_few : (new : A) (over : A → A) (xs : List A)
      → length (put_by name_of new over xs) ≤ suc (length xs)
  put_few new over [] = omega arith
  put_few new over (x ∷ xs) =
      one_more new over x xs (put_by name_of new over xs)
      (slice_cmp nat_cmp (name_of new) (name_of x)) (put_few new over xs)

after_few : (a b c : Bool) (put mapped fired ps : List LoggedProject) (n : ℕ) → length ps ≤ n
    → length put ≤ suc (length ps) → length mapped ≡ length ps → length fired ≡ length ps
    → length (if a then put else if b then mapped else if c then fired else ps) ≤ suc n
after_few true b c put mapped fired ps n h k same also = omega (arith, h, k)
after_few false true c put mapped fired ps n h k same also = omega (arith, h, same)
after_few false false true put mapped fired ps n h k same also = omega (arith, h, also)
after_few false false false put mapped fired ps n h k same also = omega (arith, h)

-- no more projects than rows
pub projects_few : (past : List Row) → length (projects_at past) ≤ length past
projects_few [] = omega arith
projects_few (row ∷ past) =
    let ps : List LoggedProject = projects_at past in
    let zones = zones_of (latest is_zone past) in
    after_few (is_nodes row) (is_jobs row) (is_fire row) (put_nodes row ps)
    (map (with_jobs zones row) ps) (map (with_fire row) ps) ps (length past) (projects_few past)
    (put_few project_name
    (record { nodes = record { row = row; count = 1 }; jobs = [] })
    (λ p. record p { nodes = record { row = row; count = p.nodes.count + 1 } }) ps)
    (length-map ps (with_jobs zones row)) (length-map ps (with_fire row))

-- ---- the projects as the tables hold them

number_by : (o : Option LoggedProject)
    → node_imports_in (option_map project_with o) ≡ count_of (option_map latest_of_nodes o)
number_by None = refl
number_by (Some p) = refl

pub number_is : (name : List ℕ) (ps : List LoggedProject)
    → node_imports_of name (map project_with ps) ≡ count_of (latest_nodes name ps)
number_is name ps =
    ap node_imports_in (found_with name ps)
    ∙ number_by (find (λ p. bytes_eq (project_name p) name) ps)

-- ---- a log has few rows

module _ (law : NodesAreCounted) (old : Tables) (at : ℤ) (counted : ℕ) (e : NodesEffect)
    (past : List Row) (row : Row)
    (h : Comes old at counted (effect.Nodes e) past row) where
  pub latest_fits : count_of (latest_of e.latest.name old.nodes.items) + 1 < 2 ^ 64
  latest_fits =
      let name : List ℕ = e.latest.name in
      let is : count_of (latest_of name old.nodes.items)
      ≡ count_of (latest_nodes name (projects_at past)) =
      ap (λ ls. count_of (latest_of name ls)) h.tabled.says.nodes
      ∙ ap count_of (latest_is name (projects_at past)) in
      omega (arith, is, nodes_few law name past, rows_few old past h.tabled)

  pub number_fits : node_imports_of e.name old.world.projects + 1 < 2 ^ 64
  number_fits =
      let is : node_imports_of e.name old.world.projects
      ≡ count_of (latest_nodes e.name (projects_at past)) =
      ap (λ (w : World). node_imports_of e.name w.projects) h.tabled.says.world
      ∙ number_is e.name (projects_at past) in
      omega (arith, is, nodes_few law e.name past, rows_few old past h.tabled)

  pub room_is : length old.world.projects < vec_capacity e.room
  room_is =
      let is : length old.world.projects ≡ length (projects_at past) =
      ap (λ (w : World). length w.projects) h.tabled.says.world
      ∙ length-map (projects_at past) project_with in
      omega (arith, is, h.effect.memory)

-- the tables with these nodes and projects
abbrev with_nodes : Tables → ℤ → ℕ → Vec Latest Global → Dues → List Project → Tables
with_nodes old at n nodes due projects = record old {
  counted = n;
  last = Some at;
  nodes = nodes;
  due = due;
  world = record old.world { projects = projects };
}

-- a row of this kind
abbrev nodes_row : Row → Row
nodes_row row = record row { kind = nodes_kind }

module _ (old : Tables) (at : ℤ) (counted n : ℕ) (e : NodesEffect) (past : List Row)
    (nodes : Vec Latest Global) (due : Dues) (projects : List Project)
    (more : n ≡ min (old.counted + counted) (2 ^ 64 - 1))
    (latest_put : nodes.items ≡ put_latest e.latest old.nodes.items)
    (due_put : dues due ≡ map project_nexts projects)
    (project_put : projects ≡ put_project e.name e.inventory old.world.projects) where
  abbrev Follows : Row → Type 0
  Follows row =
      Comes old at counted (effect.Nodes e) past row
      → AreLogTables (with_nodes old at n nodes due projects) (log_state (row ∷ past))

  follow_by : (row : Row) → Follows (nodes_row row)
  follow_by row h =
      let s : LogState = log_state past in
      let says : AreLogTables old s = h.tabled.says in
      let es = unmarked_all (policies_before past) (nodes_row row) s.executions
      (nodes_quiet row) in
      let put : projects ≡ map project_with (put_nodes (nodes_row row) s.projects) =
      project_put
      ∙ ap (λ n. put_project n e.inventory old.world.projects) h.effect.name
      ∙ ap (λ i. put_project row.name i old.world.projects) h.effect.inventory
      ∙ ap (λ (w : World). put_project row.name (inventory_in (nodes_row row)) w.projects)
      says.world
      ∙ sym (nodes_put (nodes_row row) s.projects) in record {
        counted = counted_more old past (counted_bytes (nodes_row row)) counted n says
            h.counted_is more;
        last = ap Some h.at_is;
        draw = says.draw;
        workers = says.workers;
        checks = says.checks;
        doors = says.doors;
        leaves = says.leaves;
        owed = says.owed ∙ ap owed_among (sym es);
        zones = says.zones;
        zones_number = says.zones_number;
        nodes = latest_put
            ∙ ap (λ r. put_latest r old.nodes.items) h.effect.latest
            ∙ ap (put_latest (nodes_row row)) says.nodes
            ∙ sym (nodes_latest (nodes_row row) s.projects);
        due = due_put;
        files = says.files;
        few_files = says.few_files;
        jobs_number = says.jobs_number;
        executions = subst (AreEntries old.executions.items) (sym es) says.executions;
        world = ap (λ (w : World). record w { projects = projects }) says.world
            ∙ ap (λ ps. record (world_of s) { projects = ps }) put
            ∙ ap (λ es. record (world_of s) {
              projects = map project_with (put_nodes (nodes_row row) s.projects);
              running = running_now es;
            }) (sym es);
        numbered = says.numbered;
      }

  pub nodes_follow : (row : Row) → Follows row
  nodes_follow row h =
      subst (λ k. Follows (record row { kind = k })) (sym h.effect.kind) (follow_by row) h

-- the row was noted, and then the rest was put
pub noted_nodes_follow : (old noted : Tables) (at : ℤ) (counted : ℕ) (e : NodesEffect)
    (nodes : Vec Latest Global) (due : Dues) (projects : List Project)
    → noted ≡ record old {
      counted = min (old.counted + counted) (2 ^ 64 - 1);
      last = Some at;
    }
    → nodes.items ≡ put_latest e.latest noted.nodes.items
    → dues due ≡ map project_nexts projects
    → projects ≡ put_project e.name e.inventory noted.world.projects
    → (past : List Row) (row : Row) → Comes old at counted (effect.Nodes e) past row
    → AreLogTables (record noted {
      nodes = nodes;
      due = due;
      world = record noted.world { projects = projects };
    }) (log_state (row ∷ past))
noted_nodes_follow old noted at counted e nodes due projects is latest next project past row h =
    subst (λ (t : Tables). nodes.items ≡ put_latest e.latest t.nodes.items
    → projects ≡ put_project e.name e.inventory t.world.projects
    → AreLogTables (record t {
      nodes = nodes;
      due = due;
      world = record t.world { projects = projects };
    }) (log_state (row ∷ past))) (sym is)
    (λ l p. nodes_follow old at counted (min (old.counted + counted) (2 ^ 64 - 1)) e past nodes
    due projects refl l next p row h) latest project
