-- What a log says of its projects, and that it has few rows.
use Rattle.std.proofs.Common.{◌≡◌, ◌≤◌, ◌<◌, ◌^◌, ℕ, List, [], ◌∷◌, length, map, find, Bool, true, false, cond, bytes_eq, Option, Some, option_map, ◌&&◌, refl, arith, suc, if◌then◌else◌}
use Rattle.rb_causes.specs.declared.row.Row.{Row}
use Rattle.rb_causes.proofs.Lists.{filter_most}
use Rattle.rb_log.specs.Rows.{is_nodes}
use Rattle.rb_log.specs.World.{LoggedProject, project_name, project_with, projects_at, latest_of, latest_nodes, count_of, count_of_kind}
use Rattle.rb_log.specs.Laws.{NodesAreCounted}
use Rattle.rb_tables.specs.Tables.{IsTabled, latest_of_nodes}
use Rattle.rb_tables.specs.declared.tables.Tables.{Tables}

pub nodes_few : NodesAreCounted → (name : List ℕ) (past : List Row)
    → count_of (latest_nodes name (projects_at past)) ≤ length past
nodes_few law name past =
    omega (
      arith,
      law name past,
      filter_most (λ row. is_nodes row && bytes_eq row.name name) past,
    )

map_cond : {A B : Type 0} (f : A → B) (b : Bool) (x : A) (found : Option A) (more : Option B)
    → more ≡ option_map f found
    → cond b (Some (f x)) more ≡ option_map f (cond b (Some x) found)
map_cond f true x found more h = refl
map_cond f false x found more h = h

pub latest_is : (name : List ℕ) (ps : List LoggedProject)
    → latest_of name (map latest_of_nodes ps) ≡ latest_nodes name ps
latest_is name [] = refl
latest_is name (p ∷ ps) =
    map_cond latest_of_nodes (bytes_eq (project_name p) name) p
    (find (λ q. bytes_eq (project_name q) name) ps) (latest_of name (map latest_of_nodes ps))
    (latest_is name ps)

pub found_with : (name : List ℕ) (ps : List LoggedProject)
    → find (λ q. bytes_eq q.name name) (map project_with ps)
    ≡ option_map project_with (find (λ p. bytes_eq (project_name p) name) ps)
found_with name [] = refl
found_with name (p ∷ ps) =
    map_cond project_with (bytes_eq (project_name p) name) p
    (find (λ q. bytes_eq (project_name q) name) ps)
    (find (λ q. bytes_eq q.name name) (map project_with ps)) (found_with name ps)

pub rows_few : (t : Tables) (past : List Row) → IsTabled t past → length past < 2 ^ 40
rows_few t past h = h.few

number_by : (b : Bool) (n m : ℕ) → n ≤ m → (if b then suc n else n) ≤ suc m
number_by true n m h = omega (arith, h)
number_by false n m h = omega (arith, h)

-- no more rows of a kind than rows
pub number_few : (is_kind : Row → Bool) (past : List Row) → count_of_kind is_kind past ≤ length past
number_few is_kind [] = omega arith
number_few is_kind (row ∷ past) =
    number_by (is_kind row) (count_of_kind is_kind past) (length past) (number_few is_kind past)
