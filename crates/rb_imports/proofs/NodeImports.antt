-- What is decided of an import of nodes.
use Rattle.std.proofs.Common.{◌≡◌, ◌∙◌, ◌<◌, ◌+◌, ◌-◌, ◌^◌, min, ℕ, ℤ, Bool, true, false, not, List, [], Some, Result, Ok, Err, IsErrAnd, ap, sym, subst, refl, arith}
use Rattle.rb_causes.specs.declared.row.Row.{Row}
use Rattle.rb_yaml.specs.Documents.{docs_of}
use Rattle.rb_yaml.specs.Faults.{◌>>=◌}
use Rattle.rb_yaml.specs.Tree.{YamlTree}
use Rattle.rb_inventory.specs.Inventories.{inventory_of}
use Rattle.rb_inventory.specs.declared.inventory.Inventory.{Inventory}
use Rattle.rb_log.specs.Imports.{imported}
use Rattle.rb_log.specs.Laws.{NodesAreCounted}
use Rattle.rb_log.specs.LogState.{log_state, moment, moment_by, nodes_number}
use Rattle.rb_log.specs.Moves.{Moved, only, adds, must, read_as, is_name, has_body, moved_or}
use Rattle.rb_log.specs.Readings.{Reading}
use Rattle.rb_log.specs.Rows.{nodes_row, nodes_kind}
use Rattle.rb_log.specs.World.{latest_of, latest_nodes, count_of, inventory_in, projects_at, read_or}
use Rattle.rb_log.specs.declared.answer.Answer.{Answer}
use Rattle.rb_log.specs.declared.answer.Answer.TheVariants as answer
use Rattle.rb_log.specs.declared.answer.ImportedJob.{ImportedJob}
use Rattle.rb_log.specs.declared.call.Call.{Call}
use Rattle.rb_log.specs.declared.call.Call.TheVariants as call
use Rattle.rb_tables.specs.Changes.{Decided, IsEffect, IsNodesEffect, IsRefusal, IsSettled, moved_of, need_of, Makes, IsAnswerOf}
use Rattle.rb_imports.specs.Importing.{nodes_moved, body_inventory}
use Rattle.rb_tables.specs.Tables.{IsTabled}
use Rattle.rb_tables.specs.declared.change.Change.{Change}
use Rattle.rb_tables.specs.declared.change.TableEffect.{TableEffect}
use Rattle.rb_tables.specs.declared.change.TableEffect.TheVariants.{Nodes}
use Rattle.rb_tables.specs.declared.change.NodesEffect.{NodesEffect}
use Rattle.rb_tables.specs.declared.change.Outcome.TheVariants as outcome
use Rattle.rb_tables.specs.declared.tables.Tables.{Tables}
use Rattle.rb_tables.proofs.Deciding.{refused_first, refused_then, settled, decided, refused_moved}
use Rattle.rb_tables.proofs.Projects.{latest_is, nodes_few, rows_few}

-- ---- what an import answers

-- the number that is next, far from the greatest one
pub next_is : (n v : ℕ) → v ≡ min (n + 1) (2 ^ 64 - 1) → n < 2 ^ 40 → v ≡ n + 1
next_is n v h few = omega (arith, h, few)

-- nothing changes
pub same_import : (changes : Bool) (n : ℕ) (jobs : List ImportedJob) (make : ℕ → Row)
    → changes ≡ false → imported changes n jobs make ≡ only (answer.Imported n jobs)
same_import changes n jobs make h = ap (λ b. imported b n jobs make) h

-- or the row comes with the next number
pub new_import : (changes : Bool) (n v : ℕ) (jobs : List ImportedJob) (make : ℕ → Row)
    → changes ≡ true → v ≡ n + 1
    → imported changes n jobs make ≡ adds 1 (answer.Imported v jobs) (make v)
new_import changes n v jobs make h is =
    ap (λ b. imported b n jobs make) h
    ∙ ap (λ k. adds 1 (answer.Imported k jobs) (make k)) (sym is)

-- a change as it is told
pub change_is : (c : Change) (version : ℕ) (jobs : List ImportedJob) (row : Row) (e : TableEffect)
    → need_of e ≡ Some 1
    → c ≡ record { outcome = outcome.Imported version jobs; row = row; effect = e }
    → adds 1 (answer.Imported version jobs) row ≡ moved_of c
change_is c version jobs row e one h =
    ap (λ n. record { answer = answer.Imported version jobs; row = Some row; need = n }) (sym one)
    ∙ ap moved_of (sym h)

-- what holds of the row and the effect of a change
pub effect_is : (past : List Row) (c : Change) (version : ℕ) (jobs : List ImportedJob) (row : Row)
    (e : TableEffect)
    → c ≡ record {
      outcome = outcome.Imported version jobs;
      row = row;
      effect = e;
    }
    → IsEffect past row e → IsEffect past c.row c.effect
effect_is past c version jobs row e h is =
    subst (λ (d : Change). IsEffect past d.row d.effect) (sym h) is

-- ---- nodes

module _ (t : Tables) (past : List Row) (tabled : IsTabled t past) (at : ℤ)
    (project body : List ℕ) where
  latest_same : latest_of project t.nodes.items ≡ latest_nodes project (projects_at past)
  latest_same =
      ap (latest_of project) tabled.says.nodes ∙ latest_is project (projects_at past)

  pub nodes_same : (a : Answer) (number : ℕ)
      → true ≡ has_body body (latest_of project t.nodes.items)
      → number ≡ count_of (latest_of project t.nodes.items)
      → a ≡ answer.Imported number []
      → IsAnswerOf (nodes_moved (log_state past) at project body) a
  nodes_same a number has is told =
      subst (IsAnswerOf (nodes_moved (log_state past) at project body)) (sym told)
      (same_import (not (has_body body (latest_nodes project (projects_at past))))
      (nodes_number (log_state past) project) []
      (λ n. nodes_row (moment (log_state past) at) n project body)
      (ap not (sym (has ∙ ap (has_body body) latest_same)))
      ∙ ap (λ n. only (answer.Imported n [])) (sym (is ∙ ap count_of latest_same)))

  pub nodes_new : NodesAreCounted → (c : Change) (number version : ℕ) (jobs : List ImportedJob)
      (row : Row) (e : NodesEffect) (inventory : Inventory)
      → false ≡ has_body body (latest_of project t.nodes.items)
      → number ≡ count_of (latest_of project t.nodes.items)
      → version ≡ min (number + 1) (2 ^ 64 - 1)
      → row ≡ nodes_row (moment_by t.last at) version project body
      → jobs ≡ []
      → c ≡ record {
        outcome = outcome.Imported version jobs;
        row = row;
        effect = Nodes e;
      }
      → (row.kind ≡ nodes_kind → inventory ≡ inventory_in row → IsNodesEffect past row e)
      → inventory ≡ body_inventory body
      → Makes past (nodes_moved (log_state past) at project body) (Ok c)
  nodes_new law c number version jobs row e inventory has is next made none told effect read =
      let counted : number ≡ nodes_number (log_state past) project =
      is ∙ ap count_of latest_same in
      let few : version ≡ number + 1 =
      next_is number version next
      (omega (arith, counted, nodes_few law project past, rows_few t past tabled)) in
      let row_is : row ≡ nodes_row (moment (log_state past) at) version project body =
      made ∙ ap (λ last. nodes_row (moment_by last at) version project body)
      tabled.says.last in (
        new_import (not (has_body body (latest_nodes project (projects_at past))))
            (nodes_number (log_state past) project) version []
            (λ n. nodes_row (moment (log_state past) at) n project body)
            (ap not (sym (has ∙ ap (has_body body) latest_same)))
            (few ∙ ap (λ n. n + 1) counted)
            ∙ ap (λ js. adds 1 (answer.Imported version js)
            (nodes_row (moment (log_state past) at) version project body)) (sym none)
            ∙ ap (λ r. adds 1 (answer.Imported version jobs) r) (sym row_is)
            ∙ change_is c version jobs row (Nodes e) refl told,
        effect_is past c version jobs row (Nodes e) told
            (effect (ap (λ (r : Row). r.kind) row_is)
            (read ∙ ap inventory_in (sym row_is))),
      )

-- ---- the rules of an import of nodes

abbrev nodes_reading : Reading
nodes_reading = record { policies = Ok []; jobs = Ok [] }

module _ (past : List Row) (at : ℤ) (project body : List ℕ) where
  pub nodes_unnamed : (a : Answer) → IsRefusal (must (is_name project) answer.BadName) a
      → IsSettled past (call.ImportNodes project body at) a
  nodes_unnamed a h =
      settled past (call.ImportNodes project body at) nodes_reading _ a tt refl
      (refused_moved _ a (refused_first (must (is_name project) answer.BadName) _ a h))

  pub nodes_unread : (a : Answer) → must (is_name project) answer.BadName ≡ Ok true
      → IsRefusal (read_as answer.BadYaml (docs_of body)) a
      → IsSettled past (call.ImportNodes project body at) a
  nodes_unread a named h =
      settled past (call.ImportNodes project body at) nodes_reading _ a tt refl
      (refused_moved _ a (refused_then (must (is_name project) answer.BadName) _ true a named
      (refused_first (read_as answer.BadYaml (docs_of body)) _ a h)))

  pub nodes_bad : (a : Answer) (docs : List YamlTree)
      → must (is_name project) answer.BadName ≡ Ok true → docs_of body ≡ Ok docs
      → IsRefusal (read_as answer.BadNodes (inventory_of docs)) a
      → IsSettled past (call.ImportNodes project body at) a
  nodes_bad a docs named read h =
      settled past (call.ImportNodes project body at) nodes_reading _ a tt refl
      (refused_moved _ a (refused_then (must (is_name project) answer.BadName) _ true a named
      (refused_then (read_as answer.BadYaml (docs_of body)) _ docs a
      (ap (read_as answer.BadYaml) read)
      (refused_first (read_as answer.BadNodes (inventory_of docs)) _ a h))))

  pub nodes_decided : (result : Result Change Answer) (docs : List YamlTree)
      (inventory : Inventory)
      → must (is_name project) answer.BadName ≡ Ok true → docs_of body ≡ Ok docs
      → inventory_of docs ≡ Ok inventory
      → Makes past (nodes_moved (log_state past) at project body) result
      → Decided past (call.ImportNodes project body at) result
  nodes_decided result docs inventory named read is h =
      decided past (call.ImportNodes project body at) nodes_reading
      (nodes_moved (log_state past) at project body) result tt
      (ap (λ r. moved_or (r >>= λ named. read_as answer.BadYaml (docs_of body) >>= λ docs.
      read_as answer.BadNodes (inventory_of docs) >>= λ inventory.
      Ok (nodes_moved (log_state past) at project body))) named
      ∙ ap (λ r. moved_or (read_as answer.BadYaml r >>= λ docs.
      read_as answer.BadNodes (inventory_of docs) >>= λ inventory.
      Ok (nodes_moved (log_state past) at project body))) read
      ∙ ap (λ r. moved_or (read_as answer.BadNodes r >>= λ inventory.
      Ok (nodes_moved (log_state past) at project body))) is) h

-- the inventory that was read is that of the body
pub inventory_read : (body : List ℕ) (docs : List YamlTree) (inventory : Inventory)
    → docs_of body ≡ Ok docs → inventory_of docs ≡ Ok inventory
    → inventory ≡ body_inventory body
inventory_read body docs inventory read is =
    sym (ap (λ r. read_or (record { nodes = [] }) (inventory_of (read_or [] r))) read
    ∙ ap (read_or (record { nodes = [] })) is)

-- an error that is handed on
pub handed_on : (past : List Row) (c : Call) (r : Result Change Answer) (a : Answer)
    → IsErrAnd r (λ x. x ≡ a) → IsSettled past c a → Decided past c r
handed_on past c (Ok x) a h is = absurd h
handed_on past c (Err x) a h is = subst (IsSettled past c) (sym h) is

-- so is want of memory
pub wants_memory : (past : List Row) (m : Moved) (r : Result Change Answer)
    → IsErrAnd r (λ x. x ≡ answer.NoMemory) → Makes past m r
wants_memory past m (Ok x) h = absurd h
wants_memory past m (Err x) h = subst (IsAnswerOf m) (sym h) tt
