-- The demo's documents imported one after another behind an opening.
use Rattle.std.proofs.Common.{◌≡◌, ℕ, ◌≤◌, ◌+◌, ℤ, Bool, true, false, cond, List, [], length, Some, int_lt, refl, ap, ◌∙◌, arith}
use Rattle.std.proofs.lemmas.Bool.{le-leb}
use Rattle.rb_causes.specs.declared.row.Row.{Row}
use Rattle.rb_log.specs.Readings.{Reading}
use Rattle.rb_log.specs.Rows.{counted_bytes, nodes_row, policy_row, jobs_row}
use Rattle.rb_log.specs.LogState.{LogState, most_counted, log_state, owed, has_room, moment, moment_by}
use Rattle.rb_log.specs.Imports.{most_files}
use Rattle.rb_log.specs.Moves.{adds, limited, full_unless}
use Rattle.rb_log.specs.Turn.{MayRead, turn_of, unlimited_turn}
use Rattle.rb_log.specs.declared.answer.Answer.{Answer}
use Rattle.rb_log.specs.declared.answer.Answer.TheVariants.{Imported}
use Rattle.rb_log.specs.declared.call.Call.{Call}
use Rattle.rb_log.proofs.Numbers.{below_length}
use Rattle.rb_demo.specs.Texts.{demo_nodes_text, policy_text, demo_jobs_text}
use Rattle.rb_demo.specs.Imports.{created_jobs, NodesAreImported, PoliciesAreImported, JobsAreImported}
use Rattle.rb_demo.proofs.NodesHeld.{lines_short}
use Rattle.rb_demo.specs.Settings.{Setting, IsSetting, project, policy_file, opened_log, nodes_log, policy_log, nodes_added, policy_added, jobs_added, nodes_call, policy_call, jobs_call, DemoIsImported}

pub nodes_bytes : (d : Setting) → IsSetting d → length (demo_nodes_text d.nodes) ≤ 31000
nodes_bytes d h = omega (arith, h.few, lines_short 1 d.nodes (omega (arith, h.few)))

-- ---- room

fits : (s : LogState) (room : ℕ) (row : Row) → s.rows + owed s + 1 ≤ room → s.counted + counted_bytes row ≤ most_counted → has_room s room 1 row ≡ true
fits s room row rows bytes = rw (le-leb (s.rows + owed s + 1) room rows, le-leb (s.counted + counted_bytes row) most_counted bytes) refl

room_for_nodes : (d : Setting) → IsSetting d → has_room (log_state (opened_log d)) d.room 1 (nodes_added d) ≡ true
unfolding most_counted
room_for_nodes d h =
    fits (log_state (opened_log d)) d.room (nodes_added d)
    (omega (arith, below_length d.doors, h.room)) (omega (arith, nodes_bytes d h))

room_for_policy : (d : Setting) → IsSetting d → has_room (log_state (nodes_log d)) d.room 1 (policy_added d) ≡ true
unfolding most_counted
room_for_policy d h =
    fits (log_state (nodes_log d)) d.room (policy_added d)
    (omega (arith, below_length d.doors, h.room)) (omega (arith, nodes_bytes d h, h.short))

room_for_jobs : (d : Setting) → IsSetting d → has_room (log_state (policy_log d)) d.room 1 (jobs_added d) ≡ true
unfolding most_counted
room_for_jobs d h =
    fits (log_state (policy_log d)) d.room (jobs_added d)
    (omega (arith, below_length d.doors, h.room)) (omega (arith, nodes_bytes d h, h.short))

-- ---- turns

-- a turn that adds a row for which there is room
with_room : (reading : Reading) (past : List Row) (room : ℕ) (call : Call) (a : Answer) (row : Row) →
    unlimited_turn reading (log_state past) call ≡ adds 1 a row → has_room (log_state past) room 1 row ≡ true → turn_of reading past room call ≡ adds 1 a row
with_room reading past room call a row e h = ap (limited (log_state past) room) e ∙ ap (λ fit. full_unless fit (adds 1 a row)) h

-- at the last row's own moment the clock stands
same_moment : (s : LogState) (at : ℤ) → s.last ≡ Some at → moment s at ≡ at
same_moment s at e = ap (λ last. moment_by last at) e ∙ either_way (int_lt at at)
  where
    either_way : (t : Bool) → cond t at at ≡ at
    either_way true = refl
    either_way false = refl

nodes_turn : NodesAreImported → (d : Setting) → IsSetting d → (reading : Reading) →
    turn_of reading (opened_log d) d.room (nodes_call d) ≡ adds 1 (Imported 1 []) (nodes_added d)
nodes_turn law d h reading =
    let s = log_state (opened_log d) in
    with_room reading (opened_log d) d.room (nodes_call d) (Imported 1 []) (nodes_added d)
    (law d.nodes h.least h.few reading s project d.at refl refl
    ∙ ap (λ at. adds 1 (Imported 1 []) (nodes_row at 1 project (demo_nodes_text d.nodes))) (same_moment s d.at refl))
    (room_for_nodes d h)

policy_turn : PoliciesAreImported → (d : Setting) → IsSetting d → (reading : Reading) → MayRead (log_state (nodes_log d)) (policy_call d) reading →
    turn_of reading (nodes_log d) d.room (policy_call d) ≡ adds 1 (Imported 1 []) (policy_added d)
unfolding most_files
policy_turn law d h reading may =
    let s = log_state (nodes_log d) in
    with_room reading (nodes_log d) d.room (policy_call d) (Imported 1 []) (policy_added d)
    (law reading s d.importer policy_file d.at refl refl (omega arith) may
    ∙ ap (λ at. adds 1 (Imported 1 []) (policy_row at 1 false policy_file d.importer policy_text)) (same_moment s d.at refl))
    (room_for_policy d h)

jobs_turn : JobsAreImported → (d : Setting) → IsSetting d → (reading : Reading) → MayRead (log_state (policy_log d)) (jobs_call d) reading →
    turn_of reading (policy_log d) d.room (jobs_call d) ≡ adds 1 (Imported 1 created_jobs) (jobs_added d)
jobs_turn law d h reading may =
    let s = log_state (policy_log d) in
    with_room reading (policy_log d) d.room (jobs_call d) (Imported 1 created_jobs) (jobs_added d)
    (law reading s d.importer project d.at refl (refl, tt) may
    ∙ ap (λ at. adds 1 (Imported 1 created_jobs) (jobs_row at 1 false project d.importer demo_jobs_text)) (same_moment s d.at refl))
    (room_for_jobs d h)

pub demo_imported : NodesAreImported → PoliciesAreImported → JobsAreImported → DemoIsImported
demo_imported nodes policies jobs d h reading = (nodes_turn nodes d h reading, policy_turn policies d h reading, jobs_turn jobs d h reading)
