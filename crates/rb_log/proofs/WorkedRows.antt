-- What the definitions say of the small log.
use Rattle.std.proofs.Common.{refl}
use Rattle.std.specs.Prelude.{◌≡◌, ℕ, true, false, List, [], ◌∷◌, ◌++◌, codes, map, Option, Some, None, reverse}
use Rattle.rb_causes.specs.declared.ending.Ending.TheVariants.{Code}
use Rattle.rb_causes.specs.Signs.{space}
use Rattle.rb_causes.specs.declared.spawner.SpawnRun.{SpawnRun}
use Rattle.rb_acl.specs.declared.policy.Decision.TheVariants.{NoneAllows}
use Rattle.rb_marks.specs.declared.mark.Status.{Status}
use Rattle.rb_marks.specs.declared.mark.Status.TheVariants.{Aborted, Failed, Incomplete}
use Rattle.rb_plan.specs.declared.refusal.Refusal.TheVariants as refusal
use Rattle.hex.specs.Hex.{encode_with}
use Rattle.rb_causes.specs.declared.row.Row.{Row}
use Rattle.rb_log.specs.Rows.{accept_row, first_form, opened_as, opened_row, withdraw_row}
use Rattle.rb_log.specs.World.{id_or}
use Rattle.rb_log.specs.Turn.{turn_of}
use Rattle.rb_log.specs.LogState.{log_state, owed}
use Rattle.rb_log.specs.Programs.{programs_of}
use Rattle.rb_log.specs.declared.answer.Answer.{Answer}
use Rattle.rb_log.specs.declared.answer.Answer.TheVariants as answer
use Rattle.rb_log.specs.declared.answer.Action.TheVariants.{Same}
use Rattle.rb_log.specs.declared.call.Call.{Call}
use Rattle.rb_log.specs.declared.call.Call.TheVariants.{ImportZone, ImportNodes, ImportPolicy, ImportJobs, Tick, Claim, CloseDoor, Abort, Look}
use Rattle.rb_log.specs.declared.call.Look.TheVariants as look
use Rattle.rb_log.specs.declared.shown.Shown.TheVariants as shown
use Rattle.rb_log.proofs.Computing.{computing}
use Rattle.rb_log.proofs.Samples.{ann, bob, root, at, imported, imported_behind, reading, after, run_job, restart, reported, deny_text, jobs_text, nodes_text, policy_text}

-- the answer to a call behind these calls, in a room
abbrev answers : ℕ → List Call → Call → Answer
answers room calls call = (turn_of reading (after room imported calls) room call).answer

-- ---- names, runs and claims in ample room

bad_name : answers 100 [] (ImportNodes (codes "a/b") (codes "web1:\n") at) ≡ answer.BadName
bad_name = refl

abbrev nodes_shown : Answer → List (List ℕ)
nodes_shown (answer.Accepted view) = view.nodes
nodes_shown other = []

run_is_accepted : nodes_shown (answers 100 [] (restart ann)) ≡ codes "web1" ∷ codes "web3" ∷ []
unfolding computing
run_is_accepted = refl

abbrev names_dropped : Answer → List (List ℕ)
names_dropped (answer.Accepted view) = map (λ d. d.node ++ space ∷ d.clause) view.dropped
names_dropped other = []

web2_is_dropped : names_dropped (answers 100 [] (restart ann))
    ≡ codes "web2 ops.aclpolicy#1 for node rule 2" ∷ []
unfolding computing
web2_is_dropped = refl

accept_row_is : (turn_of reading imported 100 (restart ann)).row
    ≡ Some (accept_row at 1 1 1 (codes "7b1f0c2a-0001") ann
    (codes "{\"due\":null,\"filter\":null,\"given\":[[\"mode\",\"soft\"]]}"))
unfolding computing
accept_row_is = refl

abbrev words_given : Answer → List (List ℕ)
words_given (answer.Task t) = t.words
words_given other = []

abbrev echo_soft : List ℕ → List (List ℕ)
echo_soft name = codes "echo" ∷ codes "soft" ∷ name ∷ []

first_words : words_given (answers 100 (restart ann ∷ []) (Claim 0 at)) ≡ echo_soft (codes "web1")
unfolding computing
first_words = refl

-- the bound is one node at a time
second_waits : answers 100 (restart ann ∷ Claim 0 at ∷ []) (Claim 0 at) ≡ answer.Idle
unfolding computing
second_waits = refl

second_words : words_given (answers 100 (restart ann ∷ Claim 0 at ∷ reported 0 ∷ []) (Claim 0 at))
    ≡ echo_soft (codes "web3")
unfolding computing
second_words = refl

abbrev all_done : List Call
all_done = restart ann ∷ Claim 0 at ∷ reported 0 ∷ Claim 0 at ∷ reported 1 ∷ []

idle_at_the_end : answers 100 all_done (Claim 0 at) ≡ answer.Idle
unfolding computing
idle_at_the_end = refl

closed_behind_the_door : answers 100 (CloseDoor 0 at ∷ all_done) (Claim 0 at) ≡ answer.Closed
unfolding computing
closed_behind_the_door = refl

abbrev program : List ℕ → SpawnRun
program name = record { words = echo_soft name; ending = Code 0 }

programs_are : programs_of (reverse (after 100 imported all_done)) 4 0
    ≡ program (codes "web1") ∷ program (codes "web3") ∷ []
unfolding computing
programs_are = refl

-- ---- refusals

no_job : answers 100 [] (run_job ann (codes "none")) ≡ answer.Refused refusal.NoJob None
unfolding computing
no_job = refl

bob_is_denied : answers 100 [] (restart bob)
    ≡ answer.Refused (refusal.JobDenied NoneAllows) (Some (record {
      decision = NoneAllows;
      action = codes "run";
      thing = codes "job ops/restart";
      clause = codes "none allows";
    }))
unfolding computing
bob_is_denied = refl

no_project : answers 100 [] (ImportJobs ann true (codes "none") jobs_text at) ≡ answer.NoProject
no_project = refl

policy_is_denied : answers 100 [] (ImportPolicy bob true (codes "b.aclpolicy") policy_text at)
    ≡ answer.Denied (record {
      decision = NoneAllows;
      action = codes "create";
      thing = codes "kind system_acl";
      clause = codes "none allows";
    })
unfolding computing
policy_is_denied = refl

-- the job is held in another project
id_is_taken : answers 100 (ImportNodes (codes "other") nodes_text at ∷ [])
    (ImportJobs ann false (codes "other") jobs_text at)
    ≡ answer.IdTaken (codes "7b1f0c2a-0001")
unfolding computing
id_is_taken = refl

kill_is_denied : answers 100 (restart ann ∷ []) (Abort bob 1 at) ≡ answer.Denied (record {
  decision = NoneAllows;
  action = codes "kill";
  thing = codes "job ops/restart";
  clause = codes "none allows";
})
unfolding computing
kill_is_denied = refl

-- a leaf is open, and then none
abort_is_under_way : answers 100 (restart ann ∷ Claim 0 at ∷ Abort ann 1 at ∷ []) (Abort ann 1 at)
    ≡ answer.Aborting
unfolding computing
abort_is_under_way = refl

run_has_ended : answers 100 (restart ann ∷ Abort ann 1 at ∷ []) (Abort ann 1 at) ≡ answer.Ended
unfolding computing
run_has_ended = refl

no_execution : answers 100 [] (Abort ann 1 at) ≡ answer.NoExecution
no_execution = refl

-- ---- what was imported again, and a second opening

abbrev bare_node : Call
bare_node = ImportNodes (codes "desk") (codes "web1:\n") at

second_import : answers 100 [] bare_node ≡ answer.Imported 2 []
unfolding computing
second_import = refl

last_nodes_count : answers 100 (bare_node ∷ []) (restart ann)
    ≡ answer.Refused refusal.NoNodeSelected None
unfolding computing
last_nodes_count = refl

abbrev opened_again : List Row
opened_again = opened_row at 2 3 7 ∷ after 100 imported (restart ann ∷ Claim 0 at ∷ [])

last_draw : (log_state opened_again).draw ≡ 7
unfolding computing
last_draw = refl

abbrev status_shown : Answer → Option Status
status_shown (answer.Shown (shown.Execution view)) = Some view.status
status_shown other = None

run_is_incomplete :
    status_shown (turn_of reading opened_again 100 (Look ann (look.Execution 1))).answer
    ≡ Some Incomplete
unfolding computing
run_is_incomplete = refl

-- a job without an id is held under its names
made_id : id_or None (codes "a/b/c") ≡ codes "x612f622f63"
unfolding encode_with
made_id = refl

-- ---- room: four rows stand, and a Close is owed

-- a run on two nodes with one step needs six, and an abort has room all the same
run_is_full : answers 10 [] (restart ann) ≡ answer.Full
unfolding computing
run_is_full = refl

run_just_fits : nodes_shown (answers 11 [] (restart ann)) ≡ codes "web1" ∷ codes "web3" ∷ []
unfolding computing
run_just_fits = refl

abort_is_recorded : answers 11 (restart ann ∷ []) (Abort ann 1 at) ≡ answer.Aborted Aborted
unfolding computing
abort_is_recorded = refl

import_is_full : answers 11 (restart ann ∷ []) (ImportNodes (codes "p") [] at) ≡ answer.Full
unfolding computing
import_is_full = refl

-- an import that adds no row is never full, and asks for no permission
same_is_imported : answers 5 [] (ImportJobs bob true (codes "desk") jobs_text at)
    ≡ answer.Imported 1 (record { id = codes "7b1f0c2a-0001"; action = Same } ∷ [])
unfolding computing
same_is_imported = refl

owed_in_all : owed (log_state (after 100 imported (restart ann ∷ Claim 0 at ∷ []))) ≡ 5
unfolding computing
owed_in_all = refl

-- ---- zones, and a tick

abbrev berlin : Call
berlin = ImportZone (codes "Europe/Berlin") (codes "CET-1CEST,M3.5.0,M10.5.0/3") at

bad_zone : answers 100 [] (ImportZone (codes "berlin") (codes "Europe/Berlin") at) ≡ answer.BadZone
unfolding computing
bad_zone = refl

zone_is_imported : answers 100 [] berlin ≡ answer.Imported 1 []
unfolding computing
zone_is_imported = refl

-- no job has a schedule
none_is_due : answers 100 [] (Tick at) ≡ answer.Quiet
unfolding computing
none_is_due = refl

-- ---- the second check: web1 is taken away behind the acceptance

abbrev deny_web1 : Call
deny_web1 = ImportPolicy root false (codes "z.aclpolicy") deny_text at

abbrev node_withdrawn : Answer → List ℕ
node_withdrawn (answer.Withdrawn number node decision) = node
node_withdrawn other = []

web1_is_withdrawn : node_withdrawn (answers 100 (restart ann ∷ deny_web1 ∷ []) (Claim 0 at))
    ≡ codes "web1"
unfolding computing
web1_is_withdrawn = refl

withdraw_row_is :
    (turn_of reading (after 100 imported (restart ann ∷ deny_web1 ∷ [])) 100 (Claim 0 at)).row
    ≡ Some (withdraw_row at 1 0 2)
unfolding computing
withdraw_row_is = refl

abbrev withdrawn : List Call
withdrawn = restart ann ∷ deny_web1 ∷ Claim 0 at ∷ []

web3_goes_on : words_given (answers 100 withdrawn (Claim 0 at)) ≡ echo_soft (codes "web3")
unfolding computing
web3_goes_on = refl

abbrev clauses_shown : Answer → List (Option (List ℕ))
clauses_shown (answer.Shown (shown.State number nodes status)) = map (λ n. n.clause) nodes
clauses_shown other = []

clause_is_shown : clauses_shown (answers 100 withdrawn (Look ann (look.State 1)))
    ≡ Some (codes "z.aclpolicy#1 for node rule 1") ∷ None ∷ []
unfolding computing
clause_is_shown = refl

run_has_failed :
    status_shown (answers 100 (withdrawn ++ Claim 0 at ∷ reported 1 ∷ []) (Look ann (look.Execution 1)))
    ≡ Some Failed
unfolding computing
run_has_failed = refl

-- an opening of the older form makes no check
older_is_unchecked :
    words_given (turn_of reading
    (after 100 (imported_behind (opened_as first_form at 1 1 0)) (restart ann ∷ deny_web1 ∷ []))
    100 (Claim 0 at)).answer
    ≡ echo_soft (codes "web1")
unfolding computing
older_is_unchecked = refl
