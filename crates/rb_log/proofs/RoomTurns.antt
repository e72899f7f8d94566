-- The row that a turn adds leaves room for what is owed behind it.
use Rattle.std.proofs.Common.{◌≡◌, ◌∙◌, ◌≤◌, ◌≤ℤ◌, ◌+◌, ◌*◌, inl, inr, ℕ, ℤ, pos, Option, List, [], ◌∷◌, ◌++◌, length, map, Bool, true, false, not, nat_eq, Contains, Some, None, Result, Ok, Err, is_some, slice_get, unwrap_or, codes, ap, sym, subst, refl, arith, if◌then◌else◌}
use Rattle.std.specs.List.{list_any}
use Rattle.std.proofs.lemmas.Bool.{eqb-true, eq-eqb, not-true}
use Rattle.std.proofs.lemmas.Option.{slice_get-get_or}
use Rattle.rb_causes.specs.declared.row.Row.{Row}
use Rattle.rb_causes.proofs.Lists.{find_gives, from_filter, filter_passes}
use Rattle.rb_yaml.specs.Documents.{docs_of}
use Rattle.rb_inventory.specs.Inventories.{inventory_of}
use Rattle.rb_cron.specs.ZoneRules.{is_rule}
use Rattle.rb_acl.specs.declared.policy.Caller.{Caller}
use Rattle.rb_marks.specs.First.{status_of, MayFollow, is_lost, stops}
use Rattle.rb_marks.specs.declared.mark.Mark.{Mark}
use Rattle.rb_marks.specs.declared.mark.Mark.TheVariants.{Begin, End, Abort, Withdraw}
use Rattle.rb_plan.specs.Acceptance.{Acceptance}
use Rattle.rb_plan.specs.Verdict.{verdict_of}
use Rattle.rb_plan.specs.Refusals.{refusal_number}
use Rattle.rb_plan.specs.declared.refusal.Refusal.{Refusal}
use Rattle.rb_plan.specs.declared.world.RunAsk.{RunAsk}
use Rattle.rb_log.specs.Readings.{Reading}
use Rattle.rb_log.specs.Rows.{is_opened, is_clean_caller, zone_row, nodes_row, policy_row, jobs_row, accept_row, skipped_row, abort_row, begin_row, end_row, withdraw_row, close_row}
use Rattle.rb_log.specs.Asks.{ask_of, ask_text, scheduled_ask}
use Rattle.rb_log.specs.World.{latest_of, job_id, latest_nodes}
use Rattle.rb_log.specs.Tasks.{DoneValue}
use Rattle.rb_log.specs.Executions.{Execution, executions, leaf_of, is_running, marks_of, marked, asked, started, started_if}
use Rattle.rb_log.specs.Sums.{leaf_count, owed_by, open_doors, open_leaves}
use Rattle.rb_log.specs.LogState.{LogState, log_state, execution_at, nodes_number, running_executions, world_of, owed}
use Rattle.rb_log.specs.Moves.{Moved, must, read_as, access_in, is_name, has_body, limited}
use Rattle.rb_log.specs.Imports.{import_zone, import_nodes, import_policy, import_jobs, imported_job, changes_any, if_checked, may_import_policies, may_import_jobs, has_place_for_file, ids_free, names_free}
use Rattle.rb_log.specs.Runs.{known, may_act_on, abort, next_number, run, run_by, verdict_at}
use Rattle.rb_log.specs.Ticks.{DueJob, first_due, instant_number, tick, tick_on, tick_by}
use Rattle.rb_log.specs.Claims.{claim, report, reported_end_row, leaf_number_in}
use Rattle.rb_log.specs.Legal.{IsLegalLog}
use Rattle.rb_log.specs.Laws.{SlotsAreBounded, PlansAreSound, LeavesAreSound}
use Rattle.rb_log.specs.declared.answer.Answer.TheVariants as answer
use Rattle.rb_log.proofs.ExecutionLaws.{executions_are_numbered}
use Rattle.rb_log.proofs.EndLaws.{Withdrawn, claim_begins, claim_withdraws, end_marks, policies_before}
use Rattle.rb_log.proofs.OpenLaws.{all_open, begin_marks}
use Rattle.rb_log.proofs.MarkLaws.{all_legal, running_is, must_ok, known_ok, open_is}
use Rattle.rb_log.proofs.MarkCounts.{leaves_of, room_for}
use Rattle.rb_log.proofs.RoomLaws.{owing, total, owed_is, IsQuiet, unmarked_all, zone_quiet, nodes_quiet, policy_quiet, jobs_quiet, skipped_quiet, close_quiet, less_total, owing_less, NeedsOne, needs_bind, needs_imported, fits, less_doors, open_runs, cond_most}
use Rattle.rb_log.proofs.RowLaws.{caller_is_kept}
use Rattle.rb_log.proofs.TickRows.{clean_importer, held_ask}
use Rattle.rb_log.proofs.TurnLaws.{IsTaken, bind_row, limited_row, zone_row_is, nodes_row_is, policy_row_is, jobs_row_is, abort_row_is, claim_row_is}

-- ---- imports need one row

zone_need : (s : LogState) (now : ℤ) (zone rule : List ℕ) → NeedsOne (import_zone s now zone rule)
zone_need s now zone rule =
    needs_bind (must (is_rule rule) answer.BadZone) _ (λ good.
    needs_imported (not (has_body rule (latest_of zone s.zones))) s.zones_number []
    (λ n. zone_row now n zone rule))

nodes_need : (s : LogState) (now : ℤ) (project body : List ℕ)
    → NeedsOne (import_nodes s now project body)
nodes_need s now project body =
    needs_bind (must (is_name project) answer.BadName) _ (λ named.
    needs_bind (read_as answer.BadYaml (docs_of body)) _ (λ docs.
    needs_bind (read_as answer.BadNodes (inventory_of docs)) _ (λ inventory.
    needs_imported (not (has_body body (latest_nodes project s.projects))) (nodes_number s project)
    []
    (λ n. nodes_row now n project body))))

policy_need : (reading : Reading) (s : LogState) (now : ℤ) (caller : Caller) (checked : Bool)
    (name body : List ℕ) → NeedsOne (import_policy reading s now caller checked name body)
policy_need reading s now caller checked name body =
    needs_bind (must (is_name name) answer.BadName) _ (λ named.
    needs_bind (if_checked checked (may_import_policies s caller)) _ (λ permission.
    needs_bind (read_as answer.BadYaml (docs_of body)) _ (λ docs.
    needs_bind (read_as answer.BadPolicy reading.policies) _ (λ policies.
    needs_bind (must (has_place_for_file s.files name) answer.TooManyFiles) _ (λ place.
    needs_imported (not (has_body body (latest_of name s.files))) s.policy_number []
    (λ n. policy_row now n checked name caller body))))))

jobs_need : (reading : Reading) (s : LogState) (now : ℤ) (caller : Caller) (checked : Bool)
    (project body : List ℕ) → NeedsOne (import_jobs reading s now caller checked project body)
jobs_need reading s now caller checked project body =
    needs_bind (must (is_some (latest_nodes project s.projects)) answer.NoProject) _ (λ there.
    needs_bind (read_as answer.BadYaml (docs_of body)) _ (λ docs.
    needs_bind (read_as answer.BadJobs reading.jobs) _ (λ jobs.
    needs_bind (ids_free s.projects project [] (map (job_id project) jobs)) _ (λ free.
    needs_bind (names_free s.projects project jobs) _ (λ unnamed.
    needs_bind (if_checked checked
    (may_import_jobs (access_in s project caller) project s.projects jobs)) _
    (λ permission.
    needs_imported (changes_any (map (imported_job project s.projects) jobs)) s.jobs_number
    (map (imported_job project s.projects) jobs)
    (λ n. jobs_row now n checked project caller body)))))))

-- ---- what is owed behind a row

-- the rows and what is owed do not pass the room
abbrev pub Fits : ℕ → List Row → Type 0
Fits room log = length log + owed (log_state log) ≤ room

quiet_owes : (past : List Row) (row : Row) → IsQuiet row
    → total (map (marked (policies_before past) row) (executions past)) + length (open_doors past)
    ≡ owed (log_state past)
quiet_owes past row q =
    ap (λ es. total es + length (open_doors past))
    (unmarked_all (policies_before past) row (executions past) q)
    ∙ sym (owed_is past)

if_mark : (b : Bool) (ms : List Mark) → b ≡ true → (if b then ms else []) ≡ ms
if_mark true ms h = refl
if_mark false ms h = absurd (grind (arith, h))

total_more : (es : List Execution) (x : Execution) → total (es ++ x ∷ []) ≡ total es + owing x
total_more [] x = omega arith
total_more (e ∷ es) x = let h = total_more es x in omega (arith, h)

-- a row that marks one execution by a mark that may come
pub marked_less : SlotsAreBounded → PlansAreSound → LeavesAreSound → (past : List Row)
    → IsLegalLog past → (row : Row) (j : ℕ) (e : Execution) (m shown : Mark)
    → slice_get (executions past) j ≡ Some e
    → is_opened row ≡ false → row.a ≡ e.number → marks_of row e ≡ shown ∷ []
    → is_running e ≡ true → MayFollow e.accepted.plan e.marks m → is_lost m ≡ false
    → total (map (marked (policies_before past) row) (executions past)) + 1
    ≤ total (executions past)
marked_less slots plans leaves past legal row j e m shown get o named marks runs follows kept =
    let sound = plans past j e legal get in
    let few = room_for e.accepted.plan e.marks m sound (all_legal slots plans past legal j e get)
    follows kept in
    let count : leaf_count e ≡ leaves_of e.accepted.plan =
    ap (λ n. n * e.accepted.plan.slots) (leaves past j e legal get).nodes in
    less_total (policies_before past) row 0 (executions past)
    (λ k d g. let q = executions_are_numbered past k d g in omega (arith, q)) o j e get named
    (owing_less (policies_before past) row e shown marks runs (omega (arith, few, count)))

-- a node that a row withdraws is one of a running execution
pub withdrawn_less : SlotsAreBounded → PlansAreSound → LeavesAreSound → (past : List Row)
    → IsLegalLog past → (now : ℤ) (n k policy_number : ℕ)
    → Withdrawn (running_executions (log_state past)) (withdraw_row now n k policy_number)
    → total (executions (withdraw_row now n k policy_number ∷ past)) + 1
    ≤ total (executions past)
withdrawn_less slots plans leaves past legal now n k policy_number w =
    let r : Row = withdraw_row now n k policy_number in
    let f = from_filter is_running (executions past) w.place w.execution w.there in
    let runs = filter_passes is_running (executions past) w.place w.execution w.there in
    marked_less slots plans leaves past legal r f.0 w.execution (Withdraw k) (Withdraw k) f.1 refl
    w.number
    (if_mark (nat_eq n w.execution.number) (Withdraw k ∷ [])
    (eq-eqb n w.execution.number w.number)) runs w.may refl

module _ (past : List Row) (room : ℕ) (now : ℤ) where
  abbrev s : LogState
  s = log_state past

  pub zone_fit : (zone rule : List ℕ) (row : Row)
      → (limited s room (import_zone s now zone rule)).row ≡ Some row → Fits room (row ∷ past)
  zone_fit zone rule row h =
      let m : Moved = import_zone s now zone rule in
      let put = limited_row s room m row h in
      let is = zone_row_is s now zone rule row put in
      let low = fits s room m row 1 (zone_need s now zone rule row put) h in
      let r : Row = zone_row now is.0 zone rule in
      let same : owed (log_state (r ∷ past)) ≡ owed s =
      owed_is (r ∷ past) ∙ quiet_owes past r (zone_quiet now is.0 zone rule) in
      subst (λ r. Fits room (r ∷ past)) (sym is.1) (omega (arith, same, low))

  pub nodes_fit : (project body : List ℕ) (row : Row)
      → (limited s room (import_nodes s now project body)).row ≡ Some row → Fits room (row ∷ past)
  nodes_fit project body row h =
      let m : Moved = import_nodes s now project body in
      let put = limited_row s room m row h in
      let is = nodes_row_is s now project body row put in
      let low = fits s room m row 1 (nodes_need s now project body row put) h in
      let r : Row = nodes_row now is.0 project body in
      let same : owed (log_state (r ∷ past)) ≡ owed s =
      owed_is (r ∷ past) ∙ quiet_owes past r (nodes_quiet now is.0 project body) in
      subst (λ r. Fits room (r ∷ past)) (sym is.1) (omega (arith, same, low))

  pub policy_fit : (reading : Reading) (caller : Caller) (checked : Bool) (name body : List ℕ)
      (row : Row) → (limited s room (import_policy reading s now caller checked name body)).row
      ≡ Some row
      → Fits room (row ∷ past)
  policy_fit reading caller checked name body row h =
      let m : Moved = import_policy reading s now caller checked name body in
      let put = limited_row s room m row h in
      let is = policy_row_is reading s now caller checked name body row put in
      let low = fits s room m row 1 (policy_need reading s now caller checked name body row put)
      h in
      let r : Row = policy_row now is.0 checked name caller body in
      let same : owed (log_state (r ∷ past)) ≡ owed s =
      owed_is (r ∷ past) ∙ quiet_owes past r (policy_quiet now is.0 checked name caller body) in
      subst (λ r. Fits room (r ∷ past)) (sym is.1) (omega (arith, same, low))

  pub jobs_fit : (reading : Reading) (caller : Caller) (checked : Bool) (project body : List ℕ)
      (row : Row) → (limited s room (import_jobs reading s now caller checked project body)).row
      ≡ Some row
      → Fits room (row ∷ past)
  jobs_fit reading caller checked project body row h =
      let m : Moved = import_jobs reading s now caller checked project body in
      let put = limited_row s room m row h in
      let is = jobs_row_is reading s now caller checked project body row put in
      let low = fits s room m row 1 (jobs_need reading s now caller checked project body row put)
      h in
      let r : Row = jobs_row now is.0 checked project caller body in
      let same : owed (log_state (r ∷ past)) ≡ owed s =
      owed_is (r ∷ past) ∙ quiet_owes past r (jobs_quiet now is.0 checked project caller body) in
      subst (λ r. Fits room (r ∷ past)) (sym is.1) (omega (arith, same, low))

  pub close_fits : (door : ℕ) → Contains (open_doors past) door → Fits room past
      → Fits room (close_row now door ∷ past)
  close_fits door has low =
      let r : Row = close_row now door in
      let get : slice_get (open_doors past) has.0 ≡ Some door =
      slice_get-get_or (open_doors past) has.0 door has.1 ∙ ap Some has.2 in
      let fewer = less_doors (open_doors past) has.0 door get in
      let marks : total (map (marked (policies_before past) r) (executions past))
      ≡ total (executions past) =
      ap total (unmarked_all (policies_before past) r (executions past) (close_quiet now door)) in
      omega (arith, owed_is past, owed_is (r ∷ past), marks, fewer, low)

  pub abort_fits : SlotsAreBounded → PlansAreSound → LeavesAreSound → IsLegalLog past
      → Fits room past
      → (caller : Caller) (number : ℕ) (row : Row)
      → (limited s room (abort s now caller number)).row ≡ Some row → Fits room (row ∷ past)
  abort_fits slots plans leaves legal low caller number row h =
      let put = limited_row s room (abort s now caller number) row h in
      let is = abort_row_is s now caller number row put in
      let a = bind_row (known s number) _ row put in
      let b = bind_row (may_act_on s caller (codes "kill") a.0) _ row a.2 in
      let c = bind_row (must (is_running a.0) answer.Ended) _ row b.2 in
      let d = bind_row (must (not (list_any stops a.0.marks)) answer.Aborting) _ row c.2 in
      let g = find_gives (λ x. nat_eq x.number number) (executions past) a.0
      (known_ok (execution_at s number) a.0 a.1) in
      let named : number ≡ a.0.number = sym (eqb-true a.0.number number g.2) in
      let runs : is_running a.0 ≡ true = must_ok (is_running a.0) answer.Ended c.0 c.1 in
      let first : list_any stops a.0.marks ≡ false =
      not-true (list_any stops a.0.marks)
      (must_ok (not (list_any stops a.0.marks)) answer.Aborting d.0 d.1) in
      let r : Row = abort_row now number caller in
      let less = marked_less slots plans leaves past legal r g.0 a.0 Abort Abort g.1 refl named
      (if_mark (nat_eq number a.0.number) (Abort ∷ []) (eq-eqb number a.0.number named)) runs
      (running_is (status_of a.0.accepted.plan a.0.marks) runs, first) refl in
      subst (λ r. Fits room (r ∷ past)) (sym is)
      (omega (arith, owed_is past, owed_is (r ∷ past), less, low))

  taken_fits : SlotsAreBounded → PlansAreSound → LeavesAreSound → IsLegalLog past
      → Fits room past
      → (worker : ℕ) (row : Row) → (claim s now worker).row ≡ Some row → IsTaken s now worker row
      → Fits room (row ∷ past)
  taken_fits slots plans leaves legal low worker row put (inl is) =
      let r : Row = begin_row now is.0 is.1 worker in
      let b = claim_begins s now worker r refl (put ∙ ap Some is.2) in
      let f = from_filter is_running (executions past) b.place b.execution b.there in
      let runs = filter_passes is_running (executions past) b.place b.execution b.there in
      let less = marked_less slots plans leaves past legal r f.0 b.execution (Begin b.leaf)
      (Begin (leaf_of b.execution is.1)) f.1 refl b.number
      (begin_marks r b.execution refl (eq-eqb is.0 b.execution.number b.number)) runs b.first
      refl in
      subst (λ r. Fits room (r ∷ past)) (sym is.2)
      (omega (arith, owed_is past, owed_is (r ∷ past), less, low))
  taken_fits slots plans leaves legal low worker row put (inr is) =
      let r : Row = withdraw_row now is.0 is.1 s.policy_number in
      let w = claim_withdraws s now worker r refl (put ∙ ap Some is.2) in
      let less = withdrawn_less slots plans leaves past legal now is.0 is.1 s.policy_number w in
      subst (λ r. Fits room (r ∷ past)) (sym is.2)
      (omega (arith, owed_is past, owed_is (r ∷ past), less, low))

  pub claim_fits : SlotsAreBounded → PlansAreSound → LeavesAreSound → IsLegalLog past
      → Fits room past
      → (worker : ℕ) (row : Row) → (limited s room (claim s now worker)).row ≡ Some row
      → Fits room (row ∷ past)
  claim_fits slots plans leaves legal low worker row h =
      let put = limited_row s room (claim s now worker) row h in
      taken_fits slots plans leaves legal low worker row put (claim_row_is s now worker row put)

  pub report_fits : SlotsAreBounded → PlansAreSound → LeavesAreSound → IsLegalLog past
      → Fits room past
      → (done : DoneValue) (row : Row) → Contains (open_leaves past) done.claimed
      → (limited s room (report s now done)).row ≡ Some row → Fits room (row ∷ past)
  report_fits slots plans leaves legal low done row has h =
      let put = limited_row s room (report s now done) row h in
      let here : slice_get (open_leaves past) has.0 ≡ Some done.claimed =
      slice_get-get_or (open_leaves past) has.0 done.claimed has.1 ∙ ap Some has.2 in
      let o = all_open slots plans past legal has.0 done.claimed here in
      let e : Execution = o.execution in
      let g = find_gives (λ x. nat_eq x.number done.claimed.execution) (executions past) e
      o.there in
      let named : done.claimed.execution ≡ e.number =
      sym (eqb-true e.number done.claimed.execution g.2) in
      let n : ℕ = leaf_number_in e done.claimed.leaf in
      let r : Row = end_row now done.claimed.execution n done.ending in
      let is : row ≡ r =
      sym (ap (λ x. unwrap_or x row) (sym (ap (λ f. reported_end_row now done f) o.there) ∙ put)) in
      let is_open : _ = open_is e.marks done.claimed.leaf o.is in
      let less = marked_less slots plans leaves past legal r g.0 e
      (End done.claimed.leaf done.ending) _ g.1
      refl named (end_marks r e refl (eq-eqb done.claimed.execution e.number named))
      (open_runs e.accepted.plan e.marks done.claimed.leaf is_open o.is.kept)
      (is_open, o.is.kept) refl in
      subst (λ r. Fits room (r ∷ past)) (sym is)
      (omega (arith, owed_is past, owed_is (r ∷ past), less, low))

  -- an acceptance whose ask is read back as it was written
  accept_fits : (caller : Caller) (ask : RunAsk) (due : Option ℕ) (accepted : Acceptance)
      → is_clean_caller caller ≡ true → ask_of ask.job (ask_text ask due) ≡ Some (ask, due)
      → verdict_of (world_of s) caller ask (s.draw + next_number s) ≡ Ok accepted
      → length past + owed s
      + (2 + 2 * leaf_count (started (world_of s) (next_number s) now caller accepted)) ≤ room
      → Fits room
      (accept_row now (next_number s) s.policy_number (nodes_number s accepted.project) ask.job
      caller (ask_text ask due) ∷ past)
  accept_fits caller ask due accepted clean read is low =
      let x : Execution = started (world_of s) (next_number s) now caller accepted in
      let r : Row = accept_row now (next_number s) s.policy_number (nodes_number s accepted.project)
      ask.job caller (ask_text ask due) in
      let begun : asked (world_of s) (next_number s) s.draw r (ask_of ask.job (ask_text ask due))
      ≡ x ∷ [] =
      ap (asked (world_of s) (next_number s) s.draw r) read
      ∙ ap (λ c. started_if (world_of s) (next_number s) now c (verdict_of (world_of s) c ask
      (s.draw + next_number s))) (caller_is_kept caller clean)
      ∙ ap (started_if (world_of s) (next_number s) now caller) is in
      let after : total (executions (r ∷ past)) ≡ total (executions past) + owing x =
      ap (λ new. total (executions past ++ new)) begun ∙ total_more (executions past) x in
      let most : owing x ≤ owed_by x = cond_most (is_running x) (owed_by x) in
      omega (arith, owed_is past, owed_is (r ∷ past), after, most, low)

  run_fits_by : (caller : Caller) (ask : RunAsk) (row : Row) (v : Result Acceptance Refusal)
      → is_clean_caller caller ≡ true → ask_of ask.job (ask_text ask None) ≡ Some (ask, None)
      → verdict_of (world_of s) caller ask (s.draw + next_number s) ≡ v
      → (limited s room (run_by s now caller ask v)).row ≡ Some row → Fits room (row ∷ past)
  run_fits_by caller ask row (Err refusal) clean read is h = absurd (grind (arith, h))
  run_fits_by caller ask row (Ok accepted) clean read is h =
      let m : Moved = run_by s now caller ask (Ok accepted) in
      let x : Execution = started (world_of s) (next_number s) now caller accepted in
      let put = limited_row s room m row h in
      let low = fits s room m row (2 + 2 * leaf_count x) refl h in
      subst (λ r. Fits room (r ∷ past)) (ap (λ o. unwrap_or o row) put)
      (accept_fits caller ask None accepted clean read is low)

  pub run_fits : (caller : Caller) (ask : RunAsk) (row : Row) → is_clean_caller caller ≡ true
      → ask_of ask.job (ask_text ask None) ≡ Some (ask, None)
      → (limited s room (run s now caller ask)).row ≡ Some row → Fits room (row ∷ past)
  run_fits caller ask row clean read h =
      run_fits_by caller ask row (verdict_of (world_of s) caller ask (s.draw + next_number s)) clean
      read refl h

  -- ---- a tick

  skipped_fits : (due refusal : ℕ) (job : List ℕ) → length past + owed s + 1 ≤ room
      → Fits room (skipped_row now due refusal job ∷ past)
  skipped_fits due refusal job low =
      let r : Row = skipped_row now due refusal job in
      let same : owed (log_state (r ∷ past)) ≡ owed s =
      owed_is (r ∷ past) ∙ quiet_owes past r (skipped_quiet now due refusal job) in
      omega (arith, same, low)

  tick_fits_by : (d : DueJob) (row : Row) (v : Result Acceptance Refusal)
      → is_clean_caller d.held.importer ≡ true
      → ask_of d.held.id (ask_text (scheduled_ask d.held.id) (Some (instant_number d)))
      ≡ Some (scheduled_ask d.held.id, Some (instant_number d))
      → verdict_at s d.held.importer (scheduled_ask d.held.id) ≡ v
      → (limited s room (tick_by s now d v)).row ≡ Some row → Fits room (row ∷ past)
  tick_fits_by d row (Ok accepted) clean read is h =
      let m : Moved = tick_by s now d (Ok accepted) in
      let x : Execution = started (world_of s) (next_number s) now d.held.importer accepted in
      let put = limited_row s room m row h in
      let low = fits s room m row (2 + 2 * leaf_count x) refl h in
      subst (λ r. Fits room (r ∷ past)) (ap (λ o. unwrap_or o row) put)
      (accept_fits d.held.importer (scheduled_ask d.held.id) (Some (instant_number d)) accepted
      clean read is low)
  tick_fits_by d row (Err refusal) clean read is h =
      let m : Moved = tick_by s now d (Err refusal) in
      let put = limited_row s room m row h in
      let low = fits s room m row 1 refl h in
      subst (λ r. Fits room (r ∷ past)) (ap (λ o. unwrap_or o row) put)
      (skipped_fits (instant_number d) (refusal_number refusal) d.held.id low)

  tick_fits_on : IsLegalLog past → now ≤ℤ pos 7258118399 → (due : Option DueJob) (row : Row)
      → first_due s now ≡ due → (limited s room (tick_on s now due)).row ≡ Some row
      → Fits room (row ∷ past)
  tick_fits_on legal low None row is h = absurd (grind (arith, h))
  tick_fits_on legal low (Some d) row is h =
      tick_fits_by d row (verdict_at s d.held.importer (scheduled_ask d.held.id))
      (clean_importer past now d legal is) (held_ask s now d low is) refl h

  pub tick_fits : IsLegalLog past → now ≤ℤ pos 7258118399 → (row : Row)
      → (limited s room (tick s now)).row ≡ Some row → Fits room (row ∷ past)
  tick_fits legal low row h = tick_fits_on legal low (first_due s now) row refl h
