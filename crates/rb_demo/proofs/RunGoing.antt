-- The demo goes on behind its runs: each has room, and one of bob's is always refused.
use Rattle.std.proofs.Common.{◌≡◌, ◌≤◌, ◌+◌, ◌*◌, ◌∙◌, ℕ, List, [], ◌∷◌, ◌++◌, length, reverse, Bool, true, false, Option, Some, None, Result, Ok, Err, option_to_list, codes, map, append-nil, if◌then◌else◌, ap, sym, subst, refl, arith, inl, inr}
use Rattle.std.specs.Option.{option_or}
use Rattle.std.proofs.lemmas.Bool.{le-leb}
use Rattle.rb_causes.specs.Causes.{unless}
use Rattle.rb_causes.specs.declared.row.Row.{Row}
use Rattle.rb_acl.specs.declared.policy.Caller.{Caller}
use Rattle.rb_acl.specs.declared.policy.Decision.TheVariants.{NoneAllows}
use Rattle.rb_job.specs.declared.job.Job.{Job}
use Rattle.rb_marks.specs.declared.plan.Strategy.{Strategy}
use Rattle.rb_marks.specs.declared.plan.Strategy.TheVariants.{NodeFirst, Sequential, Parallel}
use Rattle.rb_plan.specs.Acceptance.{Acceptance}
use Rattle.rb_plan.specs.Laws.{LeavesAreFew}
use Rattle.rb_plan.specs.Refusals.{already_running}
use Rattle.rb_plan.specs.Verdict.{Asked, accepted_of, first_refusal, rules, verdict_of, verdict_on}
use Rattle.rb_plan.specs.Worlds.{Found, job_found, running_of}
use Rattle.rb_plan.specs.declared.refusal.Refusal.{Refusal}
use Rattle.rb_plan.specs.declared.refusal.Refusal.TheVariants.{AlreadyRunning, NoNodeAllowed}
use Rattle.rb_plan.specs.declared.world.RunAsk.{RunAsk}
use Rattle.rb_plan.specs.declared.world.Running.{Running}
use Rattle.rb_plan.specs.declared.world.World.{World}
use Rattle.rb_log.specs.Asks.{ask_text, is_due_ask}
use Rattle.rb_log.specs.Executions.{Execution, executions, running_now, started}
use Rattle.rb_log.specs.Laws.{AskIsKept, RoomIsKept}
use Rattle.rb_log.specs.Legal.{IsLegalLog, MayAsk, rights_of}
use Rattle.rb_log.specs.LogState.{LogState, has_room, log_state, moment as moment_of, most_counted, nodes_number, owed, world_of}
use Rattle.rb_log.specs.Moves.{Moved, full_unless, limited}
use Rattle.rb_log.specs.Readings.{Reading}
use Rattle.rb_log.specs.Rows.{accept_row, counted_bytes}
use Rattle.rb_log.specs.Runs.{next_number, run, run_by, verdict_at}
use Rattle.rb_log.specs.Sums.{leaf_count}
use Rattle.rb_log.specs.Told.{Told}
use Rattle.rb_log.specs.World.{LoggedProject, project_with, projects_at, with_fire}
use Rattle.rb_log.specs.declared.answer.Answer.{Answer}
use Rattle.rb_work.specs.Works.{Outside}
use Rattle.rb_log.proofs.Computing.{computing}
use Rattle.rb_demo.specs.Going.{IsDemoDesk, IsDemoJob, IsGoing, IsNotFull, load}
use Rattle.rb_demo.specs.Hearing.{Always, IsRuled}
use Rattle.rb_demo.specs.Read.{demo_job}
use Rattle.rb_demo.specs.Rounds.{HasRun, PumpsIf, demo_moment, run_call, setting_of}
use Rattle.rb_demo.specs.Settings.{Setting, IsSetting, demo_world}
use Rattle.rb_demo.specs.Verdicts.{asked_in, user_in}
use Rattle.rb_demo.proofs.ImportedAll.{is_setting}
use Rattle.rb_demo.proofs.Load.{behind}
use Rattle.rb_demo.proofs.Ruled.{is_ruled}
use Rattle.rb_demo.proofs.Verdicts.{bob_rules}
use Rattle.rb_demo.proofs.WorkGoing.{HasAll, pump_goes, pump_room}

-- ---- a run, and what it adds where it is accepted

-- nothing is given, and there is no filter
abbrev ask : List ℕ → RunAsk
ask job = record { job = job; given = []; filter = None }

abbrev caller : List ℕ → Caller
caller user = user_in user []

abbrev begun : LogState → List ℕ → Acceptance → Execution
begun s user accepted =
    started (world_of s) (next_number s) (moment_of s demo_moment) (caller user) accepted

abbrev needed : LogState → List ℕ → Acceptance → ℕ
needed s user accepted = 2 + 2 * leaf_count (begun s user accepted)

abbrev accepted_row : LogState → List ℕ → List ℕ → Acceptance → Row
accepted_row s user job accepted =
    accept_row (moment_of s demo_moment) (next_number s) s.policy_number
    (nodes_number s accepted.project) job (caller user) (ask_text (ask job) None)

abbrev ruling : LogState → List ℕ → List ℕ → Result Acceptance Refusal → Moved
ruling s user job v = run_by s (moment_of s demo_moment) (caller user) (ask job) v

abbrev verdict : LogState → List ℕ → List ℕ → Result Acceptance Refusal
verdict s user job = verdict_at s (caller user) (ask job)

-- ---- few leaves, and few bytes

few_by : LeavesAreFew → (world : World) (who : Caller) (a : RunAsk) (draw : ℕ)
    (accepted : Acceptance) (found : Option Found) → job_found world a.job ≡ found
    → verdict_on world who a draw found ≡ Ok accepted
    → length accepted.nodes * accepted.plan.slots ≤ 100000
few_by law world who a draw accepted None is h = absurd (cc)
few_by law world who a draw accepted (Some found) is h =
    let asked : Asked =
    record { world = world; caller = who; ask = a; draw = draw; found = found } in
    law asked accepted is (ap (verdict_on world who a draw) is ∙ h)

few_needed : LeavesAreFew → (s : LogState) (user job : List ℕ) (accepted : Acceptance)
    → verdict s user job ≡ Ok accepted → needed s user accepted ≤ 200002
few_needed law s user job accepted h =
    let few = few_by law (world_of s) (caller user) (ask job) (s.draw + next_number s) accepted
    (job_found (world_of s) job) refl h in
    omega (arith, few)

asked_bytes : (job : List ℕ) → length (ask_text (ask job) None) ≡ 37
unfolding computing
asked_bytes job = refl

job_bytes : (job : List ℕ) → IsDemoJob job → length job ≡ 6
job_bytes job (inl is) = ap length is
job_bytes job (inr (inl is)) = ap length is
job_bytes job (inr (inr is)) = ap length is

row_bytes : (s : LogState) (job : List ℕ) (accepted : Acceptance) → IsDemoJob job
    → counted_bytes (accepted_row s (codes "ann") job accepted) ≤ 100
row_bytes s job accepted is = omega (arith, asked_bytes job, job_bytes job is)

-- ---- room

has_room_for : (s : LogState) (room need : ℕ) (row : Row) → s.rows + owed s + need ≤ room
    → s.counted + counted_bytes row ≤ most_counted → has_room s room need row ≡ true
has_room_for s room need row rows bytes =
    rw (le-leb (s.rows + owed s + need) room rows, le-leb (s.counted + counted_bytes row) most_counted bytes)
    refl

few_bytes : (n b : ℕ) → n ≤ 4000000 → b ≤ 100 → n + b ≤ most_counted
unfolding most_counted
few_bytes n b h k = omega (arith, h, k)

-- ann's run has as much room as it needs
ann_room : (nodes accepted : ℕ) (past : List Row) (room : ℕ) (job : List ℕ) (v : Acceptance)
    → IsGoing nodes accepted past → accepted ≤ 2 → IsDemoJob job
    → load past + needed (log_state past) (codes "ann") v ≤ room
    → has_room (log_state past) room (needed (log_state past) (codes "ann") v)
    (accepted_row (log_state past) (codes "ann") job v) ≡ true
ann_room nodes accepted past room job v g few is rows =
    let s : LogState = log_state past in
    has_room_for s room (needed s (codes "ann") v) (accepted_row s (codes "ann") job v) rows
    (few_bytes s.counted (counted_bytes (accepted_row s (codes "ann") job v))
    (omega (arith, g.bytes, few)) (row_bytes s job v is))

within : (nodes accepted need : ℕ) (past : List Row) → IsGoing nodes accepted past → accepted ≤ 2
    → need ≤ 200002 → load past + need ≤ 1000000
within nodes accepted need past g few low = omega (arith, g.rows, few, low)

not_full_if : (b : Bool) (m : Moved) → b ≡ true → IsNotFull m.answer
    → IsNotFull (full_unless b m).answer
not_full_if true m h n = n
not_full_if false m h n = absurd (cc)

ann_not_full : LeavesAreFew → (nodes accepted : ℕ) (past : List Row) (job : List ℕ)
    (v : Result Acceptance Refusal) → IsGoing nodes accepted past → accepted ≤ 2 → IsDemoJob job
    → verdict (log_state past) (codes "ann") job ≡ v
    → IsNotFull (limited (log_state past) 1000000 (ruling (log_state past) (codes "ann") job v)).answer
ann_not_full law nodes accepted past job (Err refusal) g few is h = tt
ann_not_full law nodes accepted past job (Ok v) g few is h =
    let s : LogState = log_state past in
    not_full_if (has_room s 1000000 (needed s (codes "ann") v) (accepted_row s (codes "ann") job v))
    (ruling s (codes "ann") job (Ok v))
    (ann_room nodes accepted past 1000000 job v g few is
    (within nodes accepted (needed s (codes "ann") v) past g few
    (few_needed law s (codes "ann") job v h))) tt

pub ann_has_room : LeavesAreFew → (told : Told) (job : List ℕ) → IsDemoDesk 2 told → IsDemoJob job
    → Always told (run_call (codes "ann") job) (λ m. IsNotFull m.answer)
ann_has_room law told job g is reading may =
    let s : LogState = log_state (reverse told.log) in
    subst (λ room. IsNotFull (limited s room (run s (moment_of s demo_moment) (caller (codes "ann")) (ask job))).answer)
    (sym g.room)
    (ann_not_full law g.nodes g.accepted (reverse told.log) job (verdict s (codes "ann") job) g.going
    g.within is refl)

-- ---- an accepted run

-- no schedule asked for it, so it fires no job, and its row leaves the world as it is but for what
-- runs
accept_world : AskIsKept → (past : List Row) (job : List ℕ) (v : Acceptance) →
    let row : Row = accepted_row (log_state past) (codes "ann") job v in
    world_of (log_state (row ∷ past))
    ≡ record (world_of (log_state past)) { running = running_now (executions (row ∷ past)) }
accept_world law past job v =
    let row : Row = accepted_row (log_state past) (codes "ann") job v in
    let ps : List LoggedProject = projects_at past in
    ap (λ (due : Bool). record (world_of (log_state past)) {
      projects = map project_with (if due then map (with_fire row) ps else ps);
      running = running_now (executions (row ∷ past));
    }) (ap is_due_ask (law (ask job)))

accept_going : AskIsKept → RoomIsKept → LeavesAreFew → (nodes accepted : ℕ) (past : List Row)
    (job : List ℕ) (v : Acceptance) (reading : Reading) → IsGoing nodes accepted past
    → accepted ≤ 2 → IsDemoJob job → verdict (log_state past) (codes "ann") job ≡ Ok v
    → IsLegalLog (accepted_row (log_state past) (codes "ann") job v ∷ past)
    → IsGoing nodes (accepted + 1) (accepted_row (log_state past) (codes "ann") job v ∷ past)
accept_going asks kept law nodes accepted past job v reading g few is h legal =
    let s : LogState = log_state past in
    let row : Row = accepted_row s (codes "ann") job v in
    let need : ℕ = needed s (codes "ann") v in
    let low = few_needed law s (codes "ann") job v h in
    let room : ℕ = load past + need in
    let fits = ann_room nodes accepted past room job v g few is (omega arith) in
    let added = ap (λ x. (limited s room (ruling s (codes "ann") job x)).row) h
    ∙ ap (λ b. (full_unless b (ruling s (codes "ann") job (Ok v))).row) fits in
    let may : MayAsk (rights_of s) (run_call (codes "ann") job) = (search, refl) in
    let rows = kept past room (run_call (codes "ann") job) reading row
    (record { legal = g.legal; opened = g.opened; may = may; formed = tt; read = tt })
    (omega arith) added in
    let bytes = row_bytes s job v is in
    record {
      legal = legal;
      opened = omega arith;
      running = running_now (executions (row ∷ past));
      world = accept_world asks past job v
          ∙ ap (λ (w : World). record w { running = running_now (executions (row ∷ past)) })
          g.world;
      rows = omega (arith, rows, low, g.rows);
      bytes = omega (arith, bytes, g.bytes);
    }

-- the log behind a run of ann's
ann_behind : AskIsKept → RoomIsKept → LeavesAreFew → (nodes accepted : ℕ) (old new : List Row)
    (job : List ℕ) (reading : Reading) (v : Result Acceptance Refusal)
    → IsGoing nodes accepted (reverse old) → accepted ≤ 2 → IsDemoJob job → verdict (log_state (reverse old)) (codes "ann") job ≡ v
    → IsLegalLog (reverse new)
    → new ≡ old ++ option_to_list
    (limited (log_state (reverse old)) 1000000 (ruling (log_state (reverse old)) (codes "ann") job v)).row
    → (more : ℕ) × (more ≤ 1) × IsGoing nodes (accepted + more) (reverse new)
ann_behind asks kept law nodes accepted old new job reading (Err refusal) g few is h legal rows = (
  0,
  omega arith,
  subst (λ n. IsGoing nodes n (reverse new)) (let zero : accepted ≡ accepted + 0 = omega arith in zero)
      (subst (IsGoing nodes accepted) (sym (behind old new None rows)) g),
)
ann_behind asks kept law nodes accepted old new job reading (Ok v) g few is h legal rows =
    let past : List Row = reverse old in
    let s : LogState = log_state past in
    let row : Row = accepted_row s (codes "ann") job v in
    let fits = ann_room nodes accepted past 1000000 job v g few is
    (within nodes accepted (needed s (codes "ann") v) past g few
    (few_needed law s (codes "ann") job v h)) in
    let whole = behind old new (Some row)
    (rows ∙ ap (λ b. old ++ option_to_list (full_unless b (ruling s (codes "ann") job (Ok v))).row) fits)
    in (
      1,
      omega arith,
      subst (IsGoing nodes (accepted + 1)) (sym whole)
          (accept_going asks kept law nodes accepted past job v reading g few is h
          (subst IsLegalLog whole legal)),
    )

-- what goes on behind a log goes on where the log stays
stays : (most : ℕ) (old new : Told) → IsDemoDesk most old → new.log ≡ old.log → new.room ≡ old.room
    → IsDemoDesk most new
stays most old new g same room = record {
  nodes = g.nodes;
  least = g.least;
  few = g.few;
  accepted = g.accepted;
  within = g.within;
  going = subst (λ log. IsGoing g.nodes g.accepted (reverse log)) (sym same) g.going;
  room = room ∙ g.room;
}

pub looser : (less more : ℕ) (told : Told) → less ≤ more → IsDemoDesk less told → IsDemoDesk more told
looser less more told h g = record {
  nodes = g.nodes;
  least = g.least;
  few = g.few;
  accepted = g.accepted;
  within = omega (arith, g.within, h);
  going = g.going;
  room = g.room;
}

pub ann_goes : AskIsKept → RoomIsKept → LeavesAreFew → (most : ℕ) (old new : Told) (job : List ℕ) (a : Answer)
    → most ≤ 2 → HasAll old → HasAll new → IsDemoJob job → HasRun old new (codes "ann") job a
    → IsDemoDesk most old → IsDemoDesk (most + 1) new
ann_goes asks kept law most old new job a low o n is h g =
    by (is_ruled old new (run_call (codes "ann") job) a o.faults n.faults o.own n.own h.acts)
  where
    by : IsRuled old new (run_call (codes "ann") job) a → IsDemoDesk (most + 1) new
    by (inl none) = looser most (most + 1) new (omega arith) (stays most old new g none.1 h.acts.room)
    by (inr r) =
        let s : LogState = log_state (reverse old.log) in
        let rows = r.rows
        ∙ ap (λ room. old.log ++ option_to_list
        (limited s room (ruling s (codes "ann") job (verdict s (codes "ann") job))).row) g.room in
        let b = ann_behind asks kept law g.nodes g.accepted old.log new.log job r.reading
        (verdict s (codes "ann") job) g.going (omega (arith, g.within, low)) is refl h.acts.legal
        rows in
        record {
          nodes = g.nodes;
          least = g.least;
          few = g.few;
          accepted = g.accepted + b.0;
          within = omega (arith, g.within, b.1);
          going = b.2;
          room = h.acts.room ∙ g.room;
        }

-- ---- bob's runs

-- the demo's world, in which something runs
abbrev world_with : Setting → List Running → World
world_with d now = record (demo_world d) { running = now }

abbrev asked_with : Setting → List Running → ℕ → Job → Asked
asked_with d now draw job =
    record (asked_in d (caller (codes "bob")) draw job) { world = world_with d now }

refused_either : (id name : List ℕ) (strategy : Strategy) (o : Option ℕ) (rest : Option Refusal)
    (r : Refusal) → rest ≡ Some r
    → (refusal : Refusal)
    × (option_or (already_running (demo_job id name strategy) o) rest ≡ Some refusal)
refused_either id name strategy None rest r h = (r, h)
refused_either id name strategy (Some n) rest r h = (AlreadyRunning n, refl)

bob_rules_with : (d : Setting) → IsSetting d → (now : List Running) (draw : ℕ) (id name : List ℕ)
    (strategy : Strategy)
    → (refusal : Refusal)
    × (first_refusal (rules (asked_with d now draw (demo_job id name strategy))) ≡ Some refusal)
bob_rules_with d h now draw id name strategy =
    refused_either id name strategy (running_of (world_with d now) id)
    (first_refusal (rules (asked_in d (caller (codes "bob")) draw (demo_job id name strategy))))
    (NoNodeAllowed (codes "n1") NoneAllows) (bob_rules d h [] draw id name strategy)

abbrev IsBobRefused : World → ℕ → List ℕ → Type 0
IsBobRefused world draw job =
    (refusal : Refusal) × (verdict_of world (caller (codes "bob")) (ask job) draw ≡ Err refusal)

bob_at : (d : Setting) → IsSetting d → (now : List Running) (draw : ℕ) (id name : List ℕ)
    (strategy : Strategy)
    → verdict_of (world_with d now) (caller (codes "bob")) (ask id) draw
    ≡ unless (first_refusal (rules (asked_with d now draw (demo_job id name strategy))))
    (accepted_of (asked_with d now draw (demo_job id name strategy)))
    → IsBobRefused (world_with d now) draw id
bob_at d h now draw id name strategy found =
    let r = bob_rules_with d h now draw id name strategy in (
      r.0,
      found ∙ ap (λ rule. unless rule (accepted_of (asked_with d now draw (demo_job id name strategy))))
          r.1,
    )

bob_by : (d : Setting) → IsSetting d → (now : List Running) (draw : ℕ) (job : List ℕ)
    → IsDemoJob job → IsBobRefused (world_with d now) draw job
bob_by d h now draw job (inl is) =
    subst (IsBobRefused (world_with d now) draw) (sym is)
    (bob_at d h now draw (codes "demo-1") (codes "node-first") NodeFirst refl)
bob_by d h now draw job (inr (inl is)) =
    subst (IsBobRefused (world_with d now) draw) (sym is)
    (bob_at d h now draw (codes "demo-2") (codes "sequential") Sequential refl)
bob_by d h now draw job (inr (inr is)) =
    subst (IsBobRefused (world_with d now) draw) (sym is)
    (bob_at d h now draw (codes "demo-3") (codes "parallel") Parallel refl)

bob_refused : (most : ℕ) (told : Told) (job : List ℕ) → IsDemoDesk most told → IsDemoJob job
    → (refusal : Refusal)
    × (verdict (log_state (reverse told.log)) (codes "bob") job ≡ Err refusal)
bob_refused most told job g is =
    let s : LogState = log_state (reverse told.log) in
    subst (λ w. IsBobRefused w (s.draw + next_number s) job) (sym g.going.world)
    (bob_by (setting_of g.nodes) (is_setting g.nodes g.least g.few) g.going.running
    (s.draw + next_number s) job is)

pub bob_has_room : (most : ℕ) (told : Told) (job : List ℕ) → IsDemoDesk most told → IsDemoJob job
    → Always told (run_call (codes "bob") job) (λ m. IsNotFull m.answer)
bob_has_room most told job g is reading may =
    let s : LogState = log_state (reverse told.log) in
    subst (λ v. IsNotFull (limited s told.room (ruling s (codes "bob") job v)).answer)
    (sym (bob_refused most told job g is).1) tt

pub bob_goes : (most : ℕ) (old new : Told) (job : List ℕ) (a : Answer) → HasAll old → HasAll new
    → IsDemoJob job → HasRun old new (codes "bob") job a → IsDemoDesk most old → IsDemoDesk most new
bob_goes most old new job a o n is h g =
    by (is_ruled old new (run_call (codes "bob") job) a o.faults n.faults o.own n.own h.acts)
  where
    by : IsRuled old new (run_call (codes "bob") job) a → IsDemoDesk most new
    by (inl none) = stays most old new g none.1 h.acts.room
    by (inr r) =
        let s : LogState = log_state (reverse old.log) in
        stays most old new g
        (r.rows
        ∙ ap (λ v. old.log ++ option_to_list (limited s old.room (ruling s (codes "bob") job v)).row)
        (bob_refused most old job g is).1
        ∙ append-nil old.log) h.acts.room

-- ---- a pump

pub pump_goes_on : RoomIsKept → (most : ℕ) (pumps : Bool) (old new : Outside)
    → PumpsIf pumps old new → HasAll old.clerk → HasAll new.clerk
    → IsDemoDesk most old.clerk → IsDemoDesk most new.clerk
pump_goes_on kept most pumps old new h o n g = record {
  nodes = g.nodes;
  least = g.least;
  few = g.few;
  accepted = g.accepted;
  within = g.within;
  going = pump_goes kept g.nodes g.accepted pumps old new h o n g.going;
  room = pump_room pumps old new h ∙ g.room;
}
