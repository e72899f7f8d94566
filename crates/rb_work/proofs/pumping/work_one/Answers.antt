use Rattle.std.proofs.Common.{[], ◌∷◌, Contains, Ok, Err, sym, subst}
use Rattle.std.proofs.Math.Facts.{to_z-of_z}
use Rattle.rb_causes.specs.Spawners.{Ran, ShownRuns}
use Rattle.rb_causes.specs.declared.spawner.SpawnRun.{SpawnRun}
use Rattle.rb_causes.proofs.RanLaws.{ran_behind}
use Rattle.rb_log.specs.Told.{Told, Acts}
use Rattle.rb_log.specs.declared.call.Call.TheVariants.{Report}
use Rattle.rb_work.specs.Hearing.{HasClaimed}
use Rattle.rb_work.specs.declared.pumped.Pumped.TheVariants.{NoMemory}
use Rattle.rb_work.proofs.Stopped.{handed, none_given, not_ready, task_leaf}
use Rattle.rb_work.proofs.OneTask.{worked_one}
use Rattle.rb_work.proofs.pumping.work_one.Goals as goal

pub returns-in_err-ready-clause-stopped : goal.returns-in_err-ready-clause-stopped
returns-in_err-ready-clause-stopped g c =
    let clerk : Told = g.C.Clerk.told c.args.clerk.now in
    let before : ShownRuns = g.S.Spawner.shown c.args.spawner.now in
    let ready : ShownRuns = g.S.Spawner.shown c.ready.new.self in
    handed c.args.at c.args.worker (record { clerk = clerk; spawner = before })
    (record { clerk = clerk; spawner = ready }) c.from_residual.result NoMemory
    c.from_residual.ensures.1
    (not_ready c.args.at c.args.worker clerk before ready c.ready.ensures.runs
    c.ready.ensures.faults)

pub returns-in_err-task-clause-stopped : goal.returns-in_err-task-clause-stopped
returns-in_err-task-clause-stopped g c =
    let said = c.in_err-task.field-0.0 in
    let old : Told = g.C.Clerk.told c.args.clerk.now in
    let new : Told = g.C.Clerk.told c.claim.new.clerk in
    let before : ShownRuns = g.S.Spawner.shown c.args.spawner.now in
    let ready : ShownRuns = g.S.Spawner.shown c.ready.new.self in
    let claimed : HasClaimed c.args.at c.args.worker old new (Err said) =
    subst (λ at. HasClaimed at c.args.worker old new (Err said)) (to_z-of_z c.ranges.at)
    c.in_err-task.ensures in
    handed c.args.at c.args.worker (record { clerk = old; spawner = before })
    (record { clerk = new; spawner = ready }) c.from_residual-in_err-task.result said
    c.from_residual-in_err-task.ensures.1
    (none_given c.args.at c.args.worker old new before ready said c.ready.ensures.runs
    c.ready.ensures.faults claimed)

pub report-requires-clause-leaf : goal.report-requires-clause-leaf
report-requires-clause-leaf g c =
    let old : Told = g.C.Clerk.told c.args.clerk.now in
    let mid : Told = g.C.Clerk.told c.claim.new.clerk in
    let claimed : HasClaimed c.args.at c.args.worker old mid (Ok c.in_ok-task.task) =
    subst (λ at. HasClaimed at c.args.worker old mid (Ok c.in_ok-task.task))
    (to_z-of_z c.ranges.at) c.in_ok-task.ensures in
    subst (λ o. Contains mid.rights.leaves o) (sym c.start-done.ensures.claimed)
    (task_leaf c.args.worker c.args.at claimed.mid mid claimed.answer_is c.in_ok-task.task
    claimed.acts claimed.no_more claimed.heard_is)

pub returns-clause-one : goal.returns-clause-one
returns-clause-one g c =
    let old : Told = g.C.Clerk.told c.args.clerk.now in
    let mid : Told = g.C.Clerk.told c.claim.new.clerk in
    let new : Told = g.C.Clerk.told c.report.new.clerk in
    let heard = c.report.ensures.told.0 in
    let done = c.start-done.result in
    let run : SpawnRun = record { words = c.in_ok-task.task.words; ending = done.ending } in
    let claimed : HasClaimed c.args.at c.args.worker old mid (Ok c.in_ok-task.task) =
    subst (λ at. HasClaimed at c.args.worker old mid (Ok c.in_ok-task.task))
    (to_z-of_z c.ranges.at) c.in_ok-task.ensures in
    let reports : Acts mid new (Report done c.args.at) heard =
    subst (λ at. Acts mid new (Report done at) heard) (to_z-of_z c.ranges.at)
    c.report.ensures.told.1 in
    worked_one c.pump_laws.ensures c.args.at c.args.worker old mid new heard
    c.in_ok-task.task done claimed reports c.start-done.ensures.claimed
    c.report.ensures.ending (g.S.Spawner.shown c.args.spawner.now)
    (g.S.Spawner.shown c.report.new.spawner)
    (subst (λ s. Ran (run ∷ []) (g.S.Spawner.shown c.args.spawner.now) s)
    (sym c.report.ensures.still)
    (ran_behind (g.S.Spawner.shown c.args.spawner.now)
    (g.S.Spawner.shown c.ready.new.self)
    c.ready.ensures.runs c.ready.ensures.faults c.start-done.ensures.ran))
