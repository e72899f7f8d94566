-- A claim is for a worker that is there.
use Rattle.std.proofs.Common.{ℤ, arith}
use Rattle.rb_log.specs.declared.call.Call.{Call}
use Rattle.rb_log.specs.declared.call.Call.TheVariants.{Claim}
use Rattle.rb_desk.proofs.Named.{claims_for, decided_then, no_worker}
use Rattle.rb_desk.proofs.judging.claim_change.Goals as goal

pub returns-then-worker-from : goal.returns-then-worker-from
returns-then-worker-from c past tabled added =
    no_worker past c.args.tables.now c.args.worker c.args.at tabled (omega arith) added

pub changed-requires : goal.changed-requires
changed-requires c =
    let t = c.requires in
    let call : ℤ → Call = Claim c.args.worker in (
      t.0,
      call c.args.at,
      decided_then t.0 call c.args.at c.claim.result c.ranges.at (c.claim.ensures t.0 t.1),
    )

pub returns : goal.returns
returns c past tabled =
    let call : ℤ → Call = Claim c.args.worker in
    claims_for past c.args.tables.now c.args.worker c.args.at c.changed.result tabled
    (omega arith) (c.changed.ensures past (call c.args.at)
    (decided_then past call c.args.at c.claim.result c.ranges.at (c.claim.ensures past tabled)))
