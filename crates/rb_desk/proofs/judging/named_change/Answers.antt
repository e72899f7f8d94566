-- A tick that skips a job, and claims.
use Rattle.std.proofs.Common.{ap, nat_eq, subst}
use Rattle.rb_desk.specs.Following.{ClaimsFor}
use Rattle.rb_log.specs.LogState.{log_state}
use Rattle.rb_log.specs.declared.call.Call.TheVariants.{Tick}
use Rattle.rb_desk.proofs.Named.{begin_named, claim_named, decided_now, moment_kept, names_by, skipped_named, withdraw_named}
use Rattle.rb_desk.proofs.judging.named_change.Goals as goal

pub changed-requires : goal.changed-requires
changed-requires c =
    let t = c.requires.tabled in
    let at = c.args.row.now.at in (
      t.0,
      Tick at,
      decided_now t.0 Tick at c.tick.result c.requires.at (c.tick.ensures t.0 t.1),
    )

pub returns-in-6 : goal.returns-in-6
returns-in-6 c past tabled other =
    let row = c.args.row.now in
    names_by past row (Tick row.at) c.changed.result
    (skipped_named (log_state past) row (ap (λ k. nat_eq k 6) c.in-6.is)) c.requires.at tt
    (c.changed.ensures past (Tick row.at)
    (decided_now past Tick row.at c.tick.result c.requires.at (c.tick.ensures past tabled)))

pub returns-in-8 : goal.returns-in-8
returns-in-8 c past tabled other =
    let row = c.args.row.now in
    claim_named past row row.c c.claim_change.result
    (begin_named (log_state past) row (ap (λ k. nat_eq k 8) c.in-8.is)) c.requires.at
    (subst (λ at. ClaimsFor past row.c at c.claim_change.result)
    (moment_kept row.at c.requires.at) (c.claim_change.ensures past tabled))

pub returns-in-12 : goal.returns-in-12
returns-in-12 c past tabled other =
    let row = c.args.row.now in
    claim_named past row 0 c.claim_change-in-12.result
    (withdraw_named (log_state past) row (ap (λ k. nat_eq k 12) c.in-12.is)) c.requires.at
    (subst (λ at. ClaimsFor past 0 at c.claim_change-in-12.result)
    (moment_kept row.at c.requires.at) (c.claim_change-in-12.ensures past tabled))
