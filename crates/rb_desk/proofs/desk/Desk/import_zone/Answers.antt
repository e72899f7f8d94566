use Rattle.std.proofs.Common.{ℤ, reverse, refl}
use Rattle.rb_log.specs.declared.call.Call.{Call}
use Rattle.rb_log.specs.declared.call.Call.TheVariants as calls
use Rattle.rb_desk.proofs.Growing.{desk_of}
use Rattle.rb_desk.proofs.Settled.{decided_at}
use Rattle.rb_desk.proofs.desk.Desk.import_zone.Goals as goal

pub settle-requires : goal.settle-requires
settle-requires g c =
    let call : ℤ → Call = calls.ImportZone c.args.name c.args.rule in (
      call c.args.at,
      decided_at (desk_of c.self.inside.ledger c.self.inside.room) c.args.self.now call c.args.at
          c.import_zone-decided.result c.self.view_is c.requires tt refl refl c.ranges.at
          (c.import_zone-decided.ensures (reverse c.self.inside.ledger.log) c.self.invariant.1),
    )

pub returns-clause-step : goal.returns-clause-step
returns-clause-step g c =
    let call : ℤ → Call = calls.ImportZone c.args.name c.args.rule in
    c.settle.ensures.step (call c.args.at)
    (decided_at (desk_of c.self.inside.ledger c.self.inside.room) c.args.self.now call c.args.at
    c.import_zone-decided.result c.self.view_is c.requires tt refl refl c.ranges.at
    (c.import_zone-decided.ensures (reverse c.self.inside.ledger.log) c.self.invariant.1))
