use Rattle.std.proofs.Common.{List, reverse, refl, Err}
use Rattle.rb_causes.specs.declared.row.Row.{Row}
use Rattle.rb_log.specs.declared.call.Call.{Call}
use Rattle.rb_log.specs.declared.call.Call.TheVariants as calls
use Rattle.rb_desk.specs.Settling.{IsDecided}
use Rattle.rb_desk.proofs.Growing.{desk_of}
use Rattle.rb_desk.proofs.Settled.{decided_on}
use Rattle.rb_desk.proofs.desk.Desk.look.Goals as goal

pub settle-requires : goal.settle-requires
settle-requires g c =
    let call : Call = calls.Look c.args.caller c.args.look in
    let past : List Row = reverse c.self.inside.ledger.log in
    let is : IsDecided c.args.self.now.log (Err c.look_at-answer.result) call =
    decided_on (desk_of c.self.inside.ledger c.self.inside.room) c.args.self.now call
    (Err c.look_at-answer.result) c.self.view_is c.requires tt refl refl
    (c.look_at-answer.ensures past c.self.invariant.1) in
    (call, is)

pub returns-clause-step : goal.returns-clause-step
returns-clause-step g c =
    let call : Call = calls.Look c.args.caller c.args.look in
    let past : List Row = reverse c.self.inside.ledger.log in
    let is : IsDecided c.args.self.now.log (Err c.look_at-answer.result) call =
    decided_on (desk_of c.self.inside.ledger c.self.inside.room) c.args.self.now call
    (Err c.look_at-answer.result) c.self.view_is c.requires tt refl refl
    (c.look_at-answer.ensures past c.self.invariant.1) in
    c.settle.ensures.step call is
