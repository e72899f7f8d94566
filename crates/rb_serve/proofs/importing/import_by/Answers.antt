use Rattle.std.proofs.Common.{◌≡◌, ℕ}
use Rattle.rb_causes.specs.Causes.{Rose}
use Rattle.rb_door.specs.Exchanges.{Moments}
use Rattle.rb_log.specs.Told.{Told}
use Rattle.rb_session.specs.Imports.{ImportsAll, ImportsStop}
use Rattle.rb_serve.proofs.Boarding.{by_last, err_each, ok_then}
use Rattle.rb_serve.proofs.Passes.{kept_last, last_of, lent_standing}
use Rattle.rb_serve.specs.Served.{ByLast}
use Rattle.rb_serve.proofs.importing.import_by.Goals as goal

pub new-hand-requires : goal.new-hand-requires
new-hand-requires g c =
    last_of c.args.board.now.id c.last-pass.new.items.items c.args.passes.now.items
    c.last-pass.result c.last-pass.ensures.items c.requires.all

pub returns-clause-imported : goal.returns-clause-imported
returns-clause-imported g c =
    let may_be : Moments = g.T.Clock.may_be c.args.clock.now in
    ok_then c.import_all-imported.result _ _
    (by_last (ImportsAll may_be c.args.owner.now c.args.documents.items)
    c.last-pass.new.items.items c.args.passes.now.items c.push_reserved.new.self.items
    c.last-pass.result c.into_pass.result c.new-hand.result c.import_all-imported.new.clerk
    c.last-pass.ensures.items c.push_reserved.ensures.items c.new-hand.ensures
    c.into_pass.ensures) c.import_all-imported.ensures.ok

pub returns-clause-stopped : goal.returns-clause-stopped
returns-clause-stopped g c =
    let Did : ℕ → Told → Told → Type 0 = λ status old new. ImportsStop
    (g.T.Clock.may_be c.args.clock.now) c.args.owner.now c.args.documents.items old new status
    (g.O.Sink.shown c.args.out.now)
    (g.O.Sink.shown c.import_all-imported.new.out) in
    err_each c.import_all-imported.result _
    (λ status. ByLast c.args.passes.now.items c.push_reserved.new.self.items (Did status))
    (λ status. by_last (Did status) c.last-pass.new.items.items c.args.passes.now.items
    c.push_reserved.new.self.items c.last-pass.result c.into_pass.result c.new-hand.result
    c.import_all-imported.new.clerk c.last-pass.ensures.items c.push_reserved.ensures.items
    c.new-hand.ensures c.into_pass.ensures) c.import_all-imported.ensures.stopped

pub returns-clause-kept : goal.returns-clause-kept
returns-clause-kept g c =
    kept_last c.last-pass.new.items.items c.args.passes.now.items
    c.push_reserved.new.self.items c.last-pass.result c.into_pass.result
    c.last-pass.ensures.items c.push_reserved.ensures.items
    (lent_standing c.last-pass.result c.new-hand.result c.import_all-imported.new.clerk
    c.into_pass.result c.new-hand.ensures c.import_all-imported.ensures.goes c.into_pass.ensures)

pub returns-clause-store : goal.returns-clause-store
returns-clause-store g c =
    let Did : Told → Told → Type 0 = λ old new. Rose old.faults new.faults in
    err_each c.import_all-imported.result _
    (λ status. status ≡ 6 → ByLast c.args.passes.now.items c.push_reserved.new.self.items Did)
    (λ status rose six. by_last Did c.last-pass.new.items.items c.args.passes.now.items
    c.push_reserved.new.self.items c.last-pass.result c.into_pass.result c.new-hand.result
    c.import_all-imported.new.clerk c.last-pass.ensures.items c.push_reserved.ensures.items
    c.new-hand.ensures c.into_pass.ensures (rose six)) c.import_all-imported.ensures.cause
