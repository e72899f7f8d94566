use Rattle.std.proofs.Common.{length, refl, subst}
use Rattle.rb_serve.proofs.Passes.{still_all, still_ready}
use Rattle.rb_serve.proofs.Roles.{none_fell}
use Rattle.rb_serve.proofs.Statuses.{import_status}
use Rattle.rb_serve.specs.Roles.{HavePlayed, senses_of}
use Rattle.rb_serve.proofs.serving.serve_by.Goals as goal

pub perform-end-requires-clause-ready : goal.perform-end-requires-clause-ready
perform-end-requires-clause-ready g c κs within =
    still_ready c.args.board.now (length c.args.lines.now.items)
    (length c.args.spawners.now.items) c.args.passes.now.items c.import_by.new.passes.items
    c.import_by.ensures.kept c.requires.ready

pub returns-in-Ok-clause-served : goal.returns-in-Ok-clause-served
returns-in-Ok-clause-served g c = record {
  imported = c.import_by.new.passes.items;
  imports = c.in-Ok.ensures.imported;
  played = subst (λ tokens. HavePlayed (senses_of (g.T.Clock.may_be c.args.clock.now) tokens
      g.L.Line.callers g.L.Line.faults g.S.Spawner.shown) c.import_by.new.passes.items
      c.perform-end.new.passes.items c.args.lines.now.items c.perform-end.new.lines.items
      c.args.spawners.now.items c.perform-end.new.spawners.items c.perform-end.result)
      c.as_slice-tokens.ensures c.perform-end.ensures.played;
}

pub returns-in-Ok-clause-silent : goal.returns-in-Ok-clause-silent
returns-in-Ok-clause-silent g c = c.in-Ok.ensures.silent

pub returns-in-Err-clause-stopped : goal.returns-in-Err-clause-stopped
returns-in-Err-clause-stopped g c =
    (c.in-Err.ensures.stopped, record { lines_stand = refl; spawners_stand = refl })

pub returns-in-Err-clause-status : goal.returns-in-Err-clause-status
returns-in-Err-clause-status g c = import_status c.in-Err.status c.in-Err.ensures.statuses

pub returns-in-Err-clause-all : goal.returns-in-Err-clause-all
returns-in-Err-clause-all g c =
    still_all c.args.board.now (length c.args.lines.now.items)
    (length c.args.spawners.now.items) c.args.passes.now.items c.import_by.new.passes.items
    c.import_by.ensures.kept c.requires.ready.all

pub returns-in-Err-clause-lines : goal.returns-in-Err-clause-lines
returns-in-Err-clause-lines g c = none_fell g.L.Line.faults c.args.lines.now.items

pub returns-in-Err-clause-spawners : goal.returns-in-Err-clause-spawners
returns-in-Err-clause-spawners g c =
    none_fell (λ s. (g.S.Spawner.shown s).faults) c.args.spawners.now.items

pub returns-in-Err-clause-store : goal.returns-in-Err-clause-store
returns-in-Err-clause-store g c = c.in-Err.ensures.store
