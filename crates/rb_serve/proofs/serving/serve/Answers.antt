use Rattle.std.proofs.Common.{◌⊎◌, ap, inl, inr, length, refl, subst}
use Rattle.rb_board.specs.declared.view.Opening.{Opening}
use Rattle.rb_causes.specs.Causes.{Rose}
use Rattle.rb_serve.proofs.Rising.{served_rose}
use Rattle.rb_session.specs.Statuses.{EndsAsTold}
use Rattle.rb_serve.proofs.Boarding.{first_two, if_err, if_ok, on_ok}
use Rattle.rb_serve.proofs.Passes.{opened_on}
use Rattle.rb_serve.proofs.Roles.{none_fell}
use Rattle.rb_serve.specs.Roles.{senses_of}
use Rattle.rb_serve.specs.Served.{ServesOn, StopsOn, WantsBoard, crew_stop}
use Rattle.rb_serve.proofs.serving.serve.Goals as goal

pub serve_on-ended-requires-clause-opened : goal.serve_on-ended-requires-clause-opened
serve_on-ended-requires-clause-opened g c κs within =
    opened_on g.K.Keeper.faults c.args.desk c.in-Ok.board.opening
    (length c.args.lines.now.items) (length c.args.spawners.now.items) c.in-Ok.ensures.ok.0
    c.requires.opened

pub returns-in-Err-clause-serves : goal.returns-in-Err-clause-serves
returns-in-Err-clause-serves g c = inl (record {
  log = ap (λ d. d.log) c.in-Err.ensures.unchanged;
  uncalled = record { lines_stand = refl; spawners_stand = refl };
  ends = record { is = refl; told = c.tell_memory.ensures };
})

pub returns-in-Err-clause-lines : goal.returns-in-Err-clause-lines
returns-in-Err-clause-lines g c = none_fell g.L.Line.faults c.args.lines.now.items

pub returns-in-Err-clause-spawners : goal.returns-in-Err-clause-spawners
returns-in-Err-clause-spawners g c =
    none_fell (λ s. (g.S.Spawner.shown s).faults) c.args.spawners.now.items

pub returns-in-Ok-ended-clause-serves : goal.returns-in-Ok-ended-clause-serves
returns-in-Ok-ended-clause-serves g c =
    let senses = senses_of (g.T.Clock.may_be c.args.clock.now) c.args.manifest.now.tokens
    g.L.Line.callers g.L.Line.faults g.S.Spawner.shown in
    let owner = c.args.manifest.now.owner in
    let documents = c.args.documents.items in
    let faults = g.K.Keeper.faults in
    let opening = c.in-Ok.ensures.ok.0 in
    let lines = c.args.lines.now.items in
    let spawners = c.args.spawners.now.items in
    let lines' = c.serve_on-ended.new.lines.items in
    let spawners' = c.serve_on-ended.new.spawners.items in
    let before = g.O.Sink.shown c.args.out.now in
    let after = g.O.Sink.shown c.save_all.new.out in
    let saved = c.save_all.ensures.saved in
    inr (inr (record {
      said = c.in-Ok-ended.end;
      served = c.serve_on-ended.result.1;
      all = subst (λ o. ServesOn faults senses owner documents o lines lines' spawners spawners'
          c.in-Ok-ended.end c.serve_on-ended.result.1) opening
          (if_ok c.serve_on-ended.result.0 _ c.in-Ok-ended.end c.in-Ok-ended.is
          c.serve_on-ended.ensures.served);
      saving = saved.0;
      saved = saved.1;
      ends = subst (λ old. EndsAsTold (crew_stop c.in-Ok-ended.end saved.0) c.save_all.result.0 old
          after) (on_ok c.serve_on-ended.result.0 _ c.in-Ok-ended.end c.in-Ok-ended.is
          c.serve_on-ended.ensures.silent) saved.2;
    }))

pub returns-in-Err-ended-clause-serves : goal.returns-in-Err-ended-clause-serves
returns-in-Err-ended-clause-serves g c =
    let senses = senses_of (g.T.Clock.may_be c.args.clock.now) c.args.manifest.now.tokens
    g.L.Line.callers g.L.Line.faults g.S.Spawner.shown in
    let owner = c.args.manifest.now.owner in
    let documents = c.args.documents.items in
    let faults = g.K.Keeper.faults in
    let opening = c.in-Ok.ensures.ok.0 in
    let lines = c.args.lines.now.items in
    let spawners = c.args.spawners.now.items in
    let lines' = c.serve_on-ended.new.lines.items in
    let spawners' = c.serve_on-ended.new.spawners.items in
    let before = g.O.Sink.shown c.args.out.now in
    let after = g.O.Sink.shown c.serve_on-ended.new.out in
    let status = c.in-Err-ended.status in
    let desk = c.serve_on-ended.result.1 in
    first_two _ _ _ (subst (λ o.
    WantsBoard o lines lines' spawners spawners' desk status before after
    ⊎ StopsOn faults senses owner documents o lines lines' spawners spawners' desk status before
    after) opening
    (if_err c.serve_on-ended.result.0 _ status c.in-Err-ended.is c.serve_on-ended.ensures.stopped))

pub returns-in-Err-ended-clause-status : goal.returns-in-Err-ended-clause-status
returns-in-Err-ended-clause-status g c =
    if_err c.serve_on-ended.result.0 _ c.in-Err-ended.status c.in-Err-ended.is
    c.serve_on-ended.ensures.status

pub returns-in-Ok-ended-clause-store : goal.returns-in-Ok-ended-clause-store
returns-in-Ok-ended-clause-store g c = λ six.
    let senses = senses_of (g.T.Clock.may_be c.args.clock.now) c.args.manifest.now.tokens
    g.L.Line.callers g.L.Line.faults g.S.Spawner.shown in
    let faults = g.K.Keeper.faults in
    let saved = c.save_all.ensures.saved in
    let opening = ap (λ (o : Opening). o.faults) c.in-Ok.ensures.ok.0 in
    let all = if_ok c.serve_on-ended.result.0 _ c.in-Ok-ended.end c.in-Ok-ended.is
    c.serve_on-ended.ensures.served in
    let rose = served_rose faults senses c.args.manifest.now.owner c.args.documents.items
    c.in-Ok.board.opening c.args.lines.now.items c.serve_on-ended.new.lines.items
    c.args.spawners.now.items c.serve_on-ended.new.spawners.items c.in-Ok-ended.end saved.0
    c.serve_on-ended.result.1 c.save_all.result.1 c.save_all.result.0
    (g.O.Sink.shown c.serve_on-ended.new.out) (g.O.Sink.shown c.save_all.new.out) all saved.1
    c.serve_on-ended.ensures.keeper saved.2 six in
    subst (λ n. Rose n (faults c.save_all.result.1.keeper)) opening rose

pub returns-in-Err-ended-clause-store : goal.returns-in-Err-ended-clause-store
returns-in-Err-ended-clause-store g c = λ six.
    let opening = ap (λ (o : Opening). o.faults) c.in-Ok.ensures.ok.0 in
    subst (λ n. Rose n (g.K.Keeper.faults c.serve_on-ended.result.1.keeper)) opening
    (if_err c.serve_on-ended.result.0 _ c.in-Err-ended.status c.in-Err-ended.is
    c.serve_on-ended.ensures.store six)
