use Rattle.std.proofs.Common.{◌∙◌, SFits, [], ap, refl, subst, sym, w64}
use Rattle.std.proofs.Math.Facts.{to_z-of_z}
use Rattle.rb_causes.specs.Moments.{IsMoment}
use Rattle.rb_session.specs.Documents.{import_of}
use Rattle.rb_session.specs.Fetching.{EndsBy}
use Rattle.rb_session.specs.Imports.{stop_wanting}
use Rattle.rb_session.specs.Stopping.{stop_told}
use Rattle.rb_session.proofs.ImportRuns.{stopped, taken}
use Rattle.rb_session.proofs.ImportCalls.{import_may, import_no_task}
use Rattle.rb_session.proofs.importing.import_document.Goals as goal

pub act-requires : goal.act-requires
act-requires g c =
    let fits : SFits w64 c.now-at.result = record { sfits = c.now-at.type_inv } in
    import_may c.args.owner.now _ _ _ c.in-Ok.call c.in-Ok.ensures
    (g.C.Clerk.told c.args.clerk.now).rights c.requires
    (subst IsMoment (sym (to_z-of_z fits)) c.now-at.ensures.moment)

pub stop_by-requires : goal.stop_by-requires
stop_by-requires g c =
    import_no_task c.args.owner.now _ _ _ c.in-Ok.call c.in-Ok.ensures
    (g.C.Clerk.told c.args.clerk.now) (g.C.Clerk.told c.act.new.self) c.act.result c.act.ensures

pub returns-in-Err-clause-stopped : goal.returns-in-Err-clause-stopped
returns-in-Err-clause-stopped g c = record {
  made = [];
  stop = stop_wanting;
  stopped = (refl, refl);
  ends = record { is = refl; told = c.tell_memory.ensures };
}

pub returns-in-None-clause-ok : goal.returns-in-None-clause-ok
returns-in-None-clause-ok g c =
    let fits : SFits w64 c.now-at.result = record { sfits = c.now-at.type_inv } in
    taken (g.T.Clock.may_be c.args.clock.now) c.args.owner.now c.args.document c.now-at.result
    c.now-at.ensures.may_be c.in-Ok.call
    (c.in-Ok.ensures ∙ ap (λ at. import_of c.args.owner.now c.args.document at) (to_z-of_z fits))
    (g.C.Clerk.told c.args.clerk.now) (g.C.Clerk.told c.act.new.self) c.act.result c.act.ensures
    c.stop_by.result c.stop_by.ensures.stop c.in-None.is

pub returns-clause-stopped : goal.returns-clause-stopped
returns-clause-stopped g c =
    let fits : SFits w64 c.now-at.result = record { sfits = c.now-at.type_inv } in
    stopped (g.T.Clock.may_be c.args.clock.now) c.args.owner.now c.args.document c.now-at.result
    c.now-at.ensures.may_be c.in-Ok.call
    (c.in-Ok.ensures ∙ ap (λ at. import_of c.args.owner.now c.args.document at) (to_z-of_z fits))
    (g.C.Clerk.told c.args.clerk.now) (g.C.Clerk.told c.act.new.self) c.act.result c.act.ensures
    c.stop_by.result c.in-Some.stop c.tell_stop.result (g.O.Sink.shown c.args.out.now)
    (g.O.Sink.shown c.tell_stop.new.out) c.stop_by.ensures.stop c.in-Some.is
    (subst (λ file. EndsBy (stop_told file c.in-Some.stop) c.tell_stop.result
    (g.O.Sink.shown c.args.out.now) (g.O.Sink.shown c.tell_stop.new.out)) c.name_of.ensures
    c.tell_stop.ensures.ends)
