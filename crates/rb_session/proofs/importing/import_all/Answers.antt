use Rattle.std.proofs.Common.{◌≡◌, ◌∙◌, refl, rules, subst, sym}
use Rattle.std.proofs.lemmas.List.{nil_from_length}
use Rattle.std.specs.Vec.Iter.{into_iter_items}
use Rattle.rb_door.proofs.Goings.{goes_on_refl, goes_on_then}
use Rattle.rb_session.specs.Imports.{ImportsStop, StopsAtOne}
use Rattle.rb_session.proofs.HandedOn.{handed_on}
use Rattle.rb_session.proofs.ImportRuns.{TakenSoFar, stopped_at, taken_all, taken_more, taken_none}
use Rattle.rb_session.proofs.importing.import_all.Goals as goal

pub loop-document-init : goal.loop-document-init
loop-document-init g c =
    let told = g.C.Clerk.told c.args.clerk.now in
    let may_be = g.T.Clock.may_be c.args.clock.now in
    let all : into_iter_items c.into_iter-document-iterator.result ≡ c.args.documents.items =
    c.into_iter-document-iterator.ensures.into_iter_gives.0 in
    record {
      so_far = subst (λ ds. TakenSoFar may_be c.args.owner.now c.args.documents.items ds told told)
          (sym all)
          (taken_none may_be c.args.owner.now c.args.documents.items told);
      goes = goes_on_refl told;
      silent = refl;
    }

pub loop-document-preserved : goal.loop-document-preserved
loop-document-preserved g c =
    let may_be = g.T.Clock.may_be c.args.clock.now in
    let old = g.C.Clerk.told c.args.clerk.now in
    let now = g.C.Clerk.told c.loop-document.clerk in
    record {
      so_far = taken_more may_be c.args.owner.now c.args.documents.items
          (into_iter_items c.next.new.self) c.in-Some.document old now
          (g.C.Clerk.told c.import_document.new.clerk)
          (subst (λ ds. TakenSoFar may_be c.args.owner.now c.args.documents.items ds old now)
          c.in-Some.ensures.steps.0 c.loop-document.invariant.so_far)
          c.in_ok-import_document.ensures.ok;
      goes = goes_on_then _ _ _ c.loop-document.invariant.goes c.import_document.ensures.goes;
      silent = c.in_ok-import_document.ensures.silent ∙ c.loop-document.invariant.silent;
    }

pub returns-in_err-import_document-clause-stopped : goal.returns-in_err-import_document-clause-stopped
returns-in_err-import_document-clause-stopped g c =
    let may_be = g.T.Clock.may_be c.args.clock.now in
    let old = g.C.Clerk.told c.args.clerk.now in
    let now = g.C.Clerk.told c.loop-document.clerk in
    let new = g.C.Clerk.told c.import_document.new.clerk in
    let after = g.O.Sink.shown c.import_document.new.out in
    handed_on c.from_residual.result c.in_err-import_document.field-0.0
    (λ status. ImportsStop may_be c.args.owner.now c.args.documents.items old new status
    (g.O.Sink.shown c.args.out.now) after) c.from_residual.ensures.1
    (stopped_at may_be c.args.owner.now c.args.documents.items (into_iter_items c.next.new.self)
    c.in-Some.document old now new c.in_err-import_document.field-0.0
    (g.O.Sink.shown c.args.out.now) after
    (subst (λ ds. TakenSoFar may_be c.args.owner.now c.args.documents.items ds old now)
    c.in-Some.ensures.steps.0 c.loop-document.invariant.so_far)
    (subst (λ before. StopsAtOne may_be c.args.owner.now c.in-Some.document now new
    c.in_err-import_document.field-0.0 before after) c.loop-document.invariant.silent
    c.in_err-import_document.ensures.stopped))

pub returns-clause-ok : goal.returns-clause-ok
returns-clause-ok g c =
    let may_be = g.T.Clock.may_be c.args.clock.now in
    let none = nil_from_length (into_iter_items c.loop-document.document-iterator) (search rules) in
    taken_all may_be c.args.owner.now c.args.documents.items (g.C.Clerk.told c.args.clerk.now)
    (g.C.Clerk.told c.loop-document.clerk)
    (subst (λ ds. TakenSoFar may_be c.args.owner.now c.args.documents.items ds
    (g.C.Clerk.told c.args.clerk.now) (g.C.Clerk.told c.loop-document.clerk)) none
    c.loop-document.invariant.so_far)
