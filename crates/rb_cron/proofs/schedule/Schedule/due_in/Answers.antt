use Rattle.std.proofs.Common.{ap}
use Rattle.std.proofs.lemmas.Bool.{not-true, not-false}
use Rattle.rb_cron.proofs.Edges.{at_back, offset_back, cast_end, ends_at}
use Rattle.rb_cron.proofs.Search.{none_disagreeing, due_found, none_found, if_none_due, same_meet, same_next, counted_at, instant_is, civil_bound, shown_bound, far_back}
use Rattle.rb_cron.proofs.schedule.Schedule.due_in.Goals as goal

pub returns-then-not-piece-clause-none : goal.returns-then-not-piece-clause-none
returns-then-not-piece-clause-none c = none_disagreeing c.args.self.now c.args.at c.args.piece c.requires.piece (not-true c.args.piece.agrees c.if-not-piece.true)

pub returns-in_err-civil-clause-none : goal.returns-in_err-civil-clause-none
returns-in_err-civil-clause-none c =
    let p = c.args.piece in
    if_none_due c.from_residual.result c.from_residual.ensures
    (none_found c.args.self.now c.args.at p c.requires.piece
    (same_meet c.self.inside.calendar c.args.self.now.fields c.shown_at-from.result c.shown_at-end.result _ _ (ap (λ s. s.fields) c.self.view_is)
    (counted_at c.shown_at-from.result c.args.at p.offset _ _ c.shown_at-from.ensures (at_back c.args.at c.requires.at) (offset_back p.offset c.requires.offset))
    (counted_at c.shown_at-end.result p.end p.offset _ _ c.shown_at-end.ensures
    (cast_end c.args.at p.end (ends_at c.args.at p.end c.requires.at c.requires.after c.requires.before)) (offset_back p.offset c.requires.offset))
    c.in_err-civil.ensures.none))

pub instant_of-requires-clause-civil : goal.instant_of-requires-clause-civil
instant_of-requires-clause-civil c =
    let p = c.args.piece in
    civil_bound c.in_ok-civil.civil c.shown_at-end.result _ c.in_ok-civil.ensures.found.before
    (counted_at c.shown_at-end.result p.end p.offset _ _ c.shown_at-end.ensures
    (cast_end c.args.at p.end (ends_at c.args.at p.end c.requires.at c.requires.after c.requires.before)) (offset_back p.offset c.requires.offset))
    (shown_bound p.end p.offset c.requires.before c.requires.offset)

pub returns-clause-found : goal.returns-clause-found
returns-clause-found c =
    let p = c.args.piece in
    due_found c.args.self.now c.args.at p c.in_ok-civil.civil _ c.requires.piece (not-false c.args.piece.agrees c.if-not-piece.false)
    (same_next c.self.inside.calendar c.args.self.now.fields c.shown_at-from.result c.shown_at-end.result _ _ c.in_ok-civil.civil (ap (λ s. s.fields) c.self.view_is)
    (counted_at c.shown_at-from.result c.args.at p.offset _ _ c.shown_at-from.ensures (at_back c.args.at c.requires.at) (offset_back p.offset c.requires.offset))
    (counted_at c.shown_at-end.result p.end p.offset _ _ c.shown_at-end.ensures
    (cast_end c.args.at p.end (ends_at c.args.at p.end c.requires.at c.requires.after c.requires.before)) (offset_back p.offset c.requires.offset))
    c.in_ok-civil.ensures.found)
    (instant_is _ c.instant_of.result c.in_ok-civil.civil p.offset _ c.instant_of.ensures.value (offset_back p.offset c.requires.offset) (far_back c.instant_of.result c.instant_of.ensures.bound))
