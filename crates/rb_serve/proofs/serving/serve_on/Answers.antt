use Rattle.std.proofs.Common.{◌≡◌, ◌∙◌, ◌+◌, ◌⊎◌, [], ap, arith, inl, inr, length, map, refl, rules, subst, sym}
use Rattle.rb_log.specs.Sums.{numbers_below}
use Rattle.rb_board.specs.Boards.{HasClosed, first_passes, seen_of}
use Rattle.rb_causes.specs.Causes.{Rose}
use Rattle.rb_serve.proofs.Boarding.{closed_none, err_each, ok_each}
use Rattle.rb_serve.proofs.Rising.{import_rose}
use Rattle.rb_serve.proofs.Passes.{closed_later, new_ready}
use Rattle.rb_serve.proofs.Roles.{none_fell}
use Rattle.rb_serve.specs.Roles.{senses_of}
use Rattle.rb_serve.specs.Served.{ByLast, HasServed, HasStopped, IsUncalled, ServesOn, StopsOn, WantsBoard}
use Rattle.rb_serve.proofs.serving.serve_on.Goals as goal

pub serve_by-ended-requires-clause-ready : goal.serve_by-ended-requires-clause-ready
serve_by-ended-requires-clause-ready g c κs within =
    let doors = length c.args.lines.now.items in
    let workers = length c.args.spawners.now.items in
    let count : c.count_of-doors.result + c.count_of-workers.result ≡ doors + workers =
    omega (arith, c.count_of-doors.ensures, c.count_of-workers.ensures) in
    new_ready c.args.board.id c.args.board.opening doors workers c.requires.opened
    c.passes.new.self c.in-Ok.passes.items
    (c.in-Ok.ensures.passes ∙ ap (first_passes c.args.board.id c.args.board.opening) count)
    c.passes.ensures.same.0 (c.in-Ok.ensures.made ∙ count)

pub close-requires-in-Err-clause-all : goal.close-requires-in-Err-clause-all
close-requires-in-Err-clause-all g c =
    let made = ap numbers_below (sym c.in-Err.ensures.unmade) in search (rules, made)

pub returns-in-Err-clause-lines : goal.returns-in-Err-clause-lines
returns-in-Err-clause-lines g c = none_fell g.L.Line.faults c.args.lines.now.items

pub returns-in-Err-clause-spawners : goal.returns-in-Err-clause-spawners
returns-in-Err-clause-spawners g c =
    none_fell (λ s. (g.S.Spawner.shown s).faults) c.args.spawners.now.items

pub returns-in-Ok-clause-keeper : goal.returns-in-Ok-clause-keeper
returns-in-Ok-clause-keeper g c =
    closed_later g.K.Keeper.faults c.args.board.opening c.passes.new.self.opening _
    c.close.result c.passes.ensures.same.1 c.close.ensures

pub returns-in-Err-clause-keeper : goal.returns-in-Err-clause-keeper
returns-in-Err-clause-keeper g c =
    closed_later g.K.Keeper.faults c.args.board.opening c.passes.new.self.opening _
    c.close-in-Err.result c.passes.ensures.same.1 c.close-in-Err.ensures

pub returns-in-Ok-clause-served : goal.returns-in-Ok-clause-served
returns-in-Ok-clause-served g c =
    let senses = senses_of (g.T.Clock.may_be c.args.clock.now) c.args.manifest.now.tokens
    g.L.Line.callers g.L.Line.faults g.S.Spawner.shown in
    let owner = c.args.manifest.now.owner in
    let documents = c.args.documents.items in
    let opening = c.args.board.opening in
    let lines = c.args.lines.now.items in
    let spawners = c.args.spawners.now.items in
    let count : c.count_of-doors.result + c.count_of-workers.result
    ≡ length lines + length spawners =
    omega (arith, c.count_of-doors.ensures, c.count_of-workers.ensures) in
    let made = c.in-Ok.ensures.passes ∙ ap (first_passes c.args.board.id opening) count in
    let passes = c.serve_by-ended.new.passes.items in
    let closed = subst (λ o. HasClosed g.K.Keeper.faults o (map seen_of passes) c.close.result)
    c.passes.ensures.same.1 c.close.ensures in
    let lines' = c.serve_by-ended.new.lines.items in
    let spawners' = c.serve_by-ended.new.spawners.items in
    ok_each c.serve_by-ended.result
    (λ said. HasServed senses owner documents c.in-Ok.passes.items passes lines lines' spawners
    spawners' said)
    (λ said. ServesOn g.K.Keeper.faults senses owner documents opening lines lines' spawners
    spawners' said c.close.result)
    (λ said h. record {
      board = c.args.board.id;
      passes = passes;
      served = subst (λ ps. HasServed senses owner documents ps passes lines lines' spawners
          spawners' said) made h;
      closed = closed;
    }) c.serve_by-ended.ensures.served

pub returns-in-Ok-clause-silent : goal.returns-in-Ok-clause-silent
returns-in-Ok-clause-silent g c = c.serve_by-ended.ensures.silent

pub returns-in-Ok-clause-stopped : goal.returns-in-Ok-clause-stopped
returns-in-Ok-clause-stopped g c =
    let senses = senses_of (g.T.Clock.may_be c.args.clock.now) c.args.manifest.now.tokens
    g.L.Line.callers g.L.Line.faults g.S.Spawner.shown in
    let owner = c.args.manifest.now.owner in
    let documents = c.args.documents.items in
    let opening = c.args.board.opening in
    let lines = c.args.lines.now.items in
    let spawners = c.args.spawners.now.items in
    let count : c.count_of-doors.result + c.count_of-workers.result
    ≡ length lines + length spawners =
    omega (arith, c.count_of-doors.ensures, c.count_of-workers.ensures) in
    let made = c.in-Ok.ensures.passes ∙ ap (first_passes c.args.board.id opening) count in
    let passes = c.serve_by-ended.new.passes.items in
    let closed = subst (λ o. HasClosed g.K.Keeper.faults o (map seen_of passes) c.close.result)
    c.passes.ensures.same.1 c.close.ensures in
    let lines' = c.serve_by-ended.new.lines.items in
    let spawners' = c.serve_by-ended.new.spawners.items in
    let before = g.O.Sink.shown c.args.out.now in
    let after = g.O.Sink.shown c.serve_by-ended.new.out in
    err_each c.serve_by-ended.result
    (λ status. HasStopped senses owner documents c.in-Ok.passes.items passes status before after
    × IsUncalled lines lines' spawners spawners')
    (λ status. WantsBoard opening lines lines' spawners spawners' c.close.result status before after
    ⊎ StopsOn g.K.Keeper.faults senses owner documents opening lines lines' spawners
    spawners' c.close.result status before after)
    (λ status h. inr (record {
      board = c.args.board.id;
      passes = passes;
      stopped = subst (λ ps. HasStopped senses owner documents ps passes status before after) made
          h.0;
      uncalled = h.1;
      closed = closed;
    })) c.serve_by-ended.ensures.stopped

pub returns-in-Err-clause-stopped : goal.returns-in-Err-clause-stopped
returns-in-Err-clause-stopped g c =
    let seens = map seen_of c.new.result.items in
    let none : seens ≡ [] = search rules in
    inl (record {
      log = closed_none g.K.Keeper.faults c.passes.new.self.opening seens c.close-in-Err.result none
          c.close-in-Err.ensures ∙ ap (λ o. o.log) c.passes.ensures.same.1;
      uncalled = record { lines_stand = refl; spawners_stand = refl };
      ends = record { is = refl; told = c.tell_memory.ensures };
    })

pub returns-in-Ok-clause-store : goal.returns-in-Ok-clause-store
returns-in-Ok-clause-store g c =
    let opening = c.args.board.opening in
    let count = c.count_of-doors.result + c.count_of-workers.result in
    let same = c.passes.ensures.same.1 in
    let closed = subst (λ o. HasClosed g.K.Keeper.faults o
    (map seen_of c.serve_by-ended.new.passes.items) c.close.result) same c.close.ensures in
    err_each c.serve_by-ended.result _
    (λ status. status ≡ 6 → Rose opening.faults (g.K.Keeper.faults c.close.result.keeper))
    (λ status rose six. import_rose g.K.Keeper.faults c.args.board.id opening count
    c.serve_by-ended.new.passes.items c.close.result
    (subst (λ passes. ByLast passes c.serve_by-ended.new.passes.items
    (λ old new. Rose old.faults new.faults)) c.in-Ok.ensures.passes (rose six)) closed)
    c.serve_by-ended.ensures.store
