use Rattle.std.proofs.Common.{◌≡◌, ◌∙◌, arith, subst, sym, true}
use Rattle.std.specs.List.{list_any}
use Rattle.rb_serve.specs.Roles.{EndsSo, is_failed, senses_of}
use Rattle.rb_serve.proofs.Performed.{all_back, boards, have_played, line_count, lines_back, pass_count, rose_back, spawner_count, spawners_back, whole}
use Rattle.rb_serve.proofs.performing.perform.Goals as goal

pub play_crew-requires-clause-boards : goal.play_crew-requires-clause-boards
play_crew-requires-clause-boards g c κs within =
    boards _ _ _ _ c.cast_all-roles.ensures.cast c.args.board.now c.requires.ready.all

pub dismiss-requires-clause-whole : goal.dismiss-requires-clause-whole
dismiss-requires-clause-whole g c =
    let senses = senses_of (g.T.Clock.may_be c.args.clock.now) c.args.tokens.now
    g.L.Line.callers g.L.Line.faults g.S.Spawner.shown in
    whole _ _ _ _ c.cast_all-roles.ensures.cast senses c.play_crew.new.roles.items
    c.play_crew.ensures

pub dismiss-requires-clause-passes : goal.dismiss-requires-clause-passes
dismiss-requires-clause-passes g c =
    let senses = senses_of (g.T.Clock.may_be c.args.clock.now) c.args.tokens.now
    g.L.Line.callers g.L.Line.faults g.S.Spawner.shown in
    omega (
      arith,
      pass_count _ _ _ _ c.cast_all-roles.ensures.cast senses c.play_crew.new.roles.items
          c.play_crew.ensures,
      c.cast_all-roles.ensures.pass_room,
      c.args.passes.now.ok.0,
      c.args.passes.now.ok.1,
    )

pub dismiss-requires-clause-lines : goal.dismiss-requires-clause-lines
dismiss-requires-clause-lines g c =
    let senses = senses_of (g.T.Clock.may_be c.args.clock.now) c.args.tokens.now
    g.L.Line.callers g.L.Line.faults g.S.Spawner.shown in
    omega (
      arith,
      line_count _ _ _ _ c.cast_all-roles.ensures.cast senses c.play_crew.new.roles.items
          c.play_crew.ensures,
      c.cast_all-roles.ensures.line_room,
      c.args.lines.now.ok.0,
      c.args.lines.now.ok.1,
    )

pub dismiss-requires-clause-spawners : goal.dismiss-requires-clause-spawners
dismiss-requires-clause-spawners g c =
    let senses = senses_of (g.T.Clock.may_be c.args.clock.now) c.args.tokens.now
    g.L.Line.callers g.L.Line.faults g.S.Spawner.shown in
    omega (
      arith,
      spawner_count _ _ _ _ c.cast_all-roles.ensures.cast senses c.play_crew.new.roles.items
          c.play_crew.ensures,
      c.cast_all-roles.ensures.spawner_room,
      c.args.spawners.now.ok.0,
      c.args.spawners.now.ok.1,
    )

pub returns-clause-all : goal.returns-clause-all
returns-clause-all g c =
    let senses = senses_of (g.T.Clock.may_be c.args.clock.now) c.args.tokens.now
    g.L.Line.callers g.L.Line.faults g.S.Spawner.shown in
    all_back _ _ _ _ c.cast_all-roles.ensures.cast senses c.play_crew.new.roles.items
    c.play_crew.ensures c.args.board.now c.dismiss.new.passes.items c.dismiss.ensures.passes
    c.requires.ready.all

pub returns-clause-played : goal.returns-clause-played
returns-clause-played g c =
    let senses = senses_of (g.T.Clock.may_be c.args.clock.now) c.args.tokens.now
    g.L.Line.callers g.L.Line.faults g.S.Spawner.shown in
    have_played _ _ _ _ c.cast_all-roles.ensures.cast senses c.play_crew.new.roles.items
    c.play_crew.ensures c.dismiss.new.passes.items c.dismiss.new.lines.items
    c.dismiss.new.spawners.items c.crew_end-end.result c.dismiss.ensures.passes
    c.dismiss.ensures.lines c.dismiss.ensures.spawners
    (subst (λ rs. EndsSo rs c.crew_end-end.result) c.as_slice.ensures.value (record {
      line = c.crew_end-end.ensures.line;
      store = c.crew_end-end.ensures.store;
      wanting = c.crew_end-end.ensures.wanting;
    }))

pub returns-clause-lines : goal.returns-clause-lines
returns-clause-lines g c =
    let senses = senses_of (g.T.Clock.may_be c.args.clock.now) c.args.tokens.now
    g.L.Line.callers g.L.Line.faults g.S.Spawner.shown in
    lines_back _ _ _ _ c.cast_all-roles.ensures.cast senses c.play_crew.new.roles.items
    c.play_crew.ensures c.dismiss.new.lines.items c.dismiss.ensures.lines

pub returns-clause-spawners : goal.returns-clause-spawners
returns-clause-spawners g c =
    let senses = senses_of (g.T.Clock.may_be c.args.clock.now) c.args.tokens.now
    g.L.Line.callers g.L.Line.faults g.S.Spawner.shown in
    spawners_back _ _ _ _ c.cast_all-roles.ensures.cast senses c.play_crew.new.roles.items
    c.play_crew.ensures c.dismiss.new.spawners.items c.dismiss.ensures.spawners

pub returns-clause-cause : goal.returns-clause-cause
returns-clause-cause g c = λ failed.
    let senses = senses_of (g.T.Clock.may_be c.args.clock.now) c.args.tokens.now
    g.L.Line.callers g.L.Line.faults g.S.Spawner.shown in
    rose_back _ _ _ _ c.cast_all-roles.ensures.cast senses c.play_crew.new.roles.items
    c.play_crew.ensures c.dismiss.new.lines.items c.dismiss.ensures.lines
    (subst (λ rs. list_any (λ r. is_failed r.post) rs ≡ true) c.as_slice.ensures.value
    (sym c.crew_end-end.ensures.line ∙ failed))
