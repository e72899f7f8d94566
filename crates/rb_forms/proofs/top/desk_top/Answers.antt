use Rattle.std.proofs.Common.{◌∙◌, refl, slice_set, sym}
use Rattle.rb_session_top.specs.Sights.{callers_sight}
use Rattle.rb_forms.proofs.Firsts.{first_alone, first_line}
use Rattle.rb_forms.proofs.top.desk_top.Goals as goal

pub returns-then-is_session-clause-does : goal.returns-then-is_session-clause-does
returns-then-is_session-clause-does g c =
    let line = c.index_mut-line.result.now in
    let line' = c.session_top.new.line in
    let spawner = c.index_mut-spawner.result.now in
    let spawner' = c.session_top.new.spawner in
    rw (sym c.is_session.ensures ∙ c.if-is_session.true) (record {
      line = callers_sight (g.L.Line.callers line) (g.L.Line.faults line);
      line' = callers_sight (g.L.Line.callers line') (g.L.Line.faults line');
      spawner = g.S.Spawner.shown spawner;
      spawner' = g.S.Spawner.shown spawner';
      first_line = first_line g.L.Line.callers g.L.Line.faults c.args.lines.now.items
          (slice_set c.args.lines.now.items 0 line') line line' c.requires.line
          c.index_mut-line.ensures.value refl;
      first_spawner = first_alone g.S.Spawner.shown c.args.spawners.now.items
          (slice_set c.args.spawners.now.items 0 spawner') spawner spawner' c.requires.spawner
          c.index_mut-spawner.ensures.value refl;
      session = c.session_top.ensures.session;
    })

pub returns-then-is_for_tools-clause-does : goal.returns-then-is_for_tools-clause-does
returns-then-is_for_tools-clause-does g c =
    let used = c.tool_top.ensures in
    rw (
      sym c.is_session.ensures ∙ c.if-is_session.false,
      sym c.is_for_tools.ensures ∙ c.if-is_for_tools.true,
    ) (record {
      spawners = refl;
      without = record {
        no_desk = refl;
        lines = refl;
        kept = refl;
        files = used.files;
        faults = used.faults;
        out = used.out;
        statuses = used.statuses;
      };
      tool = used.tool;
    })

pub returns-clause-does : goal.returns-clause-does
returns-clause-does g c =
    let ran = c.drill_top.ensures in
    let spawner = c.index_mut-spawner-2.result.now in
    let spawner' = c.drill_top.new.spawner in
    rw (
      sym c.is_session.ensures ∙ c.if-is_session.false,
      sym c.is_for_tools.ensures ∙ c.if-is_for_tools.false,
    ) (record {
      spawner = g.S.Spawner.shown spawner;
      spawner' = g.S.Spawner.shown spawner';
      first = first_alone g.S.Spawner.shown c.args.spawners.now.items
          (slice_set c.args.spawners.now.items 0 spawner') spawner spawner' c.requires.spawner
          c.index_mut-spawner-2.ensures.value refl;
      counted = ran.spawner;
      without = record {
        no_desk = refl;
        lines = refl;
        kept = refl;
        files = ran.files;
        faults = ran.faults;
        out = ran.out;
        statuses = ran.statuses;
      };
      drill = ran.drill;
    })
