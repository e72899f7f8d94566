use Rattle.std.proofs.Common.{◌≡◌, ◌∙◌, ◌+◌, ◌-◌, ◌^◌, min, ◌∷◌, map, Some, w64, to_z, of_z, ap, subst, sym}
use Rattle.std.proofs.Math.Facts.{to_z-of_z}
use Rattle.rb_log.specs.LogState.{log_state}
use Rattle.rb_tables.specs.Tables.{AreLogTables}
use Rattle.rb_tables.specs.declared.tables.Tables.{Tables}
use Rattle.rb_changes.specs.Firing.{fired_in}
use Rattle.rb_changes.proofs.FiredRows.{skip_is_put}
use Rattle.rb_changes.proofs.run_puts.put_skip.Goals as goal

pub put_fire-requires : goal.put_fire-requires
put_fire-requires c = c.requires.comes.2.tabled.says.due

pub returns : goal.returns
returns c past row comes =
    let old : Tables = c.args.tables.now in
    let fired : Tables = c.put_fire.new.tables in
    let counted = ap (λ (t : Tables). t.counted) c.put_fire.ensures.rest in
    let rest : fired ≡ record old {
      due = fired.due;
      world = record old.world {
        projects = map (fired_in c.args.id c.args.at) old.world.projects;
      };
    } =
    c.put_fire.ensures.rest
    ∙ ap (λ name. record old {
      due = fired.due;
      world = record old.world {
        projects = map (fired_in name (to_z w64 (of_z w64 c.args.at))) old.world.projects;
      };
    }) c.as_str.ensures
    ∙ ap (λ z. record old {
      due = fired.due;
      world = record old.world { projects = map (fired_in c.args.id z) old.world.projects };
    }) (to_z-of_z c.ranges.at) in
    subst (λ t. AreLogTables t (log_state (row ∷ past)))
    (sym (c.note.ensures
    ∙ ap (λ m. record fired {
      counted = min (fired.counted + c.args.counted) (2 ^ 64 - 1);
      last = Some m;
    }) (to_z-of_z c.ranges.at)))
    (skip_is_put old fired past row c.args.at c.args.counted
    (min (fired.counted + c.args.counted) (2 ^ 64 - 1)) c.args.id comes rest
    c.put_fire.ensures.due
    (ap (λ n. min (n + c.args.counted) (2 ^ 64 - 1)) counted))
