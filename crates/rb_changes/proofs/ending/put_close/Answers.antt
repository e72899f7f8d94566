use Rattle.std.proofs.Common.{rules, not, nat_eq, ◌∷◌, Some, w64, ap, refl, subst, sym}
use Rattle.std.proofs.lemmas.Int.{to_z-of_z}
use Rattle.std.proofs.lemmas.Fn.{filter_same}
use Rattle.rb_log.specs.LogState.{log_state}
use Rattle.rb_log.specs.Rows.{close_row}
use Rattle.rb_tables.specs.Tables.{AreLogTables}
use Rattle.rb_changes.proofs.ClosedRows.{closed_says}
use Rattle.rb_changes.proofs.ending.put_close.Goals as goal

pub returns : goal.returns
returns c past tabled =
    subst (λ t. AreLogTables t (log_state (close_row c.args.at c.args.door ∷ past)))
    (sym c.note_bare.ensures)
    (closed_says c.args.tables.now _ past c.args.at c.args.door tabled.says (record {
      keeps = record {
        draw = refl;
        workers = refl;
        checks = refl;
        zones = refl;
        zones_number = refl;
        nodes = refl;
        due = refl;
        files = refl;
        jobs_number = refl;
        world = refl;
      };
      counted = refl;
      last = ap Some (to_z-of_z w64 c.args.at c.ranges.at);
      doors = filter_same _ (λ m. not (nat_eq m c.args.door)) _ (λ x b f' k. search rules) _ _
          c.retain.ensures.filtered;
      leaves = refl;
      owed = refl;
      executions = refl;
      running = refl;
    }))
