-- Rows that open a desk again.
use Rattle.std.proofs.Common.{◌≡◌, ◌∙◌, true, ◌&&◌, bytes_eq, ap, sym}
use Rattle.rb_causes.specs.declared.row.Row.{Row}
use Rattle.rb_log.specs.Legal.{IsOpening}
use Rattle.rb_log.specs.LogState.{LogState}
use Rattle.rb_log.specs.Rows.{is_opened, second_form}
use Rattle.rb_log.specs.Sums.{numbers_below}
use Rattle.rb_changes.specs.Openings.{IsOpeningOf}
use Rattle.rb_changes.specs.declared.opening.Opening.{Opening}

pub opening_of_row : (s : LogState) (row : Row) (o : Opening) → IsOpening s row
    → o.at ≡ row.at → o.doors.items ≡ numbers_below row.a → o.workers ≡ row.b
    → o.draw ≡ row.c → o.checks ≡ bytes_eq row.body second_form → IsOpeningOf o row
opening_of_row s row o is at doors workers draw checks =
    let opened : is_opened row ≡ true = ap is_opened is.row_is in record {
      opened = opened;
      at = at;
      doors = doors;
      workers = workers;
      draw = draw;
      checks = checks ∙ ap (λ b. b && bytes_eq row.body second_form) (sym opened);
    }
