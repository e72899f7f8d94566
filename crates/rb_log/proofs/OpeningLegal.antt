-- An opening may come behind each legal log.
use Rattle.std.proofs.Common.{refl}
use Rattle.rb_log.specs.LogState.{log_state}
use Rattle.rb_log.specs.Restarts.{OpeningIsLegal}
use Rattle.rb_log.proofs.TurnLaws.{moment_is, moment_twice}

pub opening_is_legal : OpeningIsLegal
opening_is_legal past doors workers draw at legal asked = (
  legal,
  (
    moment_is past at legal asked.moment_of,
    record {
      row_is = refl;
      form = refl;
      doors = asked.doors_from;
      workers = asked.workers_from;
      draw = asked.draw_below;
      later = moment_twice (log_state past) at;
    },
  ),
)
