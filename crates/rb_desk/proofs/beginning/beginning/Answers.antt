use Rattle.std.proofs.Common.{◌+◌, length, sym, subst}
use Rattle.std.proofs.Math.Facts.{to_z-of_z}
use Rattle.std.proofs.lemmas.Bool.{leb-true}
use Rattle.rb_desk.specs.Beginning.{IsNextOpening}
use Rattle.rb_desk.proofs.Openings.{ready}
use Rattle.rb_desk.proofs.beginning.beginning.Goals as goal

pub returns-in-Ok-clause-ok : goal.returns-in-Ok-clause-ok
returns-in-Ok-clause-ok c =
    let rows = c.args.rows.now in
    let t = c.in_ok-tables.tables in
    let o = c.in-Ok.opening in
    ready c.opening_is_legal.ensures rows t o c.args.doors c.args.workers c.args.draw c.args.room
    c.args.at c.in_ok-tables.ensures.tabled (record {
      doors_from = c.requires.doors;
      workers_from = c.requires.workers;
      draw_below = c.requires.draw;
      moment_of = c.requires.at;
    })
    (subst (λ z. IsNextOpening t c.args.doors c.args.workers c.args.draw z o)
    (to_z-of_z c.ranges.at) c.in-Ok.ensures)
    (leb-true (length rows + 1 + c.args.doors) c.args.room
    (sym c.if-not-has_room_to_open.ensures)) c.requires.room
