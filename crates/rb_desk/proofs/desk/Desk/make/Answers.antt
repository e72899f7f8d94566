-- A row that has no room is answered so, and the desk stays.
use Rattle.std.proofs.Common.{◌≡◌, ◌∙◌, ℕ, Bool, false, Option, ap, arith, refl, sym, reverse}
use Rattle.rb_log.specs.LogState.{log_state}
use Rattle.rb_tables.specs.Changes.{need_of}
use Rattle.rb_desk.specs.Settling.{row_has_room}
use Rattle.rb_desk.proofs.Stepping.{full_steps}
use Rattle.rb_desk.proofs.desk.Desk.make.Goals as goal

no_room : (fits : Option ℕ → Bool) (asked need : Option ℕ) (told : Bool) → asked ≡ need
    → told ≡ fits asked → told ≡ false → fits need ≡ false
no_room fits asked need told same is none = ap fits (sym same) ∙ sym is ∙ none

pub returns-else-row_has_room-clause-step : goal.returns-else-row_has_room-clause-step
returns-else-row_has_room-clause-step g c call decided =
    let d = c.args.self.now in
    let change = c.args.change in
    rw c.full.ensures (full_steps g.K.Keeper.faults d d call change
    (record { log = refl; saved = refl; room = refl; later = omega arith }) refl decided
    (no_room (row_has_room (log_state (reverse d.log)) d.room change.row) c.need.result
    (need_of change.effect) c.row_has_room.result c.need.ensures c.row_has_room.ensures.fits
    c.if-row_has_room.false))
