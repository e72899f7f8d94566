use Rattle.std.proofs.Common.{◌≡◌, ◌∙◌, ◌∷◌, ◌++◌, [], ℤ, List, ap, sym, subst, refl, length, reverse, SFits, to_z, of_z, w64}
use Rattle.std.proofs.Math.Facts.{to_z-of_z}
use Rattle.rb_causes.specs.declared.row.Row.{Row}
use Rattle.rb_log.specs.LogState.{log_state, moment_by}
use Rattle.rb_log.specs.Rows.{close_row}
use Rattle.rb_log.specs.declared.call.Call.TheVariants as calls
use Rattle.rb_desk.specs.DeskState.{may_wait}
use Rattle.rb_desk.specs.Settling.{MayAskOn}
use Rattle.rb_tables.specs.Tables.{AreLogTables}
use Rattle.rb_desk.proofs.Growing.{desk_of}
use Rattle.rb_desk.proofs.Promised.{Shrinks, close_grows, close_shrinks, kept_by, promised_desk, rose_by, steady_by}
use Rattle.rb_desk.proofs.Promises.{closed_steps, is_fault, kept_after}
use Rattle.rb_desk.proofs.desk.Desk.close_door.Goals as goal

pub invariant_of-self : goal.invariant_of-self
invariant_of-self g c =
    let old = c.self.inside.ledger in
    let past : List Row = reverse old.log in
    let row : Row = c.close_row.result in
    let tabled = c.self.invariant.1 in
    let may : MayAskOn old.log (calls.CloseDoor c.args.door c.args.at) =
    subst (λ d. MayAskOn d.log (calls.CloseDoor c.args.door c.args.at)) (sym c.self.view_is)
    c.requires in
    let fits : SFits w64 c.moment-at.result = record { sfits = c.moment-at.type_inv } in
    let now : ℤ = to_z w64 (of_z w64 c.moment-at.result) in
    let now_is = to_z-of_z fits ∙ c.moment-at.ensures
    ∙ ap (moment_by c.self.inside.tables.last) (to_z-of_z c.ranges.at)
    ∙ ap (λ l. moment_by l c.args.at) tabled.says.last in
    promised_desk g.K.Keeper.rows old c.add_owed.new.self c.self.inside.tables
    c.put_close.new.tables c.self.inside.room row c.add_owed.result (record {
      desk = c.self.invariant.0;
      tabled = tabled;
      covered = c.self.invariant.2;
      grown = close_grows c.turn_is_legal.ensures c.room_is_kept.ensures g.K.Keeper.rows
          (desk_of old c.self.inside.room) c.args.door c.args.at row c.self.invariant.0 may
          (c.close_row.ensures ∙ ap (λ t. close_row t c.args.door) now_is);
      waits = ap may_wait c.close_row.ensures;
      shrinks = subst (Shrinks past) (sym c.close_row.ensures)
          (close_shrinks past now c.args.door may.1);
      log = c.add_owed.ensures.log;
      ok = c.add_owed.ensures.ok;
      err = c.add_owed.ensures.err;
      spare = c.add_owed.ensures.spare;
      held = c.add_owed.ensures.held;
      says = subst (λ r. AreLogTables c.put_close.new.tables (log_state (r ∷ past)))
          (sym c.close_row.ensures) (c.put_close.ensures past tabled);
    })

pub returns-clause-desk : goal.returns-clause-desk
returns-clause-desk g c = (invariant_of-self g c).0

pub returns-clause-step : goal.returns-clause-step
returns-clause-step g c =
    let old = c.self.inside.ledger in
    let new = c.add_owed.new.self in
    let tabled = c.self.invariant.1 in
    let r = c.add_owed.result in
    let fits : SFits w64 c.moment-at.result = record { sfits = c.moment-at.type_inv } in
    let now_is = to_z-of_z fits ∙ c.moment-at.ensures
    ∙ ap (moment_by c.self.inside.tables.last) (to_z-of_z c.ranges.at)
    ∙ ap (λ l. moment_by l c.args.at) tabled.says.last in
    rw (← c.self.view_is) (closed_steps g.K.Keeper.faults (desk_of old c.self.inside.room)
    (desk_of new c.self.inside.room) c.args.door c.args.at c.kept_of-kept.result (record {
      log = subst (λ r. new.log ≡ old.log ++ r ∷ [])
          (c.close_row.ensures ∙ ap (λ t. close_row t c.args.door) now_is)
          c.add_owed.ensures.log;
      room = refl;
      later = c.add_owed.ensures.cause.later;
    })
    (subst (λ k. new.saved ≡ kept_after k old.saved (length new.log)) (sym c.kept_of-kept.ensures)
    (kept_by old.saved (length new.log) new.saved r c.add_owed.ensures.ok c.add_owed.ensures.err))
    (λ f. rose_by (g.K.Keeper.faults old.keeper) (g.K.Keeper.faults new.keeper) r
    c.add_owed.ensures.cause (sym (ap is_fault c.kept_of-kept.ensures) ∙ f))
    (λ f. steady_by (g.K.Keeper.faults old.keeper) (g.K.Keeper.faults new.keeper) r
    c.add_owed.ensures.cause (sym (ap is_fault c.kept_of-kept.ensures) ∙ f)))
