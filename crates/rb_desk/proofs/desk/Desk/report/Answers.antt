use Rattle.std.proofs.Common.{◌≡◌, ◌∙◌, List, Some, ap, sym, subst, refl, length, reverse, SFits, w64}
use Rattle.std.proofs.Math.Facts.{to_z-of_z}
use Rattle.rb_causes.specs.declared.row.Row.{Row}
use Rattle.rb_log.specs.Claims.{report}
use Rattle.rb_log.specs.LogState.{log_state, moment, moment_by}
use Rattle.rb_log.specs.Tasks.{DoneValue}
use Rattle.rb_log.specs.declared.call.Call.TheVariants as calls
use Rattle.rb_tables.specs.Running.{MayEnd}
use Rattle.rb_desk.specs.Settling.{MayAskOn}
use Rattle.rb_desk.proofs.Growing.{desk_of}
use Rattle.rb_desk.proofs.Promised.{end_grows, end_shrinks, end_waits, kept_by, promised_desk, rose_by, steady_by}
use Rattle.rb_desk.proofs.Promises.{is_fault, kept_after, reported_steps}
use Rattle.rb_desk.proofs.desk.Desk.report.Goals as goal

pub invariant_of-self : goal.invariant_of-self
invariant_of-self g c =
    let old = c.self.inside.ledger in
    let past : List Row = reverse old.log in
    let row : Row = c.ended_row-row.result in
    let tabled = c.self.invariant.1 in
    let done : DoneValue = record {
      claimed = c.into_parts-ending.result.0;
      ending = c.into_parts-ending.result.1;
    } in
    let same : done ≡ c.args.done =
    ap (λ p. record { claimed = p.0; ending = p.1 }) c.into_parts-ending.ensures.parts in
    let may : MayAskOn old.log (calls.Report done c.args.at) =
    subst (λ x. MayAskOn old.log (calls.Report x c.args.at)) (sym same)
    (subst (λ d. MayAskOn d.log (calls.Report c.args.done c.args.at)) (sym c.self.view_is)
    c.requires) in
    let ends : MayEnd c.self.inside.tables past done.claimed done.ending =
    record { tabled = tabled; claim = may.1; formed = c.into_parts-ending.ensures.ending } in
    let fits : SFits w64 c.moment-at.result = record { sfits = c.moment-at.type_inv } in
    let now_is = to_z-of_z fits ∙ c.moment-at.ensures
    ∙ ap (moment_by c.self.inside.tables.last) (to_z-of_z c.ranges.at)
    ∙ ap (λ l. moment_by l c.args.at) tabled.says.last in
    let given = c.ended_row-row.ensures past ends in
    let is : (report (log_state past) (moment (log_state past) c.args.at) done).row ≡ Some row =
    ap (λ t. (report (log_state past) t done).row) (sym now_is) ∙ given in
    let waits = end_waits (log_state past) (moment (log_state past) c.args.at) done row is in
    promised_desk g.K.Keeper.rows old c.add_owed.new.self c.self.inside.tables
    c.put_end.new.tables c.self.inside.room row c.add_owed.result (record {
      desk = c.self.invariant.0;
      tabled = tabled;
      covered = c.self.invariant.2;
      grown = end_grows c.turn_is_legal.ensures c.room_is_kept.ensures g.K.Keeper.rows
          (desk_of old c.self.inside.room) done c.args.at row c.self.invariant.0 may
          c.into_parts-ending.ensures.ending is;
      waits = waits;
      shrinks = end_shrinks c.rights_follow.ensures g.K.Keeper.rows
          (desk_of old c.self.inside.room) done c.args.at row c.self.invariant.0 may
          c.into_parts-ending.ensures.ending is;
      log = c.add_owed.ensures.log;
      ok = c.add_owed.ensures.ok;
      err = c.add_owed.ensures.err;
      spare = c.add_owed.ensures.spare;
      held = c.add_owed.ensures.held;
      says = c.put_end.ensures past row ends given;
    })

pub returns-clause-desk : goal.returns-clause-desk
returns-clause-desk g c = (invariant_of-self g c).0

pub returns-clause-step : goal.returns-clause-step
returns-clause-step g c =
    let old = c.self.inside.ledger in
    let new = c.add_owed.new.self in
    let past : List Row = reverse old.log in
    let row : Row = c.ended_row-row.result in
    let tabled = c.self.invariant.1 in
    let r = c.add_owed.result in
    let done : DoneValue = record {
      claimed = c.into_parts-ending.result.0;
      ending = c.into_parts-ending.result.1;
    } in
    let same : done ≡ c.args.done =
    ap (λ p. record { claimed = p.0; ending = p.1 }) c.into_parts-ending.ensures.parts in
    let may : MayAskOn old.log (calls.Report done c.args.at) =
    subst (λ x. MayAskOn old.log (calls.Report x c.args.at)) (sym same)
    (subst (λ d. MayAskOn d.log (calls.Report c.args.done c.args.at)) (sym c.self.view_is)
    c.requires) in
    let ends : MayEnd c.self.inside.tables past done.claimed done.ending =
    record { tabled = tabled; claim = may.1; formed = c.into_parts-ending.ensures.ending } in
    let fits : SFits w64 c.moment-at.result = record { sfits = c.moment-at.type_inv } in
    let now_is = to_z-of_z fits ∙ c.moment-at.ensures
    ∙ ap (moment_by c.self.inside.tables.last) (to_z-of_z c.ranges.at)
    ∙ ap (λ l. moment_by l c.args.at) tabled.says.last in
    let is : (report (log_state past) (moment (log_state past) c.args.at) done).row ≡ Some row =
    ap (λ t. (report (log_state past) t done).row) (sym now_is) ∙ c.ended_row-row.ensures past ends in
    rw (← c.self.view_is, ← same) (reported_steps g.K.Keeper.faults
    (desk_of old c.self.inside.room) (desk_of new c.self.inside.room) done c.args.at
    c.kept_of-kept.result row (record {
      log = c.add_owed.ensures.log;
      room = refl;
      later = c.add_owed.ensures.cause.later;
    })
    (subst (λ k. new.saved ≡ kept_after k old.saved (length new.log)) (sym c.kept_of-kept.ensures)
    (kept_by old.saved (length new.log) new.saved r c.add_owed.ensures.ok c.add_owed.ensures.err))
    (λ f. rose_by (g.K.Keeper.faults old.keeper) (g.K.Keeper.faults new.keeper) r
    c.add_owed.ensures.cause (sym (ap is_fault c.kept_of-kept.ensures) ∙ f))
    (λ f. steady_by (g.K.Keeper.faults old.keeper) (g.K.Keeper.faults new.keeper) r
    c.add_owed.ensures.cause (sym (ap is_fault c.kept_of-kept.ensures) ∙ f))
    c.into_parts-ending.ensures.ending is)
