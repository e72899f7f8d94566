use Rattle.std.proofs.Common.{◌∙◌, ◌≤◌, ◌+◌, Err, ap, sym, subst, refl, length}
use Rattle.rb_causes.specs.Causes.{has_failed}
use Rattle.rb_desk.proofs.Growing.{desk_of, keeps_by, same_desk, same_tabled}
use Rattle.rb_desk.proofs.Promises.{saved_steps, unkept_steps, unsaved_steps}
use Rattle.rb_desk.proofs.desk.Desk.save.Goals as goal
use Rattle.rb_desk.proofs.desk.Desk.save.Goals.{in-Ok, in-Err-Failed, in-Err-NoMemory}

pub invariant_of-self : goal.invariant_of-self
invariant_of-self g c = (
  same_desk g.K.Keeper.rows c.self.inside.ledger c.save.new.self c.self.inside.room
      c.self.invariant.0 c.save.ensures.held c.save.ensures.log
      (keeps_by c.self.inside.ledger c.save.new.self c.save.result c.save.ensures.ok
      c.save.ensures.err),
  same_tabled c.self.inside.tables c.self.inside.ledger.log c.save.new.self.log
      c.save.ensures.log c.self.invariant.1,
  subst (λ n. length c.self.inside.tables.leaves.items + length c.self.inside.tables.doors.items
      ≤ n) (sym c.save.ensures.spare) c.self.invariant.2,
)

pub returns-clause-desk : goal.returns-clause-desk
returns-clause-desk g c = (invariant_of-self g c).0

pub returns-clause-step : goal.returns-clause-step
returns-clause-step g c = elim c.match-save.branch [
  | in-Ok w ↦ rw (← c.self.view_is, w.result-is)
      (saved_steps g.K.Keeper.faults (desk_of c.self.inside.ledger c.self.inside.room)
      (desk_of c.save.new.self c.self.inside.room) c.save.ensures.log refl
      (c.save.ensures.cause.steady (ap has_failed w.in-Ok.is)) (w.in-Ok.ensures.ok))
  | in-Err-Failed w ↦ rw (← c.self.view_is, w.result-is)
      (unsaved_steps g.K.Keeper.faults (desk_of c.self.inside.ledger c.self.inside.room)
      (desk_of c.save.new.self c.self.inside.room) (record {
        log = c.save.ensures.log;
        saved = w.in-Err-Failed.ensures.err;
        room = refl;
        later = c.save.ensures.cause.later;
      }) (c.save.ensures.cause.failed
      (w.in-Err-Failed.is ∙ ap Err w.in-Err-Failed.field-0-is)) (w.in-Err-Failed.ensures.unsaved))
  | in-Err-NoMemory w ↦ rw (← c.self.view_is, w.result-is)
      (unkept_steps g.K.Keeper.faults (desk_of c.self.inside.ledger c.self.inside.room)
      (desk_of c.save.new.self c.self.inside.room) (record {
        log = c.save.ensures.log;
        saved = w.in-Err-NoMemory.ensures.err;
        room = refl;
        later = c.save.ensures.cause.later;
      }) (c.save.ensures.cause.steady
      (ap has_failed (w.in-Err-NoMemory.is ∙ ap Err w.in-Err-NoMemory.field-0-is))))
]
