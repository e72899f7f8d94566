use Rattle.std.proofs.Common.{SFits, refl, subst, w64}
use Rattle.std.proofs.Math.Facts.{to_z-of_z}
use Rattle.rb_door.proofs.NoTask.{acts_no_task}
use Rattle.rb_log.specs.Told.{Acts, record_of}
use Rattle.rb_log.specs.declared.call.Call.TheVariants.{CloseDoor}
use Rattle.rb_serve.proofs.doors.close_door.Goals as goal

pub saving_of-kept-requires : goal.saving_of-kept-requires
saving_of-kept-requires g c =
    acts_no_task (g.C.Clerk.told c.args.clerk.now) (g.C.Clerk.told c.act.new.self) _ c.act.result
    c.act.ensures (λ reading past room. tt)

pub returns-clause-closed : goal.returns-clause-closed
returns-clause-closed g c =
    let fits : SFits w64 c.now-at.result = record { sfits = c.now-at.type_inv } in
    let acts = subst (λ at. Acts (g.C.Clerk.told c.args.clerk.now)
    (g.C.Clerk.told c.act.new.self) (CloseDoor c.args.door at) c.act.result) (to_z-of_z fits)
    c.act.ensures in (
      record_of (CloseDoor c.args.door c.now-at.result) c.act.result acts.before
          (g.C.Clerk.told c.act.new.self).log,
      record {
        at = c.now-at.result;
        moment = c.now-at.ensures.may_be;
        asked = refl;
        acts = record { acts = acts; before = refl; after = refl };
      },
    )
