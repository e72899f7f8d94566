use Rattle.std.proofs.Common.{◌≡◌, IsFalse, sym, subst, arith, refl}
use Rattle.std.specs.List.{list_any}
use Rattle.rb_marks.specs.Units.{outline}
use Rattle.rb_marks.specs.First.{status_of, stops}
use Rattle.rb_marks.specs.declared.mark.Mark.TheVariants.{Abort}
use Rattle.rb_marks.specs.declared.mark.Status.TheVariants.{Running}
use Rattle.rb_marks.proofs.Reserve.{reserve_abort}
use Rattle.rb_marks.proofs.Legal.{legal_more}
use Rattle.rb_flow.proofs.KeptMarks.{kept_aborted}
use Rattle.rb_flow.proofs.flow.Flow.abort.Goals as goal

pub invariant_of-self : goal.invariant_of-self
invariant_of-self c =
    let running = subst (λ v. status_of (outline v.plan) v.marks ≡ Running)
    (sym c.self.view_is) c.requires.running in
    let none = subst (λ v. IsFalse (list_any stops v.marks)) (sym c.self.view_is) c.requires.none in
    let reserve = reserve_abort (outline c.self.inside.plan).tiers c.self.inside.marks.items none in
    rw c.push_reserved.ensures.items (
      record {
        sound = c.self.invariant.0.sound;
        legal = legal_more (outline c.self.inside.plan) c.self.inside.marks.items Abort
            c.self.invariant.0.legal (running, none);
        reserved =
            omega (
              arith,
              reserve,
              c.self.invariant.0.reserved,
              c.push_reserved.ensures.len,
              c.push_reserved.ensures.capacity,
            );
      },
      kept_aborted (outline c.self.inside.plan) c.self.inside.marks.items c.self.inside.kept _
          c.self.invariant.1 refl refl refl refl refl,
    )
