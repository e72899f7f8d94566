use Rattle.std.proofs.Common.{◌≡◌, sym, subst, arith, refl}
use Rattle.rb_marks.specs.Units.{outline}
use Rattle.rb_marks.specs.First.{status_of}
use Rattle.rb_marks.specs.declared.mark.Mark.TheVariants.{Lost}
use Rattle.rb_marks.specs.declared.mark.Status.TheVariants.{Running}
use Rattle.rb_marks.proofs.Reserve.{reserve_lost}
use Rattle.rb_marks.proofs.Legal.{legal_more}
use Rattle.rb_marks.proofs.Waits.{running_not_lost}
use Rattle.rb_flow.proofs.KeptMarks.{kept_lost}
use Rattle.rb_flow.proofs.flow.Flow.lose.Goals as goal

pub invariant_of-self : goal.invariant_of-self
invariant_of-self c =
    let running = subst (λ v. status_of (outline v.plan) v.marks ≡ Running)
    (sym c.self.view_is) c.requires in
    let reserve = reserve_lost (outline c.self.inside.plan).tiers c.self.inside.marks.items
    (running_not_lost (outline c.self.inside.plan) c.self.inside.marks.items running) in
    rw c.push_reserved.ensures.items (
      record {
        sound = c.self.invariant.0.sound;
        legal = legal_more (outline c.self.inside.plan) c.self.inside.marks.items Lost
            c.self.invariant.0.legal running;
        reserved =
            omega (
              arith,
              reserve,
              c.self.invariant.0.reserved,
              c.push_reserved.ensures.len,
              c.push_reserved.ensures.capacity,
            );
      },
      kept_lost (outline c.self.inside.plan) c.self.inside.marks.items c.self.inside.kept _
          c.self.invariant.1 refl refl refl refl refl,
    )
