use Rattle.std.proofs.Common.{IsTrue, IsFalse, sym, subst, arith}
use Rattle.std.specs.List.{list_any}
use Rattle.rb_marks.specs.Units.{outline}
use Rattle.rb_marks.specs.First.{is_open, is_lost}
use Rattle.rb_marks.specs.declared.mark.Mark.TheVariants.{End}
use Rattle.rb_marks.proofs.Reserve.{reserve_end}
use Rattle.rb_marks.proofs.Legal.{legal_more}
use Rattle.rb_flow.proofs.KeptMarks.{kept_ended}
use Rattle.rb_flow.proofs.Startable.{kept_is_ready}
use Rattle.rb_flow.proofs.Units.{open_unit, still_passed}
use Rattle.rb_flow.proofs.flow.Flow.finish.Goals as goal

pub finish-requires : goal.finish-requires
finish-requires c =
    let p = outline c.self.inside.plan in
    let marks = c.self.inside.marks.items in
    let leaf = c.args.leaf in
    let is_open = subst (λ v. IsTrue (is_open v.marks leaf)) (sym c.self.view_is) c.requires.«open» in
    let sound = c.self.invariant.0.sound in
    let legal = c.self.invariant.0.legal in
    let kept = c.self.invariant.1 in
    let u = open_unit p sound marks leaf legal is_open in
    record {
      ready = kept_is_ready p sound marks legal c.self.inside.kept kept;
      group = omega (arith, u.1.placed.group, kept.groups);
      node = omega (arith, u.1.placed.node, kept.nodes);
      slot = omega (arith, u.1.placed.slot, kept.leaves.slots);
      passed = still_passed p marks leaf c.args.ending u.0 c.self.inside.kept kept is_open u.1;
    }

pub invariant_of-self : goal.invariant_of-self
invariant_of-self c =
    let p = outline c.self.inside.plan in
    let marks = c.self.inside.marks.items in
    let leaf = c.args.leaf in
    let is_open = subst (λ v. IsTrue (is_open v.marks leaf)) (sym c.self.view_is) c.requires.«open» in
    let lost = subst (λ v. IsFalse (list_any is_lost v.marks)) (sym c.self.view_is) c.requires.lost in
    let reserve = reserve_end p.tiers marks leaf c.args.ending is_open in
    let sound = c.self.invariant.0.sound in
    let legal = c.self.invariant.0.legal in
    let u = open_unit p sound marks leaf legal is_open in
    rw c.push_reserved.ensures.items (
      record {
        sound = sound;
        legal = legal_more p marks (End leaf c.args.ending) legal (is_open, lost);
        reserved =
            omega (
              arith,
              reserve,
              c.self.invariant.0.reserved,
              c.push_reserved.ensures.len,
              c.push_reserved.ensures.capacity,
            );
      },
      kept_ended p sound marks leaf c.args.ending u.0 legal is_open u.1 c.self.inside.kept
          c.finish.new.self c.self.invariant.1 c.finish.ensures,
    )
