use Rattle.std.proofs.Common.{IsTrue, [], sym, subst, arith}
use Rattle.rb_marks.specs.Units.{outline}
use Rattle.rb_marks.specs.First.{may_withdraw}
use Rattle.rb_marks.specs.declared.mark.Mark.TheVariants.{Withdraw}
use Rattle.rb_marks.proofs.Reserve.{reserve_withdraw}
use Rattle.rb_marks.proofs.Legal.{legal_more}
use Rattle.rb_marks.proofs.Withdrawing.{withdraws_once}
use Rattle.rb_flow.proofs.KeptMarks.{kept_withdrawn}
use Rattle.rb_flow.proofs.Startable.{kept_is_ready}
use Rattle.rb_flow.proofs.Units.{withdrawn_node}
use Rattle.rb_flow.proofs.flow.Flow.withdraw.Goals as goal

pub push_reserved-requires : goal.push_reserved-requires
push_reserved-requires c =
    let p = outline c.self.inside.plan in
    let marks = c.self.inside.marks.items in
    let may = subst (λ v. IsTrue (may_withdraw (outline v.plan) v.marks c.args.node))
    (sym c.self.view_is) c.requires in
    let reserve = reserve_withdraw p.tiers marks c.args.node
    (withdrawn_node p marks c.args.node may)
    (withdraws_once p marks [] c.args.node
    (legal_more p marks (Withdraw c.args.node) c.self.invariant.0.legal may)) in
    omega (arith, reserve, c.self.invariant.0.reserved)

pub withdraw-requires : goal.withdraw-requires
withdraw-requires c =
    let p = outline c.self.inside.plan in
    let marks = c.self.inside.marks.items in
    let may = subst (λ v. IsTrue (may_withdraw (outline v.plan) v.marks c.args.node))
    (sym c.self.view_is) c.requires in
    let kept = c.self.invariant.1 in
    record {
      ready = (
        p,
        kept_is_ready p c.self.invariant.0.sound marks c.self.invariant.0.legal
            c.self.inside.kept kept,
      );
      node = omega (arith, withdrawn_node p marks c.args.node may, kept.nodes);
    }

pub invariant_of-self : goal.invariant_of-self
invariant_of-self c =
    let p = outline c.self.inside.plan in
    let marks = c.self.inside.marks.items in
    let may = subst (λ v. IsTrue (may_withdraw (outline v.plan) v.marks c.args.node))
    (sym c.self.view_is) c.requires in
    let legal = legal_more p marks (Withdraw c.args.node) c.self.invariant.0.legal may in
    let reserve = reserve_withdraw p.tiers marks c.args.node
    (withdrawn_node p marks c.args.node may)
    (withdraws_once p marks [] c.args.node legal) in
    rw c.push_reserved.ensures.items (
      record {
        sound = c.self.invariant.0.sound;
        legal = legal;
        reserved =
            omega (
              arith,
              reserve,
              c.self.invariant.0.reserved,
              c.push_reserved.ensures.len,
              c.push_reserved.ensures.capacity,
            );
      },
      kept_withdrawn p marks c.args.node c.self.inside.kept c.withdraw.new.self
          c.self.invariant.1 c.withdraw.ensures,
    )
