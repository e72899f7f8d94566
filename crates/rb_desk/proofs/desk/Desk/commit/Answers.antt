use Rattle.std.proofs.Common.{◌∙◌, List, sym, subst, refl, inr, reverse, arith, SFits, to_z, of_z, w64}
use Rattle.std.proofs.Math.Facts.{to_z-of_z}
use Rattle.rb_causes.specs.declared.row.Row.{Row}
use Rattle.rb_tables.specs.Changes.{Comes}
use Rattle.rb_desk.specs.DeskState.{DeskState}
use Rattle.rb_desk.specs.Settling.{CanCommit}
use Rattle.rb_desk.proofs.Committing.{change_comes, committed_desk, untold_steps}
use Rattle.rb_desk.proofs.Growing.{desk_of, same_desk}
use Rattle.rb_desk.proofs.Stepping.{added_steps, wanting_steps}
use Rattle.rb_desk.proofs.desk.Desk.commit.Goals as goal

pub returns-in_default-clause-step : goal.returns-in_default-clause-step
returns-in_default-clause-step g c call can =
    let change = c.args.change in
    let d : DeskState g.row.K.Denot = desk_of c.self.inside.ledger c.self.inside.room in
    let here : CanCommit d change call =
    subst (λ x. CanCommit x change call) (sym c.self.view_is) can in
    rw (← c.self.view_is) (wanting_steps g.K.Keeper.faults d d call change
    (record { log = refl; saved = refl; room = refl; later = omega arith }) refl here.is)

pub prepare-requires : goal.prepare-requires
prepare-requires g c =
    let old = c.self.inside.ledger in
    let here : CanCommit (desk_of old c.self.inside.room) c.args.change c.requires.0 =
    subst (λ x. CanCommit x c.args.change c.requires.0) (sym c.self.view_is) c.requires.1 in
    (reverse old.log, c.args.change.row, c.self.invariant.1, here.is.rules.1)

pub apply-requires-clause-comes : goal.apply-requires-clause-comes
apply-requires-clause-comes g c =
    let change = c.args.change in
    let old = c.self.inside.ledger in
    let past : List Row = reverse old.log in
    let here : CanCommit (desk_of old c.self.inside.room) change c.requires.0 =
    subst (λ x. CanCommit x change c.requires.0) (sym c.self.view_is) c.requires.1 in
    let fits : SFits w64 c.row_moment-at.result = record { sfits = c.row_moment-at.type_inv } in (
      past,
      change.row,
      change_comes c.prepare.new.tables past change.row change.effect
          (to_z w64 (of_z w64 c.row_moment-at.result)) c.counted_bytes-counted.result
          (c.prepare.ensures.same past c.self.invariant.1) here.is.rules.1
          (to_z-of_z fits ∙ c.row_moment-at.ensures) c.counted_bytes-counted.ensures,
    )

pub invariant_of-self-in-Ok-add : goal.invariant_of-self-in-Ok-add
invariant_of-self-in-Ok-add g c =
    let change = c.args.change in
    let old = c.self.inside.ledger in
    let past : List Row = reverse old.log in
    let t = c.prepare.new.tables in
    let here : CanCommit (desk_of old c.self.inside.room) change c.requires.0 =
    subst (λ x. CanCommit x change c.requires.0) (sym c.self.view_is) c.requires.1 in
    let tabled = c.prepare.ensures.same past c.self.invariant.1 in
    let fits : SFits w64 c.row_moment-at.result = record { sfits = c.row_moment-at.type_inv } in
    let at = to_z w64 (of_z w64 c.row_moment-at.result) in
    let comes : Comes t at c.counted_bytes-counted.result change.effect past change.row =
    change_comes t past change.row change.effect at
    c.counted_bytes-counted.result tabled here.is.rules.1
    (to_z-of_z fits ∙ c.row_moment-at.ensures) c.counted_bytes-counted.ensures in
    committed_desk c.turn_is_legal.ensures c.room_is_kept.ensures c.rights_follow.ensures
    g.K.Keeper.rows old c.add.new.self t c.apply.new.tables c.self.inside.room c.in-Ok.more change
    c.requires.0 here c.self.invariant.0 tabled c.in-Ok-add.ensures.ok c.in-Ok-add.ensures.saved
    c.add.ensures.held c.in-Ok.ensures.count c.in-Ok-add.ensures.spare
    (c.apply.ensures past change.row comes)

pub returns-in-Err-clause-desk : goal.returns-in-Err-clause-desk
returns-in-Err-clause-desk g c =
    same_desk g.K.Keeper.rows c.self.inside.ledger c.add.new.self c.self.inside.room
    c.self.invariant.0 c.add.ensures.held c.in-Err.ensures.err.0 (inr c.in-Err.ensures.err.1)

pub returns-in-Err-clause-step : goal.returns-in-Err-clause-step
returns-in-Err-clause-step g c call can =
    let change = c.args.change in
    let old : DeskState g.row.K.Denot = desk_of c.self.inside.ledger c.self.inside.room in
    let new : DeskState g.row.K.Denot = desk_of c.add.new.self c.self.inside.room in
    let here : CanCommit old change call =
    subst (λ x. CanCommit x change call) (sym c.self.view_is) can in
    rw (← c.self.view_is, c.refused.ensures) (untold_steps g.K.Keeper.faults old new call change
    c.add.result c.in-Err.trouble c.in-Err.is c.in-Err.ensures.err.0 c.in-Err.ensures.err.1 refl
    c.add.ensures.cause here)

pub returns-in-Ok-add-clause-desk : goal.returns-in-Ok-add-clause-desk
returns-in-Ok-add-clause-desk g c = (invariant_of-self-in-Ok-add g c).0

pub returns-in-Ok-add-clause-step : goal.returns-in-Ok-add-clause-step
returns-in-Ok-add-clause-step g c call can =
    let change = c.args.change in
    let old : DeskState g.row.K.Denot = desk_of c.self.inside.ledger c.self.inside.room in
    let new : DeskState g.row.K.Denot = desk_of c.add.new.self c.self.inside.room in
    let here : CanCommit old change call =
    subst (λ x. CanCommit x change call) (sym c.self.view_is) can in
    rw (← c.self.view_is, c.into_answer.ensures) (added_steps c.rules_are_plain.ensures
    g.K.Keeper.faults old new call change (record {
      log = c.in-Ok-add.ensures.ok;
      room = refl;
      later = c.add.ensures.cause.later;
    }) (c.in-Ok-add.ensures.cause.steady refl) c.in-Ok-add.ensures.saved here.is here.fit)
