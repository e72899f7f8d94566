use Rattle.std.proofs.Common.{◌≡◌, ◌∙◌, length, true, ap, sym, subst}
use Rattle.rb_desk.proofs.SoloLaws.{acts_of_steps}
use Rattle.rb_desk.specs.Settling.{MayAskOn}
use Rattle.rb_board.specs.History.{doors_of, desk_rights, rights_in}
use Rattle.rb_board.specs.Rule.{Holder}
use Rattle.rb_board.specs.Seats.{seen_in}
use Rattle.rb_board.specs.declared.view.Seen.{Seen}
use Rattle.rb_board.proofs.Granting.{may_widen}
use Rattle.rb_board.proofs.Stepping.{can_enter_as, stepped_as}
use Rattle.rb_board.proofs.seats.step_as.Goals as goal

pub step-answer-requires : goal.step-answer-requires
step-answer-requires g c =
    let seen : Seen = seen_in c.args.seat.now.me.0 in
    let may = c.requires.may in
    subst (λ log. MayAskOn log c.args.call) (sym may.is_at.log_is)
    (may_widen (doors_of seen.opening) seen.number
    (rights_in seen.opening seen.number seen.past) (desk_rights seen.log) may.within c.args.call
    may.may)

pub enter_as-requires-clause-can : goal.enter_as-requires-clause-can
enter_as-requires-clause-can g c =
    let seen : Seen = seen_in c.args.seat.now.me.0 in
    let may = c.requires.may in
    let old = c.args.desk.now in
    let new = c.step-answer.new.self in
    let said = c.step-answer.ensures in
    let asked = subst (λ log. MayAskOn log c.args.call) (sym may.is_at.log_is)
    (may_widen (doors_of seen.opening) seen.number
    (rights_in seen.opening seen.number seen.past) (desk_rights seen.log) may.within c.args.call
    may.may) in
    let one = c.one_row.ensures old.room c.args.call c.step-answer.result old.log new.log said.step.log
    said.step.true_record in
    can_enter_as g.K.Keeper.faults seen old new c.args.call c.step-answer.result may said.step
    (acts_of_steps c.rights_follow.ensures g.K.Keeper.rows g.K.Keeper.faults old new c.args.call
    c.step-answer.result said.was said.is asked said.step)
    (c.tasks_are_claimed.ensures new.log old.room (length old.log) c.args.call
    c.step-answer.result said.step.true_record)
    (c.open_once.ensures old.log said.was.legal)
    one.0 one.1 g.A.Asking.call (length c.log-before.result.now) c.requires.asked
    (ap length c.log-before.ensures.rows)

pub returns-clause-stepped : goal.returns-clause-stepped
returns-clause-stepped g c =
    let seen : Seen = seen_in c.args.seat.now.me.0 in
    let may = c.requires.may in
    let old = c.args.desk.now in
    let new = c.step-answer.new.self in
    let said = c.step-answer.ensures in
    let asked = subst (λ log. MayAskOn log c.args.call) (sym may.is_at.log_is)
    (may_widen (doors_of seen.opening) seen.number
    (rights_in seen.opening seen.number seen.past) (desk_rights seen.log) may.within c.args.call
    may.may) in
    let one = c.one_row.ensures old.room c.args.call c.step-answer.result old.log new.log said.step.log
    said.step.true_record in
    stepped_as g.K.Keeper.faults seen old new c.args.call c.step-answer.result may said.step
    (acts_of_steps c.rights_follow.ensures g.K.Keeper.rows g.K.Keeper.faults old new c.args.call
    c.step-answer.result said.was said.is asked said.step)
    (c.tasks_are_claimed.ensures new.log old.room (length old.log) c.args.call
    c.step-answer.result said.step.true_record)
    (c.open_once.ensures old.log said.was.legal)
    one.0 one.1 g.A.Asking.call (length c.log-before.result.now) c.requires.asked
    (ap length c.log-before.ensures.rows) c.args.seat.now.me.1 c.enter_as.new.seat.me
    c.enter_as.ensures.entered
