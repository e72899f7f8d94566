use Rattle.std.proofs.Common.{◌∙◌, [], ◌∷◌, Some, None, ap, sym, subst, refl, arith}
use Rattle.rb_board.specs.Rule.{Holder}
use Rattle.rb_board.specs.declared.view.View.TheVariants as view
use Rattle.rb_board.proofs.Calls.{gives_back}
use Rattle.rb_board.proofs.Turning.{may_step}
use Rattle.rb_board.proofs.seats.answer_as.Goals as goal

pub exchange-requires : goal.exchange-requires
exchange-requires g c = (
  c.requires.table.0,
  (Some c.requires.turn.desk, rw (ap (λ (m : Holder _). m.1) c.requires.turn.turn.me_is) refl),
)

pub step_as-answer-requires-clause-may : goal.step_as-answer-requires-clause-may
step_as-answer-requires-clause-may g c =
    may_step g.K.Keeper.faults c.args.seat.now.me c.args.call c.requires.turn c.exchange.result _
    c.exchange.ensures.2 c.in-Some.desk c.in-Some.is c.exchange.new.seat.me
    (ap (λ (m : Holder _). m.0) c.exchange.ensures.3)

pub swap-requires : goal.swap-requires
swap-requires g c =
    let stepped = c.step_as-answer.ensures.stepped in
    let slot = ap (λ (m : Holder _). m.1) c.requires.turn.turn.me_is in (
      c.exchange-2.ensures.0
          ∙ (c.step_as-answer.ensures.table ∙ (c.exchange.ensures.0 ∙ c.requires.table.0)),
      omega (arith, c.requires.table.1),
      gives_back g.K.Keeper.faults c.args.shared.now.table_id.slots c.exchange-2.new.seat.id
          c.exchange-2.new.seat.me stepped.new c.step_as-answer.new.desk stepped.is_at
          (rw (c.exchange-2.ensures.3, stepped.me_is, c.exchange.ensures.3, slot) refl),
    )
