use Rattle.std.proofs.Common.{refl, subst, sym}
use Rattle.rb_reply.specs.Errors.{memory_reply, store_reply}
use Rattle.rb_door.specs.Exchanges.{MayReply}
use Rattle.rb_door.proofs.Exchanging.{other_told}
use Rattle.rb_door.proofs.answering.reply_or_lost.Goals as goal

pub returns-in-StoreFault : goal.returns-in-StoreFault
returns-in-StoreFault c = (
  store_reply,
  subst (λ a. MayReply c.args.request.now a store_reply) (sym c.in-StoreFault.is) refl,
  c.store_failed.ensures,
)

pub returns-in-NoMemory : goal.returns-in-NoMemory
returns-in-NoMemory c = (
  memory_reply,
  subst (λ a. MayReply c.args.request.now a memory_reply) (sym c.in-NoMemory.is) refl,
  c.memory_wanting.ensures,
)

pub returns-in_default : goal.returns-in_default
returns-in_default c =
    other_told c.args.request.now c.args.answer c.printed_or_lost.result
    c.in_default.not-StoreFault c.in_default.not-NoMemory c.printed_or_lost.ensures
