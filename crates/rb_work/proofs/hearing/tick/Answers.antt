use Rattle.std.proofs.Common.{to_z, of_z, w64}
use Rattle.rb_work.proofs.Ticked.{tick_untasked}
use Rattle.rb_work.proofs.hearing.tick.Goals as goal

pub spend-requires : goal.spend-requires
spend-requires g c =
    tick_untasked (to_z w64 (of_z w64 c.args.at)) (g.C.Clerk.told c.args.clerk.now)
    (g.C.Clerk.told c.act-answer.new.self) c.act-answer.result c.act-answer.ensures
