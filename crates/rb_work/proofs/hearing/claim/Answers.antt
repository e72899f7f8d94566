use Rattle.std.proofs.Common.{◌≡◌, true, rules, to_z, of_z, w64}
use Rattle.rb_log.specs.Withdrawals.{is_withdrawal}
use Rattle.rb_work.proofs.Withdrawn.{withdrawal_nearer, withdrew_more}
use Rattle.rb_work.proofs.hearing.claim.Goals as goal

pub loop-answer-smaller : goal.loop-answer-smaller
loop-answer-smaller g c =
    let gone : is_withdrawal c.act.result ≡ true = search (rules) in
    withdrawal_nearer c.args.worker (to_z w64 (of_z w64 c.args.at))
    (g.C.Clerk.told c.loop-answer.clerk) (g.C.Clerk.told c.act.new.self) c.act.result
    c.act.ensures gone

pub loop-answer-preserved : goal.loop-answer-preserved
loop-answer-preserved g c =
    let gone : is_withdrawal c.act.result ≡ true = search (rules) in
    withdrew_more (to_z w64 (of_z w64 c.args.at)) c.args.worker (g.C.Clerk.told c.args.clerk.now)
    (g.C.Clerk.told c.loop-answer.clerk) (g.C.Clerk.told c.act.new.self) c.act.result
    c.loop-answer.invariant c.act.ensures gone
