use Rattle.rb_demo.proofs.Asked.{was_accepted, was_refused, run_heard}
use Rattle.rb_demo.specs.declared.hearing.HeardAnswer.TheVariants as heard
use Rattle.rb_demo.proofs.asking.run.Goals as goal

pub returns-in-Accepted : goal.returns-in-Accepted
returns-in-Accepted g c =
    was_accepted (g.C.Clerk.told c.args.clerk.now) (g.C.Clerk.told c.say.new.clerk) c.args.user.now
    c.args.job.now c.in_ok-call.call c.in_ok-call.ensures c.in-Accepted.ensures

pub returns-in-Refused : goal.returns-in-Refused
returns-in-Refused g c =
    was_refused (g.C.Clerk.told c.args.clerk.now) (g.C.Clerk.told c.say.new.clerk) c.args.user.now
    c.args.job.now c.in_ok-call.call c.in_ok-call.ensures c.in-Refused.ensures

pub unreachable-requires-in-Imported : goal.unreachable-requires-in-Imported
unreachable-requires-in-Imported g c =
    run_heard (g.C.Clerk.told c.args.clerk.now) (g.C.Clerk.told c.say.new.clerk) c.args.user.now
    c.args.job.now c.in_ok-call.call heard.Imported c.in_ok-call.ensures c.in-Imported.ensures
    c.requires.room

pub unreachable-requires-in-Other : goal.unreachable-requires-in-Other
unreachable-requires-in-Other g c =
    run_heard (g.C.Clerk.told c.args.clerk.now) (g.C.Clerk.told c.say.new.clerk) c.args.user.now
    c.args.job.now c.in_ok-call.call heard.Other c.in_ok-call.ensures c.in-Other.ensures
    c.requires.room

pub unreachable-requires : goal.unreachable-requires
unreachable-requires g c =
    run_heard (g.C.Clerk.told c.args.clerk.now) (g.C.Clerk.told c.say.new.clerk) c.args.user.now
    c.args.job.now c.in_ok-call.call heard.Full c.in_ok-call.ensures c.in-Full.ensures
    c.requires.room
