use Rattle.rb_demo.specs.declared.hearing.HeardAnswer.TheVariants as heard
use Rattle.rb_demo.proofs.Asked.{import_heard}
use Rattle.rb_demo.proofs.asking.import.Goals as goal

pub returns-in-Imported : goal.returns-in-Imported
returns-in-Imported g c =
    λ row imports. import_heard (g.C.Clerk.told c.args.clerk.now) (g.C.Clerk.told c.say.new.clerk)
    c.args.call row heard.Imported c.in-Imported.ensures imports

pub unreachable-requires : goal.unreachable-requires
unreachable-requires g c =
    import_heard (g.C.Clerk.told c.args.clerk.now) (g.C.Clerk.told c.say.new.clerk) c.args.call
    c.requires.imports.0 heard.Accepted c.in-Accepted.ensures c.requires.imports.1

pub unreachable-requires-in-Refused : goal.unreachable-requires-in-Refused
unreachable-requires-in-Refused g c =
    import_heard (g.C.Clerk.told c.args.clerk.now) (g.C.Clerk.told c.say.new.clerk) c.args.call
    c.requires.imports.0 heard.Refused c.in-Refused.ensures c.requires.imports.1

pub unreachable-requires-in-Full : goal.unreachable-requires-in-Full
unreachable-requires-in-Full g c =
    import_heard (g.C.Clerk.told c.args.clerk.now) (g.C.Clerk.told c.say.new.clerk) c.args.call
    c.requires.imports.0 heard.Full c.in-Full.ensures c.requires.imports.1

pub unreachable-requires-in-Other : goal.unreachable-requires-in-Other
unreachable-requires-in-Other g c =
    import_heard (g.C.Clerk.told c.args.clerk.now) (g.C.Clerk.told c.say.new.clerk) c.args.call
    c.requires.imports.0 heard.Other c.in-Other.ensures c.requires.imports.1
