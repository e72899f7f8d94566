use Rattle.rb_demo.proofs.Ruled.{is_ruled, is_no_task}
use Rattle.rb_demo.proofs.hearing.say.Goals as goal

pub heard_in-requires : goal.heard_in-requires
heard_in-requires g c =
    is_no_task (g.C.Clerk.told c.args.clerk.now) (g.C.Clerk.told c.act.new.self) c.args.call
    c.act.result
    (is_ruled (g.C.Clerk.told c.args.clerk.now) (g.C.Clerk.told c.act.new.self) c.args.call
    c.act.result (c.requires.alone.faults c.args.clerk.now)
    (c.requires.alone.faults c.act.new.self) (c.requires.alone.own c.args.clerk.now)
    (c.requires.alone.own c.act.new.self) c.act.ensures)
    c.requires.no_task

pub returns : goal.returns
returns g c = record {
  answer = c.act.result;
  acts = c.act.ensures;
  hears = c.heard_in.ensures;
  ruled = is_ruled (g.C.Clerk.told c.args.clerk.now) (g.C.Clerk.told c.act.new.self) c.args.call
      c.act.result (c.requires.alone.faults c.args.clerk.now)
      (c.requires.alone.faults c.act.new.self) (c.requires.alone.own c.args.clerk.now)
      (c.requires.alone.own c.act.new.self) c.act.ensures;
}
