use Rattle.rb_serve.proofs.doors.serve_door.Goals as goal

pub returns-clause-served : goal.returns-clause-served
returns-clause-served g c = record {
  served = g.C.Clerk.told c.serve_line-end.new.clerk;
  line_served = c.serve_line-end.ensures.served;
  close = c.close_door.ensures.closed.0;
  closes = c.close_door.ensures.closed.1;
}
