use Rattle.rb_session.proofs.telling.tell_line.Goals as goal

pub returns : goal.returns
returns g c = rw c.as_slice.ensures at c.tell.ensures
