use Rattle.rb_session.proofs.telling.tell_callers.Goals as goal

pub returns : goal.returns
returns g c = rw c.as_slice.ensures at c.tell.ensures
