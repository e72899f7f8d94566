use Rattle.rb_command.proofs.telling.tell_usage.Goals as goal

pub returns : goal.returns
returns g c = rw c.as_slice.ensures at c.tell.ensures
