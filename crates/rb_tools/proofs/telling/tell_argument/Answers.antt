use Rattle.rb_tools.proofs.telling.tell_argument.Goals as goal

pub returns : goal.returns
returns g c = rw (c.as_slice.ensures, c.as_bytes.ensures.value, c.as_slice-2.ensures, c.as_bytes-2.ensures.value, c.as_slice-3.ensures) at c.tell.ensures
