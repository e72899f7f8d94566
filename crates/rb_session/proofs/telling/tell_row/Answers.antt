use Rattle.rb_session.proofs.telling.tell_row.Goals as goal

pub returns : goal.returns
returns g c = rw (c.as_slice.ensures, c.as_bytes-number.ensures.value, c.format.ensures.text, c.as_slice-2.ensures) at c.tell.ensures
