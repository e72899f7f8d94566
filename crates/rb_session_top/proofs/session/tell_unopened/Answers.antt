use Rattle.std.proofs.Common.{refl}
use Rattle.rb_session_top.proofs.session.tell_unopened.Goals as goal

pub returns-in-BadStore : goal.returns-in-BadStore
returns-in-BadStore g c = rw (c.in-BadStore.is) record { is = refl; told = c.tell_row.ensures }
