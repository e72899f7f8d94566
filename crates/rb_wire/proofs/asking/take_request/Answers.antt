use Rattle.rb_wire.proofs.Sights.{whole_next}
use Rattle.rb_wire.proofs.asking.take_request.Goals as goal

pub returns-clause-ok : goal.returns-clause-ok
returns-clause-ok c =
    let told = rw (c.bytes.ensures, c.given.ensures) at c.in_ok-request.ensures in
    rw (c.pass.ensures.bytes, told c.requires.head c.requires.is_head)
    (whole_next _ _ _ _ _ c.requires)
