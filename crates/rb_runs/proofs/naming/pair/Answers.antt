use Rattle.std.proofs.Common.{arith}
use Rattle.serde_json.specs.View.{view}
use Rattle.rb_runs.proofs.GivenPairs.{no_pair}
use Rattle.rb_runs.proofs.naming.pair.Goals as goal

pub returns-then-len-ne2 : goal.returns-then-len-ne2
returns-then-len-ne2 c =
    no_pair (view c.args.value.now) c.in-Some.items.now.items c.in-Some.ensures
    (λ is. let other = c.if-len-ne2.true in
    other (omega (arith, c.len.ensures, c.in-Some.items.now.ok.0, is)))
