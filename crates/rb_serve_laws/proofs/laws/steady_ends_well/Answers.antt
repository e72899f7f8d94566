use Rattle.rb_serve_laws.proofs.Steady as law
use Rattle.rb_serve_laws.proofs.laws.steady_ends_well.Goals as goal

pub returns : goal.returns
returns g c =
    law.steady_ends_well c.beginnings_are_legal.ensures c.acts_are_true.ensures _ _ _ _ _ _
