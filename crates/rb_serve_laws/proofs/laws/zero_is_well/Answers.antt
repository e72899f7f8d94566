use Rattle.rb_serve_laws.proofs.Well as law
use Rattle.rb_serve_laws.proofs.laws.zero_is_well.Goals as goal

pub returns : goal.returns
returns g c = law.zero_is_well _ _
