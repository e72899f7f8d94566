use Rattle.rb_route.proofs.Routed as law
use Rattle.rb_route.proofs.laws.matchit_finds.Goals as goal

pub returns : goal.returns
returns c = law.matchit_finds
