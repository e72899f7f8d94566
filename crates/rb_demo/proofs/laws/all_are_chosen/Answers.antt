use Rattle.rb_demo.proofs.AllChosen.{all_chosen}
use Rattle.rb_demo.proofs.laws.all_are_chosen.Goals as goal

pub returns : goal.returns
returns c = all_chosen
