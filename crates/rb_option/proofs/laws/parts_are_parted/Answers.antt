use Rattle.rb_option.proofs.Parts.{parts_are_parted}
use Rattle.rb_option.proofs.laws.parts_are_parted.Goals as goal

pub returns : goal.returns
returns c = parts_are_parted
