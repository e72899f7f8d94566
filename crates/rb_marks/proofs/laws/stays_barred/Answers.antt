use Rattle.rb_marks.proofs.Barring as barring
use Rattle.rb_marks.proofs.laws.stays_barred.Goals as goal

pub returns : goal.returns
returns c = barring.stays_barred
