use Rattle.rb_canon_laws.proofs.Shapes.{shape_is_kept}
use Rattle.rb_canon_laws.proofs.laws.shape_is_kept.Goals as goal

pub returns : goal.returns
returns c = shape_is_kept
