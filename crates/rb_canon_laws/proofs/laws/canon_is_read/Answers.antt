use Rattle.rb_canon_laws.proofs.DocsRead.{canon_is_read}
use Rattle.rb_canon_laws.proofs.laws.canon_is_read.Goals as goal

pub returns : goal.returns
returns c = canon_is_read
