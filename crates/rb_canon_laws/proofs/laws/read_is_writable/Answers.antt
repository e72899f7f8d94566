use Rattle.rb_canon_laws.proofs.FineNodes.{read_is_writable}
use Rattle.rb_canon_laws.proofs.laws.read_is_writable.Goals as goal

pub returns : goal.returns
returns c = read_is_writable
