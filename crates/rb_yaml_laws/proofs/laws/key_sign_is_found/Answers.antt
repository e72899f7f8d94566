use Rattle.rb_yaml_laws.proofs.Scanned.{key_sign_is_found}
use Rattle.rb_yaml_laws.proofs.laws.key_sign_is_found.Goals as goal

pub returns : goal.returns
returns c = key_sign_is_found
