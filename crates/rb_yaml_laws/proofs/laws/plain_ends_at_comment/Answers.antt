use Rattle.rb_yaml_laws.proofs.Scanned.{plain_ends_at_comment}
use Rattle.rb_yaml_laws.proofs.laws.plain_ends_at_comment.Goals as goal

pub returns : goal.returns
returns c = plain_ends_at_comment
