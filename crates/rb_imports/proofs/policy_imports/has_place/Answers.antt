use Rattle.std.proofs.Common.{◌||◌, nat_lt, length, ap}
use Rattle.rb_log.specs.Imports.{most_files}
use Rattle.rb_imports.proofs.policy_imports.has_place.Goals as goal

pub returns-else-is_there : goal.returns-else-is_there
unfolding most_files
returns-else-is_there c = ap (λ b. b || nat_lt (length c.args.files.now) 64) c.if-is_there.ensures
