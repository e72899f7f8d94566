use Rattle.std.proofs.Common.{rules}
use Rattle.std.proofs.lemmas.Str.{lead_after_ascii}
use Rattle.rb_yaml.proofs.signs.behind_first.Goals as goal

pub range_from-requires : goal.range_from-requires
range_from-requires c = λ some. (search rules, λ l big. lead_after_ascii c.args.text.now 0 c.utf8.text c.requires l big)
