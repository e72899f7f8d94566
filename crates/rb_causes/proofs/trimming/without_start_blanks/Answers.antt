use Rattle.rb_causes.proofs.Blanks.{front_trimmed}
use Rattle.rb_causes.proofs.trimming.without_start_blanks.Goals as goal

pub returns : goal.returns
returns c = front_trimmed c.args.text.now c.trim_start_matches.result.now c.trim_start_matches.ensures.matches
