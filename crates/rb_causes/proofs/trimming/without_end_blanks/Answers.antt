use Rattle.rb_causes.proofs.Blanks.{back_trimmed}
use Rattle.rb_causes.proofs.trimming.without_end_blanks.Goals as goal

pub returns : goal.returns
returns c = back_trimmed c.args.text.now c.trim_end_matches.result.now c.trim_end_matches.ensures.matches
