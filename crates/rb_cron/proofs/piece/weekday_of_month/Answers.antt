use Rattle.std.proofs.Common.{rules}
use Rattle.rb_cron.proofs.piece.weekday_of_month.Goals as goal

pub returns-else-week-eq5-clause-value : goal.returns-else-week-eq5-clause-value
returns-else-week-eq5-clause-value c = search rules
