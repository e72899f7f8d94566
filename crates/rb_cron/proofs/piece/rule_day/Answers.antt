use Rattle.std.proofs.Common.{rules}
use Rattle.jiff_tz.specs.PosixRule.{rule_day}
use Rattle.rb_cron.proofs.piece.rule_day.Goals as goal

pub returns-after-is_leap_year-clause-value : goal.returns-after-is_leap_year-clause-value
unfolding rule_day
returns-after-is_leap_year-clause-value c = search rules

pub returns-then-n-days_in_year-clause-value : goal.returns-then-n-days_in_year-clause-value
unfolding rule_day
returns-then-n-days_in_year-clause-value c = search rules

pub returns-else-n-days_in_year-clause-value : goal.returns-else-n-days_in_year-clause-value
unfolding rule_day
returns-else-n-days_in_year-clause-value c = search rules

pub returns-in-WeekdayOfMonth-clause-value : goal.returns-in-WeekdayOfMonth-clause-value
unfolding rule_day
returns-in-WeekdayOfMonth-clause-value c = search rules
