use Rattle.rb_cron.proofs.Given.{shown_is_due}
use Rattle.rb_cron.proofs.Kept.{kept_clock}
use Rattle.rb_cron.proofs.laws.shown_is_due.Goals as goal

pub returns : goal.returns
returns c = λ source zone t civil seconds kept shows at met given.
    shown_is_due source zone t civil seconds (kept_clock source.rule zone kept) shows at met given
