use Rattle.std.proofs.Common.{◌∙◌, ap}
use Rattle.rb_cron.specs.Crontab.{fields_in}
use Rattle.rb_cron.proofs.Parts.{six_words, seven_words}
use Rattle.rb_cron.proofs.crontab.fields_of_words.Goals as goal

pub returns-in_ok-fields_in-in-len6-clause-fields : goal.returns-in_ok-fields_in-in-len6-clause-fields
returns-in_ok-fields_in-in-len6-clause-fields c =
    ap fields_in (six_words c.args.words.now _ c.in-len6.len_at_least c.in-len6.len_below) ∙ c.in_ok-fields_in-in-len6.ensures

pub returns-in_ok-fields_in-in-len7-clause-fields : goal.returns-in_ok-fields_in-in-len7-clause-fields
returns-in_ok-fields_in-in-len7-clause-fields c =
    ap fields_in (seven_words c.args.words.now _ c.in-len7.len_at_least c.in-len7.len_below) ∙ c.in_ok-fields_in-in-len7.ensures
