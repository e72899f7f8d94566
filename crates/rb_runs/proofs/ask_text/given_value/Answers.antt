use Rattle.std.proofs.Common.{◌∙◌, map, ap}
use Rattle.std.proofs.lemmas.List.{take_all}
use Rattle.serde_json.specs.Data.{array}
use Rattle.serde_json.specs.View.{items_of}
use Rattle.serde_json.proofs.Views.{view-Array}
use Rattle.rb_log.specs.Asks.{pair_data}
use Rattle.rb_runs.proofs.Asks.{given_is}
use Rattle.rb_runs.proofs.ask_text.given_value.Goals as goal

pub returns : goal.returns
returns c =
    view-Array c.loop-one.values ∙ ap (λ ds. array (items_of ds)) c.loop-one.invariant
    ∙ ap (λ ps. array (items_of (map pair_data ps)))
    (take_all c.loop-one.one-index c.args.given.now c.loop-one-test.false)
    ∙ ap array (given_is c.args.given.now)
