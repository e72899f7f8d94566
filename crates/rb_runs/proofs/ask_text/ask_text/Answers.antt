use Rattle.std.proofs.Common.{◌∙◌, ap}
use Rattle.serde_json.specs.Written.{compact_text, has_float}
use Rattle.rb_runs.proofs.Asks.{ask_floats}
use Rattle.rb_runs.proofs.ask_text.ask_text.Goals as goal

pub returns : goal.returns
returns c =
    c.from_string.ensures
    ∙ c.in_ok-to_string.ensures.text
    (ap has_float c.in_ok-value.ensures ∙ ask_floats c.args.ask.now c.args.due)
    ∙ ap compact_text c.in_ok-value.ensures
