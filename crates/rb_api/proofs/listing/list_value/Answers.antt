use Rattle.std.proofs.Common.{◌∙◌, map, ap}
use Rattle.std.proofs.lemmas.List.{take_all}
use Rattle.serde_json.specs.Data.{array}
use Rattle.serde_json.specs.View.{items_of}
use Rattle.serde_json.proofs.Views.{view-Array}
use Rattle.rb_api.proofs.listing.list_value.Goals as goal

pub returns : goal.returns
returns g c =
    view-Array c.loop-item.values ∙ ap (λ ds. array (items_of ds)) c.loop-item.invariant
    ∙ ap (λ xs. array (items_of (map g.T.Shows.as_json xs)))
    (take_all c.loop-item.item-index c.args.items.now c.loop-item-test.false)
