use Rattle.std.proofs.Common.{◌∙◌, ap, codes}
use Rattle.serde_json.specs.Data.{array, object, put}
use Rattle.serde_json.specs.View.{members_view}
use Rattle.serde_json.proofs.Views.{view-Object}
use Rattle.rb_log.specs.Asks.{given_items, instant_or_null}
use Rattle.rb_runs.proofs.ask_text.ask_value.Goals as goal

pub returns : goal.returns
returns c =
    view-Object c.put-3.new.map
    ∙ ap object (c.in_ok-put-3.ensures.ok
    ∙ ap (λ d. put (codes "given") d (members_view c.put-2.new.map.entries))
    (c.in_ok-given_value.ensures ∙ ap (λ given. array (given_items given)) c.as_slice.ensures)
    ∙ ap (put (codes "given") _) (c.in_ok-put-2.ensures.ok
    ∙ ap (λ d. put (codes "filter") d (members_view c.put.new.map.entries))
    c.in_ok-filter_value.ensures
    ∙ ap (put (codes "filter") _) (c.in_ok-put.ensures.ok
    ∙ ap (λ d. put (codes "due") d (members_view c.new-members.result.entries))
    c.in_ok-due_value.ensures
    ∙ ap (λ entries. put (codes "due") (instant_or_null c.args.due) (members_view entries))
    c.new-members.ensures.empty)))
