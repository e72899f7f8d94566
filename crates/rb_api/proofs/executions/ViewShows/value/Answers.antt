use Rattle.std.proofs.Common.{◌∙◌, ap}
use Rattle.serde_json.specs.Data.{object}
use Rattle.serde_json.specs.View.{members_view}
use Rattle.serde_json.proofs.Views.{view-Object}
use Rattle.rb_api.specs.Views.{with_state, with_work}
use Rattle.rb_api.proofs.executions.ViewShows.value.Goals as goal

pub returns : goal.returns
returns c =
    let v = c.args.self.now in
    view-Object c.put_state.new.members
    ∙ ap object (c.in_ok-put_state.ensures
    ∙ ap (with_state v) (c.in_ok-put_work.ensures
    ∙ ap (λ entries. with_work v (members_view entries)) c.new-members.ensures.empty))
