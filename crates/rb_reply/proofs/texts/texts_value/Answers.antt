use Rattle.std.proofs.Common.{◌∙◌, ap}
use Rattle.serde_json.specs.Data.{object}
use Rattle.serde_json.specs.View.{members_view}
use Rattle.serde_json.proofs.Views.{view-Object}
use Rattle.rb_reply.specs.Listing.{put_texts}
use Rattle.rb_reply.proofs.texts.texts_value.Goals as goal

pub returns : goal.returns
returns c =
    view-Object c.put_texts.new.members
    ∙ ap object (c.in_ok-put_texts.ensures
    ∙ ap (λ entries. put_texts c.args.props.now (members_view entries))
    c.new-members.ensures.empty)
