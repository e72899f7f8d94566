use Rattle.std.proofs.Common.{◌≡◌, drop}
use Rattle.serde_json.specs.View.{members_view}
use Rattle.rb_reply.specs.Listing.{put_texts}
use Rattle.rb_reply.proofs.texts.put_texts.Given as goal

-- with the texts that are left, the members are those with all texts
abbrev pub invariant-loop-prop : goal.invariant-loop-prop
invariant-loop-prop l =
    put_texts (drop l.prop-index l.props) (members_view l.members.entries)
    ≡ put_texts l.props (members_view l.fn.members.entries)
