use Rattle.std.proofs.Common.{◌≡◌}
use Rattle.serde_json.specs.View.{members_view}
use Rattle.rb_body.specs.Bodies.{options_in}
use Rattle.rb_body.proofs.Saying.{behind}
use Rattle.rb_body.proofs.members.options_in.Given as goal

-- the options so far, in front of those of the members that are left, are all options
abbrev pub invariant-loop-name : goal.invariant-loop-name
invariant-loop-name l =
    options_in (members_view l.members.entries)
    ≡ behind l.options (options_in (members_view l.name-iterator))
