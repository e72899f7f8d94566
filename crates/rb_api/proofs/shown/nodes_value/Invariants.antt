use Rattle.std.proofs.Common.{◌≡◌, drop}
use Rattle.serde_json.specs.Data.{no_members}
use Rattle.serde_json.specs.View.{members_view}
use Rattle.rb_api.specs.Views.{put_nodes}
use Rattle.rb_api.proofs.shown.nodes_value.Given as goal

-- with the nodes that are left, the members are those of all nodes
abbrev pub invariant-loop-node : goal.invariant-loop-node
invariant-loop-node l =
    put_nodes (drop l.node-index l.nodes) (members_view l.members.entries)
    ≡ put_nodes l.nodes no_members
