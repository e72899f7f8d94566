use Rattle.std.proofs.Common.{◌≡◌, map, take, string_bytes}
use Rattle.std.specs.List.{flat_map}
use Rattle.rb_tools.specs.Nodes.{name_line}
use Rattle.rb_tools.proofs.nodes.lines_of.Given as goal

-- the lines of the nodes so far are written
abbrev pub invariant-loop-node : goal.invariant-loop-node
invariant-loop-node l =
    string_bytes l.text ≡ flat_map name_line (map (λ node. node.now) (take l.node-index l.nodes))
