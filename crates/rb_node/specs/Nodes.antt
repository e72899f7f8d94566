-- What a node shows under the name of an attribute.
use Rattle.std.specs.Prelude.{ℕ, Bool, ◌||◌, List, Option, Some, option_map, find, bytes_eq, codes, if◌then◌else◌}
use Rattle.rb_node.specs.declared.node.Node.{Node}

-- what both mean the node's own name
abbrev pub is_own_name : List ℕ → Bool
is_own_name key = bytes_eq key (codes "name") || bytes_eq key (codes "nodename")

-- the text of an attribute, of equal keys the first; the own name under its two names
abbrev pub attribute : Node → List ℕ → Option (List ℕ)
attribute node key =
    if is_own_name key then Some node.name
    else option_map (λ p. p.text) (find (λ p. bytes_eq p.key key) node.attrs)
