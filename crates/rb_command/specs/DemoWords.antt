-- The words of `demo`.
use Rattle.std.specs.Prelude.{◌≤◌, ℕ, Bool, ◌&&◌, nat_le, List, [], ◌∷◌, Option, Some, None, if◌then◌else◌}
use Rattle.rb_causes.specs.Numbers.{decimal_of}
use Rattle.rb_command.specs.declared.command.Command.{Command}
use Rattle.rb_command.specs.declared.command.Command.TheVariants.{Demo}

-- NODES: 1 to 1,000
abbrev pub is_node_count : ℕ → Bool
is_node_count nodes = nat_le 1 nodes && nat_le nodes 1000

-- of so many nodes, where the word gives a number
abbrev pub demo_by : Option ℕ → Option Command
demo_by (Some nodes) = if is_node_count nodes then Some (Demo nodes) else None
demo_by None = None

-- NODES alone
abbrev pub demo_of : List (List ℕ) → Option Command
demo_of [] = None
demo_of (nodes ∷ []) = demo_by (decimal_of nodes)
demo_of (nodes ∷ more ∷ words) = None

-- a demo has 1 to 1,000 nodes
abbrev pub IsInRange : Option Command → Type 0
IsInRange (Some (Demo nodes)) = (1 ≤ nodes) × (nodes ≤ 1000)
IsInRange other = Unit {0}
