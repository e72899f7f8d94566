-- The numbers of the demo's nodes, and what the generator gives to each.
use Rattle.std.specs.Prelude.{ℕ, zero, suc, ◌/◌, ◌%◌, Bool, nat_eq, List, ◌++◌, codes, decimal, if◌then◌else◌}
use Rattle.rb_orch.specs.Drawing.{next_draw}

-- what the generator gives at the node of a number: it starts at 1, and each node takes the next
abbrev pub draw_at : ℕ → ℕ
draw_at zero = 1
draw_at (suc number) = next_draw (draw_at number)

-- whether the whole part of a draw / 65536 is even
abbrev pub is_even : ℕ → Bool
is_even draw = nat_eq (draw / 65536 % 2) 0

abbrev pub tag_by : Bool → List ℕ
tag_by even = if even then codes "even" else codes "odd"

-- the one tag of the node of a number
abbrev pub node_tag : ℕ → List ℕ
node_tag number = tag_by (is_even (draw_at number))

-- its name: n and the number
abbrev pub demo_node_name : ℕ → List ℕ
demo_node_name number = codes "n" ++ decimal number
