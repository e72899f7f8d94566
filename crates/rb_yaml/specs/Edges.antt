-- What begins a part of a list of rows.
use Rattle.std.specs.Prelude.{ℕ, Bool, not, ◌&&◌, nat_eq, nat_le}
use Rattle.rb_yaml.specs.declared.edges.Edge.{Edge}
use Rattle.rb_yaml.specs.declared.edges.Edge.TheVariants.{BlockPart, Entry, Item, Marker}
use Rattle.rb_yaml.specs.Rows.{Row, is_content}
use Rattle.rb_yaml.specs.Signs.{begins_item}
use Rattle.rb_yaml.specs.Markers.{is_marker}

-- a row with content and an indent of at most that of a sequence begins an item
abbrev pub begins_part : ℕ → Row → Bool
begins_part indent row = is_content row && nat_le row.indent indent

-- an item at the indent of a map
abbrev pub is_item_at : ℕ → Row → Bool
is_item_at indent row = nat_eq row.indent indent && begins_item row.text

-- a row with content and an indent of at most that of a map begins an entry, but for an item there
abbrev pub begins_entry : ℕ → Row → Bool
begins_entry indent row = begins_part indent row && not (is_item_at indent row)

-- the same, as the code names it
abbrev pub edge_test : Edge → Row → Bool
edge_test (BlockPart indent) = begins_part indent
edge_test (Entry indent) = begins_entry indent
edge_test (Item indent) = is_item_at indent
edge_test Marker = is_marker
