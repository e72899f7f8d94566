-- What is said of whole lists of rows.
use Rattle.std.specs.Prelude.{◌≡◌, ◌<◌, ◌⊎◌, ℕ, true, false, List}
use Rattle.std.specs.List.{AllByRecursion as Each}
use Rattle.rb_yaml.specs.Rows.{Row, is_content}
use Rattle.rb_yaml.specs.Edges.{is_item_at}

-- no row has content: each is blank or a comment
abbrev pub Bare : List Row → Type 0
Bare rows = Each (λ row. is_content row ≡ false) rows

-- the row belongs to what begins at this column: it has no content, or it stands further in
abbrev pub IsWithin : ℕ → Row → Type 0
IsWithin column row = (is_content row ≡ false) ⊎ (column < row.indent)

-- the row belongs to a key at this column: it is within, or an item at that very column
abbrev pub IsBeneath : ℕ → Row → Type 0
IsBeneath column row = IsWithin column row ⊎ (is_item_at column row ≡ true)
