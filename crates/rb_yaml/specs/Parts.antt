-- A list of rows, cut before each row that passes a test.
use Rattle.std.specs.Prelude.{Bool, List, [], ◌∷◌, ◌++◌, if◌then◌else◌}
use Rattle.rb_yaml.specs.Rows.{Row}

-- the rows before the first that passes, and the rows from it on
abbrev pub until : (Row → Bool) → List Row → List Row
until test [] = []
until test (row ∷ rows) = if test row then [] else row ∷ until test rows

abbrev pub onward : (Row → Bool) → List Row → List Row
onward test [] = []
onward test (row ∷ rows) = if test row then row ∷ rows else onward test rows

-- The parts of a list of rows: each row that begins one, with the rows up to the next. The first
-- is begun by head, and has the rows so far.
abbrev pub parts : (Row → Bool) → Row → List Row → List Row → List (Row × List Row)
parts begins_one head so_far [] = (head, so_far) ∷ []
parts begins_one head so_far (row ∷ rows) =
    if begins_one row then (head, so_far) ∷ parts begins_one row [] rows
    else parts begins_one head (so_far ++ row ∷ []) rows
