-- Passes before and after they were lent.
use Rattle.std.specs.Prelude.{◌≡◌, ℕ, ℤ, List, [], ◌∷◌, ◌++◌}
use Rattle.atomic_table.specs.Seated.{TableId}
use Rattle.rb_board.specs.Boards.{PassValue, told_of_pass}
use Rattle.rb_causes.specs.declared.row.Row.{Row}
use Rattle.rb_log.specs.Rows.{opened_row}

-- what stays of a pass by which documents are imported: its board, its number, for which workers it
-- may work and which doors it may close
pub record Standing : Type 0 where
  pub id : TableId
  pub number : ℕ
  pub workers : List ℕ
  pub doors : List ℕ

abbrev pub standing : PassValue → Standing
standing p = record {
  id = p.id;
  number = p.seen.number;
  workers = (told_of_pass p).rights.workers;
  doors = (told_of_pass p).rights.doors;
}

-- the last row is that of an opening of so many doors and workers
abbrev pub IsJustOpened : (doors workers : ℕ) → List Row → Type 0
IsJustOpened doors workers log =
    (held : List Row) × (at : ℤ) × (draw : ℕ)
    × (log ≡ held ++ opened_row at doors workers draw ∷ [])
