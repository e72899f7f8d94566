-- An execution stays at its place as the log grows.
use Rattle.std.proofs.Common.{◌≡◌, ℕ, List, [], ◌∷◌, ◌++◌, Some, slice_get}
use Rattle.rb_causes.specs.declared.row.Row.{Row}
use Rattle.rb_marks.specs.declared.mark.Mark.{Mark}
use Rattle.rb_log.specs.Executions.{Execution, WithdrawnNode, executions}
use Rattle.rb_log.specs.Laws.{ExecutionsStay}

-- it stays at its place, with other marks and nodes that are withdrawn
pub stays_on : ExecutionsStay → (newer past : List Row) (k : ℕ) (e : Execution)
    → slice_get (executions past) k ≡ Some e
    → (marks : List Mark) × (withdrawn : List WithdrawnNode)
    × (slice_get (executions (newer ++ past)) k
    ≡ Some (record e { withdrawn = withdrawn; marks = marks }))
stays_on stay [] past k e h = (e.marks, e.withdrawn, h)
stays_on stay (row ∷ newer) past k e h =
    let g = stays_on stay newer past k e h in
    let f = stay row (newer ++ past) k (record e { withdrawn = g.1; marks = g.0 }) g.2 in
    (g.0 ++ f.0, g.1 ++ f.1, f.2)
