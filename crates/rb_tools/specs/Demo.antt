-- What `demo` prints.
use Rattle.std.specs.Prelude.{◌≡◌, ℕ, List, [], ◌∷◌, ◌++◌, codes, decimal}
use Rattle.rb_causes.specs.Sinks.{SinkState}
use Rattle.rb_command.specs.Lines.{line_of, memory_line}
use Rattle.rb_command.specs.Told.{Tells}
use Rattle.rb_demo.specs.declared.counts.Counts.{Counts}
use Rattle.rb_demo.specs.Counting.{IsPlayed}
use Rattle.rb_tools.specs.Printing.{Prints}

-- a count behind its name
abbrev pub count_line : List ℕ → ℕ → List ℕ
count_line name count = line_of (name ∷ codes " " ∷ decimal count ∷ [])

-- a line for each count
abbrev pub counts_text : Counts → List ℕ
counts_text counts =
    count_line (codes "nodes") counts.nodes
    ++ (count_line (codes "allowed") counts.allowed
    ++ (count_line (codes "accepted") counts.accepted
    ++ (count_line (codes "denied") counts.denied
    ++ (count_line (codes "begins") counts.begins
    ++ count_line (codes "succeeded") counts.succeeded))))

-- What the demo of so many nodes did: memory was wanting, which was told; or it was played, and
-- what was counted of it was printed.
pub data PrintsDemo (nodes : ℕ) (status : ℕ) (before after : SinkState) : Type 0 where
  wanting : status ≡ 7 → Tells memory_line before after → PrintsDemo nodes status before after
  played : (counts : Counts) → IsPlayed nodes counts
      → Prints (counts_text counts) status before after → PrintsDemo nodes status before after
