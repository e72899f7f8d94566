-- What a sink took of a line, and how a call that tells one line answers.
use Rattle.std.specs.Prelude.{◌≡◌, ◌⊎◌, ℕ, List, Option, None}
use Rattle.rb_causes.specs.Causes.{Rose}
use Rattle.rb_causes.specs.Outside.{Fetched}
use Rattle.rb_causes.specs.Sinks.{SinkState, Wrote, Cut}
use Rattle.rb_causes.specs.declared.shelf.File.{File}
use Rattle.rb_causes.specs.declared.trouble.Trouble.{Trouble}
use Rattle.rb_command.specs.Lines.{usage_line, memory_line, shelf_line, absent_line}

-- The sink took the line; or a proper prefix of it, behind which it failed or wanted memory.
pub record Tells (line : List ℕ) (before after : SinkState) : Type 0 where
  pub told : Wrote line before after ⊎ ((trouble : Trouble) × Cut trouble line before after)

-- Words of another form are refused as no form; or memory was wanting before they were looked at.
abbrev pub ToldNoForm : ℕ → SinkState → SinkState → Type 0
ToldNoForm status before after =
    ((status ≡ 2) × Tells usage_line before after)
    ⊎ ((status ≡ 7) × Tells memory_line before after)

-- Why a file was not fetched, told by its line: it is not there, the shelf failed and counted that,
-- or memory was wanting.
abbrev pub IsNotFetched : Option (List File) → List ℕ → (faults faults' : ℕ) → ℕ
    → SinkState → SinkState → Type 0
IsNotFetched files name faults faults' status before after =
    ((status ≡ 3) × Fetched files name None × Tells (absent_line name) before after)
    ⊎ ((status ≡ 4) × Rose faults faults' × Tells shelf_line before after)
    ⊎ ((status ≡ 7) × Tells memory_line before after)
