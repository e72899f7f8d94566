-- How a text is printed, and what was read of a file is given.
use Rattle.std.specs.Prelude.{◌≡◌, ℕ, List, [], Option, Some, Result, Ok, Err}
use Rattle.rb_causes.specs.Outside.{Fetched}
use Rattle.rb_causes.specs.Sinks.{SinkState, Wrote, Cut}
use Rattle.rb_causes.specs.declared.shelf.File.{File}
use Rattle.rb_causes.specs.declared.trouble.Trouble.TheVariants as trouble
use Rattle.rb_command.specs.Lines.{memory_line}
use Rattle.rb_command.specs.Told.{Tells, IsNotFetched}
use Rattle.rb_tools.specs.Kinds.{refusal_line, refusal_status}
use Rattle.rb_tools.specs.declared.refusal.ToolRefusal.{ToolRefusal}

-- What the print of a text did: all of it was written; or a write failed behind a proper prefix of
-- it; or the sink wanted memory behind one, which was told.
pub data Prints (text : List ℕ) (status : ℕ) (before after : SinkState) : Type 0 where
  whole : status ≡ 0 → Wrote text before after → Prints text status before after
  cut : status ≡ 9 → Cut trouble.Failed text before after → Prints text status before after
  wanted : status ≡ 7 → {between : SinkState} → Cut trouble.NoMemory text before between
      → Tells memory_line between after → Prints text status before after

-- What was read is given: its text is printed, or the refusal is told with its status.
abbrev pub GivesText : List ℕ → Result (List ℕ) ToolRefusal → ℕ → SinkState → SinkState → Type 0
GivesText file (Ok text) status before after = Prints text status before after
GivesText file (Err refusal) status before after =
    (status ≡ refusal_status refusal) × Tells (refusal_line file refusal) before after

-- What a tool did that reads no file: what it read of its words was given.
abbrev pub Answered : (Result (List ℕ) ToolRefusal → Type 0) → ℕ → SinkState → SinkState → Type 0
Answered Reads status before after =
    (reading : Result (List ℕ) ToolRefusal) × Reads reading
    × GivesText [] reading status before after

-- What a tool did that reads a file so. Memory was wanting before the file was asked for; or the
-- file was not fetched; or it was fetched without a fault, and what was read of its bytes was
-- given.
pub data Checks (Reads : List ℕ → Result (List ℕ) ToolRefusal → Type 0) (files : Option (List File))
    (file : List ℕ) (faults faults' : ℕ) (status : ℕ) (before after : SinkState) : Type 0 where
  unread : status ≡ 7 → Tells memory_line before after
      → Checks Reads files file faults faults' status before after
  not_fetched : IsNotFetched files file faults faults' status before after
      → Checks Reads files file faults faults' status before after
  read : (bytes : List ℕ) (reading : Result (List ℕ) ToolRefusal) → Fetched files file (Some bytes)
      → faults' ≡ faults → Reads bytes reading → GivesText file reading status before after
      → Checks Reads files file faults faults' status before after
