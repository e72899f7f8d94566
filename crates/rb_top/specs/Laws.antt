-- What the answers of a drill mean for those who rest their access on it.
use Rattle.std.specs.Prelude.{◌≡◌, ◌⊎◌, ◌≤◌, ◌<◌, ◌+◌, ◌*◌, ◌^◌, ℕ, not, Some, is_some, List, [], length, take, Option, All, Ok, Err, is_ok, IsOk, IsErr}
use Rattle.rb_causes.specs.Outside.{bytes_at}
use Rattle.rb_causes.specs.declared.ending.Ending.{Ending}
use Rattle.rb_causes.specs.declared.shelf.File.{File}
use Rattle.rb_causes.specs.Sinks.{SinkState}
use Rattle.rb_causes.specs.Spawners.{ShownRuns}
use Rattle.rb_marks.specs.declared.mark.Mark.{Mark}
use Rattle.rb_top.specs.Drill.{drill, executed, IsAllowedStart}
use Rattle.rb_top.specs.Outcome.{Completes, file_named}
use Rattle.rb_top.specs.Play.{Play, transcript}
use Rattle.rb_top.specs.Broken.{broken_line}
use Rattle.rb_top.specs.Lines.{read_lines}
use Rattle.rb_top.specs.Reading.{script_of, script_after, empty_script}
use Rattle.rb_top.specs.declared.script.DrillJob.{DrillJob}
use Rattle.rb_top.specs.declared.script.DrillLine.{DrillLine}
use Rattle.rb_top.specs.declared.script.Script.{Script}
use Rattle.rb_top.specs.declared.script.ScriptFault.TheVariants.{NotRead}

-- Whatever the programs do, each start is one that the access lines allow.
abbrev pub StartsAreAllowed : Type 0
StartsAreAllowed =
    (s : Script) (endings : List Ending) → All (IsAllowedStart s) (drill s endings).started

-- Where nothing outside fails: a file that is there and is read is drilled to its end, or memory is
-- wanting.
abbrev pub CompletesOrWants : Option (List File) → List (List ℕ) → ℕ → ShownRuns → ShownRuns
    → SinkState → SinkState → Type 0
CompletesOrWants files words status r r' before after =
    (held : List File) (name bytes : List ℕ) (s : Script)
    → files ≡ Some held → file_named words ≡ Some name
    → bytes_at held name ≡ Some bytes → script_of bytes ≡ Ok s
    → ((status ≡ 0) × Completes s r r' before after) ⊎ (status ≡ 7)

-- A run goes on until nothing is startable: as many starts as there are leaves suffice, and more
-- of them change nothing.
abbrev pub StartsSuffice : Type 0
StartsSuffice = (most : ℕ) (user : List ℕ) (nodes : List (List ℕ)) (job : DrillJob)
    (next : List Mark → Play) (endings : List Ending) →
    let leaves = length nodes * length job.steps in
    leaves ≤ most → transcript (executed most user nodes job [] next) endings
    ≡ transcript (executed leaves user nodes job [] next) endings

-- Of these lines the one with number n, from 1, is the first that is not read: those above it are
-- read, and with it they are not.
pub record IsFirstUnread (lines : List (Option DrillLine)) (n : ℕ) : Type 0 where
  pub above : ℕ
  pub number : n ≡ above + 1
  pub there : above < length lines
  pub read : IsOk (script_after empty_script 1 (take above lines))
  pub unread : IsErr (script_after empty_script 1 (take (above + 1) lines))

-- A file that is not too large is refused at line n exactly where that line is the first which is
-- not read.
abbrev pub FirstUnreadIsTold : Type 0
FirstUnreadIsTold = (bytes : List ℕ) (n : ℕ) → length bytes ≤ 2 ^ 20
    → (script_of bytes ≡ Err (NotRead n) → IsFirstUnread (read_lines bytes) n)
    × (IsFirstUnread (read_lines bytes) n → script_of bytes ≡ Err (NotRead n))

-- A drill file breaks a rule exactly where it is not read.
abbrev pub BrokenIsUnread : Type 0
BrokenIsUnread = (bytes : List ℕ)
    → is_some (broken_line bytes) ≡ not (is_ok (script_of bytes))
