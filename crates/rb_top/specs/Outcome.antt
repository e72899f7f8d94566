-- What the top call of a drill does.
use Rattle.std.specs.Prelude.{◌≡◌, ℕ, Some, None, List, [], ◌∷◌, ◌++◌, map, take, codes, Option, Ok, Err, IsTrue}
use Rattle.rb_causes.specs.Outside.{Fetched}
use Rattle.rb_causes.specs.Sinks.{SinkState, Wrote, IsProperPrefixOf}
use Rattle.rb_causes.specs.Spawners.{ShownRuns, Ran}
use Rattle.rb_causes.specs.declared.ending.Ending.{Ending}
use Rattle.rb_causes.specs.declared.shelf.File.{File}
use Rattle.rb_causes.specs.declared.spawner.SpawnRun.{SpawnRun}
use Rattle.rb_causes.specs.declared.trouble.Trouble.{Trouble}
use Rattle.rb_causes.specs.declared.trouble.Trouble.TheVariants as trouble
use Rattle.rb_command.specs.Forms.{command_of}
use Rattle.rb_command.specs.Lines.{rule_line, usage_line, memory_line}
use Rattle.rb_command.specs.Told.{Tells, ToldNoForm, IsNotFetched}
use Rattle.rb_command.specs.declared.command.Command.{Command}
use Rattle.rb_command.specs.declared.command.Command.TheVariants.{Drill, CheckNodes, CheckJobs, CheckPolicy, Explain, Next, Demo}
use Rattle.rb_top.specs.Drill.{drill}
use Rattle.rb_top.specs.Played.{EndsBy}
use Rattle.rb_top.specs.Reading.{script_of}
use Rattle.rb_top.specs.declared.script.Script.{Script}
use Rattle.rb_top.specs.declared.script.ScriptFault.{ScriptFault}
use Rattle.rb_top.specs.declared.script.ScriptFault.TheVariants.{TooLarge, NotRead}

-- why the file of this name is refused
abbrev pub script_fault_line : List ℕ → ScriptFault → List ℕ
script_fault_line name TooLarge = rule_line name 1 (codes "TooLarge") None
script_fault_line name (NotRead n) = rule_line name n (codes "line not read") None

-- the endings that the programs had
abbrev pub endings_of : List SpawnRun → List Ending
endings_of gain = map (λ r. r.ending) gain

-- the programs that were run have the words of the drill's starts, for the endings that they had
abbrev pub RunsItsStarts : Script → List SpawnRun → Type 0
RunsItsStarts s gain =
    map (λ r. r.words) gain ≡ map (λ a. a.words) (drill s (endings_of gain)).started

-- a prefix, maybe the whole
abbrev pub IsPrefixOf : List ℕ → List ℕ → Type 0
IsPrefixOf prefix text = (n : ℕ) × (prefix ≡ take n text)

-- What was printed is a proper prefix of the drill's text for the endings that came, which ends
-- with the start line of the next program, where one is left: so a start line that stands whole
-- has its program started. And the text up to and with the start line of the last program is among
-- what was printed: so none was started whose start line, or a line before it, was cut.
pub record IsInOrder (s : Script) (gain : List SpawnRun) (printed : List ℕ) : Type 0 where
  pub text : IsProperPrefixOf printed (drill s (endings_of gain)).text
  pub ordered : (so_far : List SpawnRun) (last : SpawnRun) → gain ≡ so_far ++ last ∷ []
      → IsPrefixOf (drill s (endings_of so_far)).text printed

-- The whole text was written, and all its starts were made, for endings that do not run out.
pub record Completes (s : Script) (r r' : ShownRuns) (before after : SinkState) : Type 0 where
  pub gain : List SpawnRun
  pub ran : Ran gain r r'
  pub started : RunsItsStarts s gain
  pub enough : IsTrue (drill s (endings_of gain)).enough
  pub wrote : Wrote (drill s (endings_of gain)).text before after

-- A part of the text was written and a part of the starts was made, and then this trouble came.
pub record Stops (s : Script) (trouble : Trouble) (r r' : ShownRuns) (before after : SinkState)
    : Type 0 where
  pub gain : List SpawnRun
  pub printed : List ℕ
  pub ran : Ran gain r r'
  pub started : RunsItsStarts s gain
  pub order : IsInOrder s gain printed
  pub ended : EndsBy trouble printed before after

-- What the runs of a script did: they came to their end; or a write failed; or memory was
-- wanting, which was told behind what was written.
pub data DrillsScript (s : Script) (status : ℕ) (r r' : ShownRuns) (before after : SinkState)
    : Type 0 where
  whole : status ≡ 0 → Completes s r r' before after → DrillsScript s status r r' before after
  cut : status ≡ 9 → Stops s trouble.Failed r r' before after
      → DrillsScript s status r r' before after
  wanted : status ≡ 7 → {between : SinkState} → Stops s trouble.NoMemory r r' before between
      → Tells memory_line between after → DrillsScript s status r r' before after

-- the shelf has a file of this name that is read as this script
pub record ReadsScript (files : Option (List File)) (name : List ℕ) (s : Script) : Type 0 where
  pub bytes : List ℕ
  pub fetched : Fetched files name (Some bytes)
  pub read : script_of bytes ≡ Ok s

-- it has one that is refused with this fault
pub record RefusesScript (files : Option (List File)) (name : List ℕ)
    (fault : ScriptFault) : Type 0 where
  pub bytes : List ℕ
  pub fetched : Fetched files name (Some bytes)
  pub refused : script_of bytes ≡ Err fault

-- What a drill of the file of this name did. Memory was wanting before the file was read; or it
-- was not fetched; or it was fetched without a fault, and was refused: then nothing was started. Or
-- its runs were run.
pub data Drills (files : Option (List File)) (name : List ℕ) (faults faults' : ℕ) (status : ℕ)
    (r r' : ShownRuns) (before after : SinkState) : Type 0 where
  unread : status ≡ 7 → r' ≡ r → Tells memory_line before after
      → Drills files name faults faults' status r r' before after
  not_fetched : r' ≡ r → IsNotFetched files name faults faults' status before after
      → Drills files name faults faults' status r r' before after
  refused : (fault : ScriptFault) → RefusesScript files name fault → faults' ≡ faults → status ≡ 3
      → r' ≡ r
      → Tells (script_fault_line name fault) before after
      → Drills files name faults faults' status r r' before after
  drilled : (s : Script) → ReadsScript files name s → faults' ≡ faults
      → DrillsScript s status r r' before after
      → Drills files name faults faults' status r r' before after

-- the file of a drill
abbrev pub drilled_file : Option Command → Option (List ℕ)
drilled_file None = None
drilled_file (Some (Drill file)) = Some file
drilled_file (Some (CheckNodes file filter exclude_first)) = None
drilled_file (Some (CheckJobs file)) = None
drilled_file (Some (CheckPolicy file)) = None
drilled_file (Some (Explain file caller here resource action)) = None
drilled_file (Some (Next crontab zone earlier count)) = None
drilled_file (Some (Demo nodes)) = None

-- the file that the words name, where they are a drill
abbrev pub file_named : List (List ℕ) → Option (List ℕ)
file_named words = drilled_file (command_of words)

-- What a command did, by its form: none, a drill, or one that is no drill.
abbrev pub AnswersTo : Option (List File) → Option Command → (faults faults' : ℕ) → ℕ
    → ShownRuns → ShownRuns → SinkState → SinkState → Type 0
AnswersTo files None faults faults' status r r' before after =
    (status ≡ 2) × (r' ≡ r) × Tells usage_line before after
AnswersTo files (Some (Drill name)) faults faults' status r r' before after =
    Drills files name faults faults' status r r' before after
AnswersTo files (Some (CheckNodes file filter first)) faults faults' status r r' before after =
    (r' ≡ r) × ToldNoForm status before after
AnswersTo files (Some (CheckJobs file)) faults faults' status r r' before after =
    (r' ≡ r) × ToldNoForm status before after
AnswersTo files (Some (CheckPolicy file)) faults faults' status r r' before after =
    (r' ≡ r) × ToldNoForm status before after
AnswersTo files (Some (Explain file caller here resource action)) faults faults' status r r'
    before after =
    (r' ≡ r) × ToldNoForm status before after
AnswersTo files (Some (Next crontab zone earlier count)) faults faults' status r r' before after =
    (r' ≡ r) × ToldNoForm status before after
AnswersTo files (Some (Demo nodes)) faults faults' status r r' before after =
    (r' ≡ r) × ToldNoForm status before after

-- What these words did.
abbrev pub Answers : Option (List File) → List (List ℕ) → (faults faults' : ℕ) → ℕ
    → ShownRuns → ShownRuns → SinkState → SinkState → Type 0
Answers files words faults faults' status r r' before after =
    AnswersTo files (command_of words) faults faults' status r r' before after
