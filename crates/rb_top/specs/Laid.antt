-- How the lines of a drill file are written, so that they are read back.
use Rattle.std.specs.Prelude.{◌≡◌, ◌≤◌, ◌^◌, ℕ, Bool, true, false, not, ◌&&◌, nat_lt, codes, List, [], ◌∷◌, ◌++◌, length, map, filter, Option, Some, None, Ok, if◌then◌else◌}
use Rattle.std.specs.Str.{is_utf8}
use Rattle.std.specs.List.{list_all, flat_map}
use Rattle.rb_causes.specs.Signs.{comma, line_feed}
use Rattle.rb_causes.specs.Texts.{joined, differ, has_text, is_blank, is_line_feed, is_empty}
use Rattle.rb_top.specs.Reading.{job_at, has_steps, script_after, empty_script, script_of}
use Rattle.rb_top.specs.Texts.{is_comma, spaced}
use Rattle.rb_top.specs.declared.script.DrillJob.{DrillJob}
use Rattle.rb_top.specs.declared.script.Script.{Script}
use Rattle.rb_top.specs.declared.script.DrillLine.{DrillLine}
use Rattle.rb_top.specs.declared.script.DrillLine.TheVariants.{Skip, Node, Access, Job, Step, Run}

abbrev pub access_word : Bool → List ℕ
access_word denies = if denies then codes "deny" else codes "allow"

-- the words of a line; a line that is passed over has none
abbrev pub line_words : DrillLine → List (List ℕ)
line_words Skip = []
line_words (Node name) = codes "node" ∷ name ∷ []
line_words (Access a) = access_word a.denies ∷ a.user ∷ a.node ∷ []
line_words (Job id nodes) = codes "job" ∷ id ∷ joined comma nodes ∷ []
line_words (Step words) = codes "step" ∷ words
line_words (Run r) = codes "run" ∷ r.user ∷ r.job ∷ []

-- the words with one space between them
abbrev pub line_text : DrillLine → List ℕ
line_text line = spaced (line_words line)

-- a word is not empty and has no blank
abbrev pub is_word : List ℕ → Bool
is_word word = not (is_empty word) && list_all (λ b. not (is_blank b)) word

-- so is a node's name in a job, and it has no comma
abbrev pub is_listed_name : List ℕ → Bool
is_listed_name name = not (is_empty name) && list_all (λ b. not (is_comma b)) name

-- a job has a node, and a step a word
abbrev pub is_whole : DrillLine → Bool
is_whole Skip = true
is_whole (Node name) = true
is_whole (Access a) = true
is_whole (Job id nodes) = nat_lt 0 (length nodes) && list_all is_listed_name nodes
is_whole (Step words) = nat_lt 0 (length words)
is_whole (Run r) = true

-- a line that can be written: its words are words, and its text is UTF-8 without a line feed
pub record IsWritable (line : DrillLine) : Type 0 where
  pub utf8 : is_utf8 (line_text line) ≡ true
  pub one_line : list_all (λ b. not (is_line_feed b)) (line_text line) ≡ true
  pub words : list_all is_word (line_words line) ≡ true
  pub whole : is_whole line ≡ true

abbrev pub AreWritable : List DrillLine → Type 0
AreWritable [] = Unit {0}
AreWritable (line ∷ lines) = IsWritable line × AreWritable lines

-- lines with a line feed between them
abbrev pub file_text : List DrillLine → List ℕ
file_text lines = joined line_feed (map line_text lines)

-- the line of a job and, below it, those of its steps
abbrev pub job_lines : DrillJob → List DrillLine
job_lines j = Job j.id j.nodes ∷ map Step j.steps

-- the lines of a script: nodes, then access lines, then jobs, then runs
abbrev pub script_lines : Script → List DrillLine
script_lines s =
    map Node s.nodes
    ++ (map Access s.access ++ (flat_map job_lines s.jobs ++ map Run s.runs))

-- What may be a script: nodes and ids of jobs differ, access lines and jobs name nodes, the nodes
-- of a job differ, and each job that is run has a step.
pub record IsScript (s : Script) : Type 0 where
  pub nodes : differ s.nodes ≡ true
  pub access : list_all (λ a. has_text s.nodes a.node) s.access ≡ true
  pub ids : differ (map (λ j. j.id) s.jobs) ≡ true
  pub jobs : list_all (λ j. differ j.nodes && list_all (has_text s.nodes) j.nodes) s.jobs ≡ true
  pub runs : list_all (λ r. has_steps (job_at s.jobs r.job)) s.runs ≡ true

-- Such a script, whose lines are written in this order in a file that is not too large, is read
-- back whole.
abbrev pub ScriptIsReadBack : Type 0
ScriptIsReadBack = (s : Script) → IsScript s → AreWritable (script_lines s)
    → length (file_text (script_lines s)) ≤ 2 ^ 20 → script_of (file_text (script_lines s)) ≡ Ok s

-- What is read is such a script.
abbrev pub ReadIsAScript : Type 0
ReadIsAScript = (bytes : List ℕ) (s : Script) → script_of bytes ≡ Ok s → IsScript s

-- a blank line or a comment
abbrev pub is_skip : Option DrillLine → Bool
is_skip (Some Skip) = true
is_skip (Some (Node name)) = false
is_skip (Some (Access a)) = false
is_skip (Some (Job id nodes)) = false
is_skip (Some (Step words)) = false
is_skip (Some (Run r)) = false
is_skip None = false

abbrev pub without_skips : List (Option DrillLine) → List (Option DrillLine)
without_skips lines = filter (λ line. not (is_skip line)) lines

-- Blank lines and comments change nothing, wherever they stand.
abbrev pub SkipsChangeNothing : Type 0
SkipsChangeNothing = (lines : List (Option DrillLine)) (s : Script)
    → (script_after empty_script 1 lines ≡ Ok s
    → script_after empty_script 1 (without_skips lines) ≡ Ok s)
    × (script_after empty_script 1 (without_skips lines) ≡ Ok s
    → script_after empty_script 1 lines ≡ Ok s)

-- A file of lines that are written so says these lines, if it is not too large.
abbrev pub LinesAreReadBack : Type 0
LinesAreReadBack =
    (line : DrillLine) (lines : List DrillLine) → AreWritable (line ∷ lines) →
    length (file_text (line ∷ lines)) ≤ 2 ^ 20 →
    script_of (file_text (line ∷ lines)) ≡ script_after empty_script 1 (map Some (line ∷ lines))
