-- What it means that a drill file breaks a rule, one rule after another.
use Rattle.std.specs.Prelude.{◌≡◌, ◌<◌, ◌^◌, ◌⊎◌, ℕ, Bool, true, false, is_some, bytes_eq, codes, length, map, List, [], ◌∷◌, ◌++◌, Option, Some, None, Ok}
use Rattle.std.specs.List.{list_all, list_any, slice_split}
use Rattle.std.specs.Str.{is_utf8}
use Rattle.rb_causes.specs.Texts.{is_blank, is_line_feed, differ, has_text, is_empty}
use Rattle.rb_top.specs.Broken.{broken_line, has_return}
use Rattle.rb_top.specs.Lines.{read_line}
use Rattle.rb_top.specs.Reading.{script_after, empty_script, job_at}
use Rattle.rb_top.specs.declared.broken.Broken.{Broken}
use Rattle.rb_top.specs.declared.broken.BrokenRule.{BrokenRule}
use Rattle.rb_top.specs.declared.broken.BrokenRule.TheVariants as rule
use Rattle.rb_top.specs.declared.script.DrillJob.{DrillJob}
use Rattle.rb_top.specs.declared.script.DrillLine.{DrillLine}
use Rattle.rb_top.specs.declared.script.DrillLine.TheVariants.{Node, Access, Job, Step, Run}
use Rattle.rb_top.specs.declared.script.Script.{Script}

-- a word with which a line begins
abbrev pub is_line_word : List ℕ → Bool
is_line_word word =
    list_any (bytes_eq word) (codes "node" ∷ codes "allow" ∷ codes "deny" ∷ codes "job"
    ∷ codes "step" ∷ codes "run" ∷ [])

-- No word of the line is empty, and its first one is such a word or is none.
pub record BeginsWith (bytes : List ℕ) (known : Bool) : Type 0 where
  pub word : List ℕ
  pub words : List (List ℕ)
  pub parts : slice_split is_blank bytes ≡ word ∷ words
  pub filled : list_any is_empty (word ∷ words) ≡ false
  pub first : is_line_word word ≡ known

-- a line that is read as none breaks the rule
abbrev pub BreaksAlone : List ℕ → BrokenRule → Type 0
BreaksAlone bytes rule.NotUtf8 = is_utf8 bytes ≡ false
BreaksAlone bytes rule.Blanks = list_any is_empty (slice_split is_blank bytes) ≡ true
BreaksAlone bytes rule.UnknownWord = BeginsWith bytes false
BreaksAlone bytes rule.WrongForm = BeginsWith bytes true
BreaksAlone bytes other = ⊥

-- a line that is read breaks the rule behind what was read
abbrev pub BreaksBehind : Script → DrillLine → BrokenRule → Type 0
BreaksBehind s (Node name) rule.NodeTwice = has_text s.nodes name ≡ true
BreaksBehind s (Access a) rule.UnknownNode = has_text s.nodes a.node ≡ false
BreaksBehind s (Job id nodes) rule.JobTwice = is_some (job_at s.jobs id) ≡ true
BreaksBehind s (Job id nodes) rule.NodeTwiceInJob = differ nodes ≡ false
BreaksBehind s (Job id nodes) rule.UnknownNode = list_all (has_text s.nodes) nodes ≡ false
BreaksBehind s (Step words) rule.StepWithoutJob = length s.jobs ≡ 0
BreaksBehind s (Run r) rule.UnknownJob = job_at s.jobs r.job ≡ None
BreaksBehind s (Run r) rule.JobWithoutStep =
    (j : DrillJob) × (job_at s.jobs r.job ≡ Some j) × (length j.steps ≡ 0)
BreaksBehind s line other = ⊥

abbrev pub BreaksRead : Script → List ℕ → Option DrillLine → BrokenRule → Type 0
BreaksRead s bytes None broken_rule = BreaksAlone bytes broken_rule
BreaksRead s bytes (Some line) broken_rule = BreaksBehind s line broken_rule

-- Of these lines, numbered from n, one breaks the rule behind those above it, which are read.
pub record BreaksAt (s : Script) (n : ℕ) (lines : List (List ℕ)) (b : Broken) : Type 0 where
  pub above : List (List ℕ)
  pub line : List ℕ
  pub behind : List (List ℕ)
  pub there : lines ≡ above ++ line ∷ behind
  pub script : Script
  pub read : script_after s n (map read_line above) ≡ Ok script
  pub breaks : BreaksRead script line (read_line line) b.rule
  pub return : b.has_return ≡ has_return line

-- a file is too large, or one of its lines breaks the rule
abbrev pub IsBroken : List ℕ → Broken → Type 0
IsBroken bytes b =
    ((b.rule ≡ rule.TooLarge) × (2 ^ 20 < length bytes))
    ⊎ BreaksAt empty_script 1 (slice_split is_line_feed bytes) b

-- The rule that is told of a file is one that it breaks.
abbrev pub RulesAreBroken : Type 0
RulesAreBroken = (bytes : List ℕ) (b : Broken) → broken_line bytes ≡ Some b → IsBroken bytes b
