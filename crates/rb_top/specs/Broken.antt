-- Which rule a drill file breaks first.
use Rattle.std.specs.Prelude.{ℕ, ◌^◌, Bool, false, nat_eq, nat_lt, bytes_eq, codes, length, List, [], ◌∷◌, Option, Some, None, is_some, if◌then◌else◌}
use Rattle.std.specs.List.{list_any, slice_split}
use Rattle.std.specs.Str.{is_utf8}
use Rattle.rb_causes.specs.Signs.{carriage_return}
use Rattle.rb_causes.specs.Texts.{is_blank, is_line_feed, differ, is_empty}
use Rattle.rb_top.specs.Lines.{read_line}
use Rattle.rb_top.specs.Reading.{may_come, with_line, empty_script, job_at}
use Rattle.rb_top.specs.declared.broken.Broken.{Broken}
use Rattle.rb_top.specs.declared.broken.BrokenRule.{BrokenRule}
use Rattle.rb_top.specs.declared.broken.BrokenRule.TheVariants as rule
use Rattle.rb_top.specs.declared.script.DrillJob.{DrillJob}
use Rattle.rb_top.specs.declared.script.DrillLine.{DrillLine}
use Rattle.rb_top.specs.declared.script.DrillLine.TheVariants.{Skip, Node, Access, Job, Step, Run}
use Rattle.rb_top.specs.declared.script.Script.{Script}

-- the rule in words
abbrev pub broken_rule_text : BrokenRule → List ℕ
broken_rule_text rule.TooLarge = codes "a drill file has at most 1,048,576 bytes"
broken_rule_text rule.NotUtf8 = codes "a line is UTF-8"
broken_rule_text rule.Blanks =
    codes "exactly one space or tab parts two words, and none begins or ends a line"
broken_rule_text rule.UnknownWord =
    codes "a line begins with node, allow, deny, job, step, run or #"
broken_rule_text rule.WrongForm =
    codes "forms: node NAME, allow|deny USER NODE, job ID NODE,.., step WORD.., run USER ID"
broken_rule_text rule.NodeTwice = codes "a node is named once"
broken_rule_text rule.UnknownNode = codes "a node has its line above"
broken_rule_text rule.JobTwice = codes "a job is named once"
broken_rule_text rule.NodeTwiceInJob = codes "the nodes of a job differ"
broken_rule_text rule.StepWithoutJob = codes "a step has a job above it"
broken_rule_text rule.UnknownJob = codes "a run is of a job that has its line above"
broken_rule_text rule.JobWithoutStep = codes "a job that is run has a step above the run"

abbrev pub has_return : List ℕ → Bool
has_return line = list_any (λ b. nat_eq b carriage_return) line

-- a line's first word is one of the six, so its form is wrong; or it is none of them
abbrev pub word_rule : List ℕ → BrokenRule
word_rule word =
    if bytes_eq word (codes "node") then rule.WrongForm
    else if bytes_eq word (codes "allow") then rule.WrongForm
    else if bytes_eq word (codes "deny") then rule.WrongForm
    else if bytes_eq word (codes "job") then rule.WrongForm
    else if bytes_eq word (codes "step") then rule.WrongForm
    else if bytes_eq word (codes "run") then rule.WrongForm
    else rule.UnknownWord

abbrev pub first_word_rule : List (List ℕ) → BrokenRule
first_word_rule [] = rule.Blanks
first_word_rule (word ∷ words) = word_rule word

-- of a line's words, one is empty; or its first word tells
abbrev pub words_rule : List (List ℕ) → BrokenRule
words_rule words = if list_any is_empty words then rule.Blanks else first_word_rule words

-- the rule that a line breaks by itself
abbrev pub line_rule : List ℕ → BrokenRule
line_rule bytes =
    if is_utf8 bytes then words_rule (slice_split is_blank bytes) else rule.NotUtf8

-- a job that there is already, nodes that are named twice, or one that is not known
abbrev pub job_rule : Script → List ℕ → List (List ℕ) → BrokenRule
job_rule s id nodes =
    if is_some (job_at s.jobs id) then rule.JobTwice
    else if differ nodes then rule.UnknownNode
    else rule.NodeTwiceInJob

-- a job without a step, or none
abbrev pub found_rule : Option DrillJob → BrokenRule
found_rule (Some job) = rule.JobWithoutStep
found_rule None = rule.UnknownJob

abbrev pub run_rule : Script → List ℕ → BrokenRule
run_rule s id = found_rule (job_at s.jobs id)

-- the rule that a line breaks which may not stand behind what was read
abbrev pub place_rule : Script → DrillLine → BrokenRule
place_rule s Skip = rule.WrongForm
place_rule s (Node name) = rule.NodeTwice
place_rule s (Access a) = rule.UnknownNode
place_rule s (Job id nodes) = job_rule s id nodes
place_rule s (Step words) = rule.StepWithoutJob
place_rule s (Run r) = run_rule s r.job

abbrev pub broken : List ℕ → BrokenRule → Option Broken
broken line broken_rule = Some (record { rule = broken_rule; has_return = has_return line })

-- what was found of the line, or what the lines behind it give
abbrev pub broken_or : Script → List ℕ → Option DrillLine → (DrillLine → Option Broken)
    → Option Broken
broken_or s bytes None later = broken bytes (line_rule bytes)
broken_or s bytes (Some line) later =
    if may_come s line then later line else broken bytes (place_rule s line)

-- the rule that the first of these lines breaks which is not read behind what was read
abbrev pub broken_after : Script → List (List ℕ) → Option Broken
broken_after s [] = None
broken_after s (bytes ∷ lines) =
    broken_or s bytes (read_line bytes) (λ line. broken_after (with_line s line) lines)

-- the first broken rule of a file
abbrev pub broken_line : List ℕ → Option Broken
broken_line bytes =
    if nat_lt (2 ^ 20) (length bytes)
    then Some (record { rule = rule.TooLarge; has_return = false })
    else broken_after empty_script (slice_split is_line_feed bytes)
