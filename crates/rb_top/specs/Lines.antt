-- The lines of a drill file, each read by itself.
use Rattle.std.specs.Prelude.{ℕ, Bool, true, false, not, ◌||◌, nat_eq, Option, Some, None, List, [], ◌∷◌, map, if◌then◌else◌, bytes_eq, codes}
use Rattle.rb_causes.specs.Signs.{hash}
use Rattle.rb_causes.specs.Texts.{is_blank, is_line_feed, is_empty}
use Rattle.std.specs.Str.{is_utf8}
use Rattle.std.specs.List.{list_any, list_all, slice_split}
use Rattle.rb_top.specs.Texts.{is_comma}
use Rattle.rb_top.specs.declared.script.DrillLine.{DrillLine}
use Rattle.rb_top.specs.declared.script.DrillLine.TheVariants.{Skip, Node, Access, Job, Step, Run}

-- a line of one name
abbrev pub one_name : List (List ℕ) → Option DrillLine
one_name (a ∷ []) = Some (Node a)
one_name [] = None
one_name (a ∷ b ∷ cs) = None

-- a line of two names, made into a line or none
abbrev pub two_names : (List ℕ → List ℕ → Option DrillLine) → List (List ℕ) → Option DrillLine
two_names make (a ∷ b ∷ []) = make a b
two_names make [] = None
two_names make (a ∷ []) = None
two_names make (a ∷ b ∷ c ∷ ds) = None

-- a job's nodes stand between commas, and none of them is empty
abbrev pub as_job : List ℕ → List (List ℕ) → Option DrillLine
as_job id nodes = if list_any is_empty nodes then None else Some (Job id nodes)

abbrev pub as_step : List (List ℕ) → Option DrillLine
as_step [] = None
as_step (w ∷ ws) = Some (Step (w ∷ ws))

abbrev pub as_access : Bool → List ℕ → List ℕ → Option DrillLine
as_access denies user node = Some (Access (record { denies = denies; user = user; node = node }))

abbrev pub as_run : List ℕ → List ℕ → Option DrillLine
as_run user job = Some (Run (record { user = user; job = job }))

-- a line by its first word
abbrev pub by_word : List ℕ → List (List ℕ) → Option DrillLine
by_word word rest =
    if bytes_eq word (codes "node") then one_name rest
    else if bytes_eq word (codes "allow") then two_names (as_access false) rest
    else if bytes_eq word (codes "deny") then two_names (as_access true) rest
    else if bytes_eq word (codes "job")
    then two_names (λ id nodes. as_job id (slice_split is_comma nodes)) rest
    else if bytes_eq word (codes "step") then as_step rest
    else if bytes_eq word (codes "run") then two_names as_run rest
    else None

-- a line of words, none of which is empty: exactly one blank parts two of them
abbrev pub line_of_words : List (List ℕ) → Option DrillLine
line_of_words [] = None
line_of_words (w ∷ ws) = if list_any is_empty (w ∷ ws) then None else by_word w ws

abbrev pub is_comment : List ℕ → Bool
is_comment [] = false
is_comment (b ∷ bs) = nat_eq b hash

-- What is no UTF-8 is no line, before anything else. A line of blanks, or of nothing, is passed
-- over, as is one that begins with #.
abbrev pub read_line : List ℕ → Option DrillLine
read_line bytes =
    if not (is_utf8 bytes) then None
    else if list_all is_blank bytes || is_comment bytes then Some Skip
    else line_of_words (slice_split is_blank bytes)

-- The lines, each read by itself: a line feed ends each, and what stands behind the last one is a
-- line too, if only of nothing.
abbrev pub read_lines : List ℕ → List (Option DrillLine)
read_lines bytes = map read_line (slice_split is_line_feed bytes)
