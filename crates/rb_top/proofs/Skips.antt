-- Blank lines and comments change nothing.
use Rattle.std.proofs.Common.{◌≡◌, ℕ, ◌+◌, Bool, true, false, cond, List, [], ◌∷◌, Option, Some, None, Result, Ok, Err}
use Rattle.rb_top.specs.Laid.{SkipsChangeNothing, without_skips}
use Rattle.rb_top.specs.Reading.{empty_script, may_come, script_after, with_line}
use Rattle.rb_top.specs.declared.script.Script.{Script}
use Rattle.rb_top.specs.declared.script.ScriptFault.{ScriptFault}
use Rattle.rb_top.specs.declared.script.ScriptFault.TheVariants.{NotRead}
use Rattle.rb_top.specs.declared.script.DrillLine.{DrillLine}
use Rattle.rb_top.specs.declared.script.DrillLine.TheVariants.{Skip, Node, Access, Job, Step, Run}

-- a line that may stand, or not, whatever is behind it
line_by : (b : Bool) (n m : ℕ) (more less : Result Script ScriptFault) (s : Script)
    → (more ≡ Ok s → less ≡ Ok s) → cond b more (Err (NotRead n)) ≡ Ok s
    → cond b less (Err (NotRead m)) ≡ Ok s
line_by true n m more less s f h = f h
line_by false n m more less s f h = absurd (cc)

kept_line : (line : DrillLine) (xs ys : List (Option DrillLine)) (t s : Script) (n m : ℕ)
    → (script_after (with_line t line) (n + 1) xs ≡ Ok s
    → script_after (with_line t line) (m + 1) ys ≡ Ok s)
    → script_after t n (Some line ∷ xs) ≡ Ok s → script_after t m (Some line ∷ ys) ≡ Ok s
kept_line line xs ys t s n m f h =
    line_by (may_come t line) n m (script_after (with_line t line) (n + 1) xs)
    (script_after (with_line t line) (m + 1) ys) s f h

without : (lines : List (Option DrillLine)) (t s : Script) (n m : ℕ)
    → script_after t n lines ≡ Ok s → script_after t m (without_skips lines) ≡ Ok s
without [] t s n m h = h
without (None ∷ ls) t s n m h = absurd (cc)
without (Some Skip ∷ ls) t s n m h = without ls t s (n + 1) m h
without (Some (Node name) ∷ ls) t s n m h = kept_line (Node name) ls (without_skips ls) t s n m
    (without ls (with_line t (Node name)) s (n + 1) (m + 1)) h
without (Some (Access a) ∷ ls) t s n m h = kept_line (Access a) ls (without_skips ls) t s n m
    (without ls (with_line t (Access a)) s (n + 1) (m + 1)) h
without (Some (Job id nodes) ∷ ls) t s n m h = kept_line (Job id nodes) ls (without_skips ls) t s n m
    (without ls (with_line t (Job id nodes)) s (n + 1) (m + 1)) h
without (Some (Step words) ∷ ls) t s n m h = kept_line (Step words) ls (without_skips ls) t s n m
    (without ls (with_line t (Step words)) s (n + 1) (m + 1)) h
without (Some (Run r) ∷ ls) t s n m h = kept_line (Run r) ls (without_skips ls) t s n m
    (without ls (with_line t (Run r)) s (n + 1) (m + 1)) h

within : (lines : List (Option DrillLine)) (t s : Script) (n m : ℕ)
    → script_after t n (without_skips lines) ≡ Ok s → script_after t m lines ≡ Ok s
within [] t s n m h = h
within (None ∷ ls) t s n m h = absurd (cc)
within (Some Skip ∷ ls) t s n m h = within ls t s n (m + 1) h
within (Some (Node name) ∷ ls) t s n m h = kept_line (Node name) (without_skips ls) ls t s n m
    (within ls (with_line t (Node name)) s (n + 1) (m + 1)) h
within (Some (Access a) ∷ ls) t s n m h = kept_line (Access a) (without_skips ls) ls t s n m
    (within ls (with_line t (Access a)) s (n + 1) (m + 1)) h
within (Some (Job id nodes) ∷ ls) t s n m h = kept_line (Job id nodes) (without_skips ls) ls t s n m
    (within ls (with_line t (Job id nodes)) s (n + 1) (m + 1)) h
within (Some (Step words) ∷ ls) t s n m h = kept_line (Step words) (without_skips ls) ls t s n m
    (within ls (with_line t (Step words)) s (n + 1) (m + 1)) h
within (Some (Run r) ∷ ls) t s n m h = kept_line (Run r) (without_skips ls) ls t s n m
    (within ls (with_line t (Run r)) s (n + 1) (m + 1)) h

pub skips_change_nothing : SkipsChangeNothing
skips_change_nothing lines s =
    (without lines empty_script s 1 1, within lines empty_script s 1 1)
