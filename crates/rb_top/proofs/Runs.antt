-- Each run of a script that was read is of a job with a step.
use Rattle.std.proofs.Common.{◌≡◌, ℕ, ◌+◌, Bool, true, false, List, [], ◌∷◌, ◌++◌, length, All, Option, Some, None, bytes_eq, ltb, cond, refl, subst, arith, ◌^◌, Result, Ok, Err}
use Rattle.std.proofs.lemmas.Bool.Decides.{nat_tests}
use Rattle.std.proofs.lemmas.List.Elements.{All-push}
use Rattle.rb_top.specs.Reading.{job_at, has_steps, RunsHaveSteps, with_step, with_line, may_come, script_after, script_of, empty_script}
use Rattle.rb_top.specs.declared.script.DrillJob.{DrillJob}
use Rattle.rb_top.specs.declared.script.DrillLine.{DrillLine}
use Rattle.rb_top.specs.declared.script.DrillLine.TheVariants.{Skip, Node, Access, Job, Step, Run}
use Rattle.rb_top.specs.declared.script.DrillRun.{DrillRun}
use Rattle.rb_top.specs.Lines.{read_lines}
use Rattle.rb_top.specs.declared.script.Script.{Script}
use Rattle.rb_top.specs.declared.script.ScriptFault.{ScriptFault}
use Rattle.rb_top.specs.declared.script.ScriptFault.TheVariants.{TooLarge, NotRead}

-- where a job is the first of two lists or behind it in both
or_behind : (b : Bool) (x x' : Option DrillJob) (found found' : Option DrillJob) → (has_steps x ≡ true → has_steps x' ≡ true) → (has_steps found ≡ true → has_steps found' ≡ true)
    → has_steps (cond b x found) ≡ true → has_steps (cond b x' found') ≡ true
or_behind true x x' found found' first later h = first h
or_behind false x x' found found' first later h = later h

more_steps : (steps : List (List (List ℕ))) (words : List (List ℕ)) → ltb 0 (length (steps ++ words ∷ [])) ≡ true
more_steps [] words = refl
more_steps (x ∷ xs) words = grind (arith, nat_tests)

-- a job more behind the others
job_behind : (jobs : List DrillJob) (j : DrillJob) (id : List ℕ) → has_steps (job_at jobs id) ≡ true → has_steps (job_at (jobs ++ j ∷ []) id) ≡ true
job_behind [] j id h = cc
job_behind (x ∷ xs) j id h = or_behind (bytes_eq x.id id) (Some x) (Some x) (job_at xs id) (job_at (xs ++ j ∷ []) id) (λ e. e) (λ e. job_behind xs j id e) h

-- a step more at the last job
step_behind : (jobs : List DrillJob) (words : List (List ℕ)) (id : List ℕ) → has_steps (job_at jobs id) ≡ true → has_steps (job_at (with_step jobs words) id) ≡ true
step_behind [] words id h = h
step_behind (x ∷ []) words id h =
    or_behind (bytes_eq x.id id) (Some x) (Some (record x { steps = x.steps ++ words ∷ [] })) None None (λ e. more_steps x.steps words) (λ e. e) h
step_behind (x ∷ y ∷ ys) words id h =
    or_behind (bytes_eq x.id id) (Some x) (Some x) (job_at (y ∷ ys) id) (job_at (with_step (y ∷ ys) words) id) (λ e. e) (λ e. step_behind (y ∷ ys) words id e) h

and_kept : (s : Script) (jobs : List DrillJob) → ((id : List ℕ) → has_steps (job_at s.jobs id) ≡ true → has_steps (job_at jobs id) ≡ true) → RunsHaveSteps s
    → All (λ (r : DrillRun). has_steps (job_at jobs r.job) ≡ true) s.runs
and_kept s jobs kept old k d within = kept _ (old k d within)

line_keeps : (s : Script) (line : DrillLine) → may_come s line ≡ true → RunsHaveSteps s → RunsHaveSteps (with_line s line)
line_keeps s Skip may old = old
line_keeps s (Node name) may old = old
line_keeps s (Access a) may old = old
line_keeps s (Job id nodes) may old = and_kept s (s.jobs ++ record { id = id; nodes = nodes; steps = [] } ∷ []) (λ i. job_behind s.jobs _ i) old
line_keeps s (Step words) may old = and_kept s (with_step s.jobs words) (λ i. step_behind s.jobs words i) old
line_keeps s (Run r) may old = All-push (λ (r : DrillRun). has_steps (job_at s.jobs r.job) ≡ true) s.runs r old may

pub line_or_fault : {P : Type 0} (may : Bool) (after : Result Script ScriptFault) (n : ℕ) (s' : Script) → (may ≡ true → after ≡ Ok s' → P) → cond may after (Err (NotRead n)) ≡ Ok s' → P
line_or_fault true after n s' goes_on e = goes_on refl e
line_or_fault false after n s' goes_on e = cc

lines_keep : (lines : List (Option DrillLine)) (s s' : Script) (n : ℕ) → RunsHaveSteps s → script_after s n lines ≡ Ok s' → RunsHaveSteps s'
lines_keep [] s s' n old e = let same : s ≡ s' = cc in subst RunsHaveSteps same old
lines_keep (None ∷ lines) s s' n old e = cc
lines_keep (Some line ∷ lines) s s' n old e =
    line_or_fault (may_come s line) (script_after (with_line s line) (n + 1) lines) n s' (λ may rest. lines_keep lines (with_line s line) s' (n + 1) (line_keeps s line may old) rest) e

pub size_or_lines : {P : Type 0} (large : Bool) (after : Result Script ScriptFault) (s : Script) → (after ≡ Ok s → P) → cond large (Err TooLarge) after ≡ Ok s → P
size_or_lines true after s small e = cc
size_or_lines false after s small e = small e

pub runs_have_steps : (bytes : List ℕ) (s : Script) → script_of bytes ≡ Ok s → RunsHaveSteps s
runs_have_steps bytes s e =
    size_or_lines (ltb (2 ^ 20) (length bytes)) (script_after empty_script 1 (read_lines bytes)) s
    (λ rest. lines_keep (read_lines bytes) empty_script s 1 (λ k d within. absurd (omega arith)) rest) e
