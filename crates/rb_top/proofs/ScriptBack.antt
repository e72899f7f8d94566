-- The lines of a script make it.
use Rattle.std.proofs.Common.{◌≡◌, ◌∙◌, ◌≤◌, ◌^◌, ℕ, ◌+◌, Bool, true, false, not, ◌&&◌, ◌||◌, bytes_eq, nat_lt, List, [], ◌∷◌, ◌++◌, length, map, Option, Some, is_some, Ok, refl, ap, sym, subst, append-nil, append_assoc, length-append, if◌then◌else◌, arith}
use Rattle.std.specs.List.{list_all, flat_map}
use Rattle.std.proofs.lemmas.Bool.{and_parts, and_from, lt-ltb, not-true}
use Rattle.std.proofs.lemmas.Str.{IsUtf8-from_ascii, is_utf8-from_IsUtf8}
use Rattle.std.proofs.lemmas.Str.Ascii.{IsAscii-nil}
use Rattle.rb_causes.specs.Texts.{differ, has_text, are_new}
use Rattle.rb_top.specs.Laid.{AreWritable, IsScript, ScriptIsReadBack, file_text, job_lines, script_lines}
use Rattle.rb_top.specs.Reading.{empty_script, has_steps, job_at, may_come, script_after, script_of, with_line, with_step}
use Rattle.rb_top.specs.declared.script.AccessLine.{AccessLine}
use Rattle.rb_top.specs.declared.script.DrillJob.{DrillJob}
use Rattle.rb_top.specs.declared.script.DrillRun.{DrillRun}
use Rattle.rb_top.specs.declared.script.Script.{Script}
use Rattle.rb_top.specs.declared.script.DrillLine.{DrillLine}
use Rattle.rb_top.specs.declared.script.DrillLine.TheVariants.{Node, Access, Job, Step, Run}
use Rattle.rb_top.proofs.ReadBack.{lines_are_read_back}
use Rattle.rb_top.proofs.Unlike.{new_is_differ}

-- ---- lines that may come one after another

abbrev made : Script → List DrillLine → Script
made s [] = s
made s (line ∷ lines) = made (with_line s line) lines

abbrev Come : Script → List DrillLine → Type 0
Come s [] = Unit {0}
Come s (line ∷ lines) = (may_come s line ≡ true) × Come (with_line s line) lines

after_lines : (s : Script) (n : ℕ) (lines : List DrillLine) → Come s lines
    → script_after s n (map Some lines) ≡ Ok (made s lines)
after_lines s n [] h = refl
after_lines s n (line ∷ lines) h = rw h.0 (after_lines (with_line s line) (n + 1) lines h.1)

made_behind : (s : Script) (xs ys : List DrillLine) → made s (xs ++ ys) ≡ made (made s xs) ys
made_behind s [] ys = refl
made_behind s (x ∷ xs) ys = made_behind (with_line s x) xs ys

come_behind : (s : Script) (xs ys : List DrillLine) → Come s xs → Come (made s xs) ys
    → Come s (xs ++ ys)
come_behind s [] ys h k = k
come_behind s (x ∷ xs) ys h k = (h.0, come_behind (with_line s x) xs ys h.1 k)

-- lines that may come and what they make
record Makes (s : Script) (lines : List DrillLine) (s' : Script) : Type 0 where
  pub come : Come s lines
  pub made : made s lines ≡ s'

makes_nothing : (s s' : Script) → s ≡ s' → Makes s [] s'
makes_nothing s s' same = record { come = tt; made = same }

makes_one : (s s' : Script) (line : DrillLine) (lines : List DrillLine) → may_come s line ≡ true
    → Makes (with_line s line) lines s' → Makes s (line ∷ lines) s'
makes_one s s' line lines h k = record { come = (h, k.come); made = k.made }

makes_behind : (s t u : Script) (xs ys : List DrillLine) → Makes s xs t → Makes t ys u
    → Makes s (xs ++ ys) u
makes_behind s t u xs ys h k = record {
  come = come_behind s xs ys h.come (subst (λ x. Come x ys) (sym h.made) k.come);
  made = made_behind s xs ys ∙ ap (λ x. made x ys) h.made ∙ k.made;
}

-- ---- nodes

nodes_make : (s : Script) (rest : List (List ℕ)) → are_new s.nodes rest ≡ true
    → Makes s (map Node rest) (record s { nodes = s.nodes ++ rest })
nodes_make s [] h = makes_nothing s _ (ap (λ ns. record s { nodes = ns }) (sym (append-nil s.nodes)))
nodes_make s (x ∷ xs) h =
    let parts = and_parts (not (has_text s.nodes x)) (are_new (s.nodes ++ x ∷ []) xs) h in
    makes_one s _ (Node x) (map Node xs) parts.0
    (subst (λ ns. Makes (with_line s (Node x)) (map Node xs) (record s { nodes = ns }))
    (append_assoc s.nodes (x ∷ []) xs) (nodes_make (with_line s (Node x)) xs parts.1))

-- ---- access lines

access_make : (s : Script) (rest : List AccessLine)
    → list_all (λ a. has_text s.nodes a.node) rest ≡ true
    → Makes s (map Access rest) (record s { access = s.access ++ rest })
access_make s [] h =
    makes_nothing s _ (ap (λ more. record s { access = more }) (sym (append-nil s.access)))
access_make s (a ∷ more) h =
    let parts = and_parts (has_text s.nodes a.node) _ h in
    makes_one s _ (Access a) (map Access more) parts.0
    (subst (λ all. Makes (with_line s (Access a)) (map Access more) (record s { access = all }))
    (append_assoc s.access (a ∷ []) more) (access_make (with_line s (Access a)) more parts.1))

-- ---- the steps of the last job

some_jobs : (js : List DrillJob) (j : DrillJob) → nat_lt 0 (length (js ++ j ∷ [])) ≡ true
some_jobs js j =
    lt-ltb 0 (length (js ++ j ∷ [])) (omega (arith, length-append js (j ∷ [])))

with_last : (js : List DrillJob) (j : DrillJob) (words : List (List ℕ))
    → with_step (js ++ j ∷ []) words ≡ js ++ record j { steps = j.steps ++ words ∷ [] } ∷ []
with_last [] j words = refl
with_last (i ∷ []) j words = refl
with_last (i ∷ k ∷ js) j words = ap (λ l. i ∷ l) (with_last (k ∷ js) j words)

steps_make : (s : Script) (js : List DrillJob) (j : DrillJob) (rest : List (List (List ℕ)))
    → s.jobs ≡ js ++ j ∷ []
    → Makes s (map Step rest) (record s { jobs = js ++ record j { steps = j.steps ++ rest } ∷ [] })
steps_make s js j [] is = makes_nothing s _
    (ap (λ l. record s { jobs = l }) (is
    ∙ ap (λ ss. js ++ record j { steps = ss } ∷ []) (sym (append-nil j.steps))))
steps_make s js j (words ∷ rest) is =
    makes_one s _ (Step words) (map Step rest)
    (ap (λ l. nat_lt 0 (length l)) is ∙ some_jobs js j)
    (subst (λ ss. Makes (with_line s (Step words)) (map Step rest)
    (record s { jobs = js ++ record j { steps = ss } ∷ [] }))
    (append_assoc j.steps (words ∷ []) rest)
    (steps_make (with_line s (Step words)) js (record j { steps = j.steps ++ words ∷ [] }) rest
    (ap (λ l. with_step l words) is ∙ with_last js j words)))

-- ---- jobs

none_by : (b : Bool) (j : DrillJob) (o : Option DrillJob) (t : Bool) → is_some o ≡ t
    → is_some (if b then Some j else o) ≡ (b || t)
none_by true j o t h = refl
none_by false j o t h = h

is_there : (js : List DrillJob) (id : List ℕ)
    → is_some (job_at js id) ≡ has_text (map (λ j. j.id) js) id
is_there [] id = refl
is_there (j ∷ js) id =
    none_by (bytes_eq j.id id) j (job_at js id) (has_text (map (λ k. k.id) js) id) (is_there js id)

job_makes : (s : Script) (j : DrillJob) → has_text (map (λ k. k.id) s.jobs) j.id ≡ false
    → (differ j.nodes && list_all (has_text s.nodes) j.nodes) ≡ true
    → Makes s (job_lines j) (record s { jobs = s.jobs ++ j ∷ [] })
job_makes s j new good =
    let apart = and_parts (differ j.nodes) (list_all (has_text s.nodes) j.nodes) good in
    makes_one s _ (Job j.id j.nodes) (map Step j.steps)
    (and_from (not (is_some (job_at s.jobs j.id)) && differ j.nodes) _
    (and_from (not (is_some (job_at s.jobs j.id))) _
    (ap not (is_there s.jobs j.id ∙ new)) apart.0) apart.1)
    (steps_make (with_line s (Job j.id j.nodes)) s.jobs
    (record { id = j.id; nodes = j.nodes; steps = [] }) j.steps refl)

jobs_make : (s : Script) (rest : List DrillJob)
    → are_new (map (λ j. j.id) s.jobs) (map (λ j. j.id) rest) ≡ true
    → list_all (λ j. differ j.nodes && list_all (has_text s.nodes) j.nodes) rest ≡ true
    → Makes s (flat_map job_lines rest) (record s { jobs = s.jobs ++ rest })
jobs_make s [] new good =
    makes_nothing s _ (ap (λ js. record s { jobs = js }) (sym (append-nil s.jobs)))
jobs_make s (j ∷ js) new good =
    let parts = and_parts (not (has_text (map (λ k. k.id) s.jobs) j.id)) _ new in
    let each = and_parts (differ j.nodes && list_all (has_text s.nodes) j.nodes) _ good in
    let t : Script = record s { jobs = s.jobs ++ j ∷ [] } in
    makes_behind s t _ (job_lines j) (flat_map job_lines js)
    (job_makes s j (not-true (has_text (map (λ k. k.id) s.jobs) j.id) parts.0) each.0)
    (subst (λ all. Makes t (flat_map job_lines js) (record s { jobs = all }))
    (append_assoc s.jobs (j ∷ []) js)
    (jobs_make t js
    (subst (λ ids. are_new ids (map (λ k. k.id) js) ≡ true) (sym (ids_behind s.jobs j)) parts.1)
    each.1))
  where
    ids_behind : (js : List DrillJob) (j : DrillJob)
        → map (λ k. k.id) (js ++ j ∷ []) ≡ map (λ k. k.id) js ++ j.id ∷ []
    ids_behind [] j = refl
    ids_behind (k ∷ ks) j = ap (λ ids. k.id ∷ ids) (ids_behind ks j)

-- ---- runs

runs_make : (s : Script) (rest : List DrillRun)
    → list_all (λ r. has_steps (job_at s.jobs r.job)) rest ≡ true
    → Makes s (map Run rest) (record s { runs = s.runs ++ rest })
runs_make s [] h = makes_nothing s _ (ap (λ rs. record s { runs = rs }) (sym (append-nil s.runs)))
runs_make s (r ∷ rs) h =
    let parts = and_parts (has_steps (job_at s.jobs r.job)) _ h in
    makes_one s _ (Run r) (map Run rs) parts.0
    (subst (λ all. Makes (with_line s (Run r)) (map Run rs) (record s { runs = all }))
    (append_assoc s.runs (r ∷ []) rs) (runs_make (with_line s (Run r)) rs parts.1))

-- ---- all lines

lines_make : (s : Script) → IsScript s → Makes empty_script (script_lines s) s
lines_make s h =
    let first : Script = record empty_script { nodes = s.nodes } in
    let second : Script = record first { access = s.access } in
    let third : Script = record second { jobs = s.jobs } in
    makes_behind empty_script first s (map Node s.nodes) _
    (nodes_make empty_script s.nodes (new_is_differ s.nodes ∙ h.nodes))
    (makes_behind first second s (map Access s.access) _ (access_make first s.access h.access)
    (makes_behind second third s (flat_map job_lines s.jobs) _
    (jobs_make second s.jobs (new_is_differ (map (λ j. j.id) s.jobs) ∙ h.ids) h.jobs)
    (runs_make third s.runs h.runs)))

-- an empty file has one blank line
nothing_back : script_of [] ≡ Ok empty_script
nothing_back = rw (is_utf8-from_IsUtf8 [] (IsUtf8-from_ascii [] IsAscii-nil)) refl

back_by : (s : Script) (lines : List DrillLine) → Makes empty_script lines s → AreWritable lines
    → length (file_text lines) ≤ 2 ^ 20 → script_of (file_text lines) ≡ Ok s
back_by s [] h written small = nothing_back ∙ ap Ok h.made
back_by s (line ∷ lines) h written small =
    lines_are_read_back line lines written small
    ∙ after_lines empty_script 1 (line ∷ lines) h.come ∙ ap Ok h.made

pub script_is_read_back : ScriptIsReadBack
script_is_read_back s h written small = back_by s (script_lines s) (lines_make s h) written small
