-- What 32 bits number in a script that was read: a file has at most 1,048,576 bytes.
use Rattle.std.proofs.Common.{◌≡◌, ◌≤◌, ◌<◌, ℕ, ◌+◌, ◌^◌, suc, Bool, true, false, cond, nat_lt, bytes_eq, not, ◌||◌, List, [], ◌∷◌, ◌++◌, length, map, Option, Some, None, Result, Ok, Err, refl, ap, subst, arith, length-append, inl, inr}
use Rattle.std.specs.Prelude.{codes}
use Rattle.std.specs.Str.{is_utf8}
use Rattle.std.specs.List.{list_all, list_any, slice_split, onto_first, filter}
use Rattle.std.proofs.lemmas.Bool.{cases_Bool, ltb-true, ltb-false, lt-ltb, and_parts}
use Rattle.std.proofs.lemmas.List.{length-map}
use Rattle.std.proofs.lemmas.List.Splits.{length-slice_split}
use Rattle.std.proofs.lemmas.List.Sums.{count_by-le-length}
use Rattle.rb_causes.specs.Texts.{is_blank, is_line_feed, is_empty}
use Rattle.rb_top.specs.Lines.{one_name, two_names, as_job, as_step, as_access, as_run, by_word, line_of_words, is_comment, read_line, read_lines}
use Rattle.rb_top.specs.Texts.{is_comma}
use Rattle.rb_acl.specs.Deciding.{is_allowed}
use Rattle.rb_top.specs.Access.{allowed_of}
use Rattle.rb_top.specs.Table.{told, told_on}
use Rattle.rb_top.specs.declared.access.NodeDecision.{NodeDecision}
use Rattle.rb_top.specs.declared.access_table.AccessTable.{AccessTable}
use Rattle.rb_top.specs.Reading.{job_at, with_step, with_line, may_come, script_after, script_of, empty_script, is_numbered_job, IsNumbered}
use Rattle.rb_top.specs.declared.script.DrillJob.{DrillJob}
use Rattle.rb_top.specs.declared.script.DrillLine.{DrillLine}
use Rattle.rb_top.specs.declared.script.DrillLine.TheVariants.{Skip, Node, Access, Job, Step, Run}
use Rattle.rb_top.specs.declared.script.Script.{Script}
use Rattle.rb_top.specs.declared.script.ScriptFault.{ScriptFault}
use Rattle.rb_top.specs.declared.script.ScriptFault.TheVariants.{TooLarge, NotRead}

-- ---- parts are no longer than the whole

abbrev AreShort : ℕ → List (List ℕ) → Type 0
AreShort n [] = Unit {0}
AreShort n (part ∷ parts) = (length part ≤ n) × AreShort n parts

short_more : (n m : ℕ) (parts : List (List ℕ)) → n ≤ m → AreShort n parts → AreShort m parts
short_more n m [] le h = tt
short_more n m (p ∷ ps) le h = (omega (arith, le, h.0), short_more n m ps le h.1)

onto_short : (n x : ℕ) (parts : List (List ℕ)) → AreShort n parts → AreShort (suc n) (onto_first x parts)
onto_short n x [] h = (omega arith, tt)
onto_short n x (p ∷ ps) h = (omega (arith, h.0), short_more n (suc n) ps (omega arith) h.1)

parts_short : (test : ℕ → Bool) (xs : List ℕ) → AreShort (length xs) (slice_split test xs)
parts_short test [] = (omega arith, tt)
parts_short test (x ∷ xs) =
    elim (cases_Bool (test x)) [
      | inl s ↦ rw s (omega arith, short_more (length xs) (suc (length xs)) (slice_split test xs) (omega arith) (parts_short test xs))
      | inr d ↦ rw d (onto_short (length xs) x (slice_split test xs) (parts_short test xs))
    ]

parts_few : (test : ℕ → Bool) (xs : List ℕ) → length (slice_split test xs) ≤ length xs + 1
parts_few test xs = omega (arith, length-slice_split test xs, count_by-le-length test xs)

-- ---- a line names no more nodes than it has bytes, and one

abbrev nodes_in : Option DrillLine → ℕ
nodes_in None = 0
nodes_in (Some Skip) = 0
nodes_in (Some (Node name)) = 0
nodes_in (Some (Access a)) = 0
nodes_in (Some (Job id nodes)) = length nodes
nodes_in (Some (Step words)) = 0
nodes_in (Some (Run r)) = 0

of_both : (b : Bool) (x y : Option DrillLine) (k : ℕ) → nodes_in x ≤ k → nodes_in y ≤ k → nodes_in (cond b x y) ≤ k
of_both true x y k hx hy = hx
of_both false x y k hx hy = hy

one_name_none : (words : List (List ℕ)) (k : ℕ) → nodes_in (one_name words) ≤ k
one_name_none [] k = omega arith
one_name_none (a ∷ []) k = omega arith
one_name_none (a ∷ b ∷ cs) k = omega arith

access_none : (denies : Bool) (words : List (List ℕ)) (k : ℕ) → nodes_in (two_names (as_access denies) words) ≤ k
access_none denies [] k = omega arith
access_none denies (a ∷ []) k = omega arith
access_none denies (a ∷ b ∷ []) k = omega arith
access_none denies (a ∷ b ∷ c ∷ ds) k = omega arith

run_none : (words : List (List ℕ)) (k : ℕ) → nodes_in (two_names as_run words) ≤ k
run_none [] k = omega arith
run_none (a ∷ []) k = omega arith
run_none (a ∷ b ∷ []) k = omega arith
run_none (a ∷ b ∷ c ∷ ds) k = omega arith

step_none : (words : List (List ℕ)) (k : ℕ) → nodes_in (as_step words) ≤ k
step_none [] k = omega arith
step_none (w ∷ ws) k = omega arith

job_few : (words : List (List ℕ)) (n : ℕ) → AreShort n words → nodes_in (two_names (λ id nodes. as_job id (slice_split is_comma nodes)) words) ≤ n + 1
job_few [] n h = omega arith
job_few (a ∷ []) n h = omega arith
job_few (a ∷ b ∷ []) n h =
    of_both (list_any is_empty (slice_split is_comma b)) None (Some (Job a (slice_split is_comma b))) (n + 1) (omega arith)
    (omega (arith, parts_few is_comma b, h.1.0))
job_few (a ∷ b ∷ c ∷ ds) n h = omega arith

by_word_few : (word : List ℕ) (rest : List (List ℕ)) (n : ℕ) → AreShort n rest → nodes_in (by_word word rest) ≤ n + 1
by_word_few word rest n h =
    of_both (bytes_eq word (codes "node")) _ _ (n + 1) (one_name_none rest (n + 1))
    (of_both (bytes_eq word (codes "allow")) _ _ (n + 1) (access_none false rest (n + 1))
    (of_both (bytes_eq word (codes "deny")) _ _ (n + 1) (access_none true rest (n + 1))
    (of_both (bytes_eq word (codes "job")) _ _ (n + 1) (job_few rest n h)
    (of_both (bytes_eq word (codes "step")) _ _ (n + 1) (step_none rest (n + 1))
    (of_both (bytes_eq word (codes "run")) _ _ (n + 1) (run_none rest (n + 1)) (omega arith))))))

words_few : (words : List (List ℕ)) (n : ℕ) → AreShort n words → nodes_in (line_of_words words) ≤ n + 1
words_few [] n h = omega arith
words_few (w ∷ ws) n h = of_both (list_any is_empty (w ∷ ws)) None (by_word w ws) (n + 1) (omega arith) (by_word_few w ws n h.1)

line_few : (bytes : List ℕ) → nodes_in (read_line bytes) ≤ length bytes + 1
line_few bytes =
    of_both (not (is_utf8 bytes)) None _ (length bytes + 1) (omega arith)
    (of_both (list_all is_blank bytes || is_comment bytes) (Some Skip) (line_of_words (slice_split is_blank bytes)) (length bytes + 1) (omega arith)
    (words_few (slice_split is_blank bytes) (length bytes) (parts_short is_blank bytes)))

abbrev AreFew : ℕ → List (Option DrillLine) → Type 0
AreFew k [] = Unit {0}
AreFew k (line ∷ lines) = (nodes_in line ≤ k) × AreFew k lines

lines_few : (n : ℕ) (parts : List (List ℕ)) → AreShort n parts → AreFew (n + 1) (map read_line parts)
lines_few n [] h = tt
lines_few n (p ∷ ps) h = (omega (arith, line_few p, h.0), lines_few n ps h.1)

-- ---- each line adds one item at most

abbrev JobsFit : ℕ → ℕ → List DrillJob → Type 0
JobsFit m k [] = Unit {0}
JobsFit m k (j ∷ js) = (length j.nodes ≤ k) × (length j.steps ≤ m) × JobsFit m k js

record Fits (m k : ℕ) (s : Script) : Type 0 where
  access : length s.access ≤ m
  jobs : JobsFit m k s.jobs

jobs_more : (m k : ℕ) (jobs : List DrillJob) → JobsFit m k jobs → JobsFit (m + 1) k jobs
jobs_more m k [] h = tt
jobs_more m k (j ∷ js) h = (h.0, omega (arith, h.1), jobs_more m k js h.2)

job_added : (m k : ℕ) (jobs : List DrillJob) (id : List ℕ) (nodes : List (List ℕ)) → length nodes ≤ k → JobsFit m k jobs →
    JobsFit (m + 1) k (jobs ++ record { id = id; nodes = nodes; steps = [] } ∷ [])
job_added m k [] id nodes few h = (few, omega arith, tt)
job_added m k (j ∷ js) id nodes few h = (h.0, omega (arith, h.1), job_added m k js id nodes few h.2)

step_added : (m k : ℕ) (jobs : List DrillJob) (words : List (List ℕ)) → JobsFit m k jobs → JobsFit (m + 1) k (with_step jobs words)
step_added m k [] words h = tt
step_added m k (j ∷ []) words h = (h.0, omega (arith, h.1, length-append j.steps (words ∷ [])), tt)
step_added m k (j ∷ i ∷ js) words h = (h.0, omega (arith, h.1), step_added m k (i ∷ js) words h.2)

line_fits : (m k : ℕ) (s : Script) (line : DrillLine) → nodes_in (Some line) ≤ k → Fits m k s → Fits (m + 1) k (with_line s line)
line_fits m k s Skip few h = record { access = omega (arith, h.access); jobs = jobs_more m k s.jobs h.jobs }
line_fits m k s (Node name) few h = record { access = omega (arith, h.access); jobs = jobs_more m k s.jobs h.jobs }
line_fits m k s (Access a) few h = record { access = omega (arith, h.access, length-append s.access (a ∷ [])); jobs = jobs_more m k s.jobs h.jobs }
line_fits m k s (Job id nodes) few h = record { access = omega (arith, h.access); jobs = job_added m k s.jobs id nodes few h.jobs }
line_fits m k s (Step words) few h = record { access = omega (arith, h.access); jobs = step_added m k s.jobs words h.jobs }
line_fits m k s (Run r) few h = record { access = omega (arith, h.access); jobs = jobs_more m k s.jobs h.jobs }

line_or_fault : {P : Type 0} (may : Bool) (after : Result Script ScriptFault) (n : ℕ) (s' : Script) → (after ≡ Ok s' → P) → cond may after (Err (NotRead n)) ≡ Ok s' → P
line_or_fault true after n s' goes_on e = goes_on e
line_or_fault false after n s' goes_on e = cc

fits_as : (m m' k : ℕ) (s : Script) → m ≡ m' → Fits m k s → Fits m' k s
fits_as m m' k s e h = subst (λ n. Fits n k s) e h

lines_fit : (lines : List (Option DrillLine)) (s s' : Script) (n m k : ℕ) → AreFew k lines → Fits m k s → script_after s n lines ≡ Ok s' → Fits (m + length lines) k s'
lines_fit [] s s' n m k few h e = let same : s ≡ s' = cc in subst (λ t. Fits (m + 0) k t) same (fits_as m (m + 0) k s (omega arith) h)
lines_fit (None ∷ lines) s s' n m k few h e = cc
lines_fit (Some line ∷ lines) s s' n m k few h e =
    line_or_fault (may_come s line) (script_after (with_line s line) (n + 1) lines) n s'
    (λ rest. fits_as (m + 1 + length lines) (m + suc (length lines)) k s' (omega arith)
    (lines_fit lines (with_line s line) s' (n + 1) (m + 1) k few.1 (line_fits m k s line few.0 h) rest)) e

-- ---- the largest file

jobs_numbered : (m k : ℕ) (jobs : List DrillJob) → m < 2 ^ 32 → k < 2 ^ 32 → JobsFit m k jobs → list_all is_numbered_job jobs ≡ true
jobs_numbered m k [] few short h = refl
jobs_numbered m k (j ∷ js) few short h =
    rw (lt-ltb (length j.nodes) (2 ^ 32) (omega (arith, h.0, short)), lt-ltb (length j.steps) (2 ^ 32) (omega (arith, h.1, few)), jobs_numbered m k js few short h.2) refl

numbered_by : (large : Bool) (bytes : List ℕ) (s : Script) → nat_lt (2 ^ 20) (length bytes) ≡ large →
    cond large (Err TooLarge) (script_after empty_script 1 (read_lines bytes)) ≡ Ok s → IsNumbered s
numbered_by true bytes s size e = cc
numbered_by false bytes s size e =
    let small : length bytes ≤ 2 ^ 20 = ltb-false (2 ^ 20) (length bytes) size in
    let count : length (read_lines bytes) ≤ length bytes + 1 = omega (arith, length-map (slice_split is_line_feed bytes) read_line, parts_few is_line_feed bytes) in
    let few = lines_few (length bytes) (slice_split is_line_feed bytes) (parts_short is_line_feed bytes) in
    let fits = lines_fit (read_lines bytes) empty_script s 1 0 (length bytes + 1) few (record { access = omega arith; jobs = tt }) e in
    record {
      access = omega (arith, fits.access, count, small);
      jobs = jobs_numbered (0 + length (read_lines bytes)) (length bytes + 1) s.jobs (omega (arith, count, small)) (omega (arith, small)) fits.jobs;
    }

pub script_is_numbered : (bytes : List ℕ) (s : Script) → script_of bytes ≡ Ok s → IsNumbered s
script_is_numbered bytes s e = numbered_by (nat_lt (2 ^ 20) (length bytes)) bytes s refl e

-- ---- the nodes and steps of a job that is found, and of its run

numbered_job : (j : DrillJob) → is_numbered_job j ≡ true → (length j.nodes < 2 ^ 32) × (length j.steps < 2 ^ 32)
numbered_job j h =
    let parts = and_parts (nat_lt (length j.nodes) (2 ^ 32)) (nat_lt (length j.steps) (2 ^ 32)) h in
    (ltb-true (length j.nodes) (2 ^ 32) parts.0, ltb-true (length j.steps) (2 ^ 32) parts.1)

pub found_numbered : (jobs : List DrillJob) (id : List ℕ) (job : DrillJob) → list_all is_numbered_job jobs ≡ true → job_at jobs id ≡ Some job →
    (length job.nodes < 2 ^ 32) × (length job.steps < 2 ^ 32)
found_numbered [] id job h e = cc
found_numbered (j ∷ js) id job h e =
    let parts = and_parts (is_numbered_job j) (list_all is_numbered_job js) h in
    elim (cases_Bool (bytes_eq j.id id)) [
      | inl s ↦ let here : Some j ≡ Some job = rw s at e in numbered_job job (subst (λ k. is_numbered_job k ≡ true) (some_is here) parts.0)
      | inr d ↦ let behind : job_at js id ≡ Some job = rw d at e in found_numbered js id job parts.1 behind
    ]
  where
    some_is : {x y : DrillJob} → Some x ≡ Some y → x ≡ y
    some_is h = cc

-- the nodes that a table allows are no more than were asked for
pub allowed_numbered : (table : AccessTable) (user : List ℕ) (nodes : List (List ℕ)) (ts : List (List ℕ)) → ts ≡ allowed_of (told_on table user nodes) → length nodes < 2 ^ 32 → length ts < 2 ^ 32
allowed_numbered table user nodes ts e small =
    let size : length ts ≡ length (allowed_of (told_on table user nodes)) = ap length e in
    omega (arith, size, allowed_short nodes, small)
  where
    kept_short : (b : Bool) (d : NodeDecision) (ds : List NodeDecision) (n : ℕ) → length (map (λ (e : NodeDecision). e.node) ds) ≤ n → length (map (λ (e : NodeDecision). e.node) (cond b (d ∷ ds) ds)) ≤ suc n
    kept_short true d ds n le = omega (arith, le)
    kept_short false d ds n le = omega (arith, le)

    allowed_short : (nodes : List (List ℕ)) → length (allowed_of (told_on table user nodes)) ≤ length nodes
    allowed_short [] = omega arith
    allowed_short (node ∷ nodes) = kept_short (is_allowed (told table user node)) _ (filter (λ (d : NodeDecision). is_allowed d.decision) (told_on table user nodes)) (length nodes) (allowed_short nodes)
