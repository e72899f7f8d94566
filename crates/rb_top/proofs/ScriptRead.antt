-- What is read of a drill file is a script: names differ and are known, and each run has a step.
use Rattle.std.proofs.Common.{◌≡◌, ◌∙◌, ◌^◌, ℕ, ◌+◌, Bool, true, false, not, ◌&&◌, ◌||◌, bytes_eq, ltb, cond, List, [], ◌∷◌, ◌++◌, length, map, Option, Some, None, is_some, Ok, refl, ap, sym, subst}
use Rattle.std.specs.List.{list_all}
use Rattle.std.proofs.lemmas.Bool.{and_parts, and_from, or_parts, not-true, not_from_false}
use Rattle.std.proofs.lemmas.List.{map-append}
use Rattle.std.proofs.lemmas.List.Folds.{list_all-append}
use Rattle.std.proofs.lemmas.List.Sums.{list_all-from_AllPass}
use Rattle.rb_causes.specs.Texts.{differ, has_text}
use Rattle.rb_causes.proofs.Lists.{any_kept}
use Rattle.rb_causes.proofs.Seen.{has_more}
use Rattle.rb_causes.proofs.Texts.{text_turned}
use Rattle.rb_top.specs.Laid.{ReadIsAScript}
use Rattle.rb_top.specs.Lines.{read_lines}
use Rattle.rb_top.specs.Reading.{empty_script, has_steps, job_at, may_come, script_after, script_of, with_line, with_step}
use Rattle.rb_top.specs.declared.script.AccessLine.{AccessLine}
use Rattle.rb_top.specs.declared.script.DrillJob.{DrillJob}
use Rattle.rb_top.specs.declared.script.DrillRun.{DrillRun}
use Rattle.rb_top.specs.declared.script.Script.{Script}
use Rattle.rb_top.specs.declared.script.DrillLine.{DrillLine}
use Rattle.rb_top.specs.declared.script.DrillLine.TheVariants.{Skip, Node, Access, Job, Step, Run}
use Rattle.rb_top.proofs.Runs.{line_or_fault, size_or_lines, runs_have_steps}

-- ---- one text more

-- a text that has none like it before it
differ_more : (texts : List (List ℕ)) (t : List ℕ) → not (has_text texts t) ≡ true
    → differ texts ≡ true → differ (texts ++ t ∷ []) ≡ true
differ_more [] t new old = refl
differ_more (x ∷ xs) t new old =
    let news = or_parts (bytes_eq x t) (has_text xs t) (not-true _ new) in
    let olds = and_parts (not (has_text xs x)) (differ xs) old in
    let unlike = ap not (has_more xs t x
    ∙ ap (λ b. cond b true (has_text xs x)) (text_turned t x ∙ news.0)) in
    and_from (not (has_text (xs ++ t ∷ []) x)) (differ (xs ++ t ∷ [])) (unlike ∙ olds.0)
    (differ_more xs t (not_from_false (has_text xs t) news.1) olds.1)

all_kept : {A : Type 0} (p q : A → Bool) → ((x : A) → p x ≡ true → q x ≡ true) → (xs : List A)
    → list_all p xs ≡ true → list_all q xs ≡ true
all_kept p q kept [] h = refl
all_kept p q kept (x ∷ xs) h =
    let parts = and_parts (p x) (list_all p xs) h in
    and_from (q x) (list_all q xs) (kept x parts.0) (all_kept p q kept xs parts.1)

all_more : {A : Type 0} (p : A → Bool) (xs : List A) (x : A) → list_all p xs ≡ true
    → p x ≡ true → list_all p (xs ++ x ∷ []) ≡ true
all_more p xs x h k =
    list_all-append p xs (x ∷ [])
    ∙ and_from (list_all p xs) (list_all p (x ∷ [])) h (and_from (p x) true k refl)

known_more : (names : List (List ℕ)) (name text : List ℕ) → has_text names text ≡ true
    → has_text (names ++ name ∷ []) text ≡ true
known_more names name text h = any_kept (λ t. bytes_eq t text) names (name ∷ []) h

-- ---- jobs

abbrev ids : List DrillJob → List (List ℕ)
ids jobs = map (λ j. j.id) jobs

found_is_listed : (jobs : List DrillJob) (id : List ℕ)
    → is_some (job_at jobs id) ≡ has_text (ids jobs) id
found_is_listed [] id = refl
found_is_listed (j ∷ jobs) id = by_first (bytes_eq j.id id) (found_is_listed jobs id)
  where
    by_first : (b : Bool) → is_some (job_at jobs id) ≡ has_text (ids jobs) id
        → is_some (cond b (Some j) (job_at jobs id)) ≡ (b || has_text (ids jobs) id)
    by_first true h = refl
    by_first false h = h

-- a job's nodes differ, and are known
abbrev is_known_job : List (List ℕ) → DrillJob → Bool
is_known_job nodes j = differ j.nodes && list_all (has_text nodes) j.nodes

job_stays_known : (nodes : List (List ℕ)) (name : List ℕ) (j : DrillJob)
    → is_known_job nodes j ≡ true → is_known_job (nodes ++ name ∷ []) j ≡ true
job_stays_known nodes name j h =
    let parts = and_parts (differ j.nodes) (list_all (has_text nodes) j.nodes) h in
    and_from (differ j.nodes) (list_all (has_text (nodes ++ name ∷ [])) j.nodes) parts.0
    (all_kept (has_text nodes) (has_text (nodes ++ name ∷ [])) (known_more nodes name) j.nodes
    parts.1)

-- a step more changes no id and no node
same_ids : (jobs : List DrillJob) (words : List (List ℕ)) → ids (with_step jobs words) ≡ ids jobs
same_ids [] words = refl
same_ids (j ∷ []) words = refl
same_ids (j ∷ k ∷ js) words = ap (λ more. j.id ∷ more) (same_ids (k ∷ js) words)

same_nodes : (nodes : List (List ℕ)) (jobs : List DrillJob) (words : List (List ℕ))
    → list_all (is_known_job nodes) (with_step jobs words) ≡ list_all (is_known_job nodes) jobs
same_nodes nodes [] words = refl
same_nodes nodes (j ∷ []) words = refl
same_nodes nodes (j ∷ k ∷ js) words =
    ap (λ b. is_known_job nodes j && b) (same_nodes nodes (k ∷ js) words)

-- ---- scripts

-- a script but for what its runs ask
record IsListed (s : Script) : Type 0 where
  nodes : differ s.nodes ≡ true
  access : list_all (λ a. has_text s.nodes a.node) s.access ≡ true
  ids_differ : differ (ids s.jobs) ≡ true
  jobs : list_all (is_known_job s.nodes) s.jobs ≡ true

node_listed : (s : Script) (name : List ℕ) → not (has_text s.nodes name) ≡ true → IsListed s
    → IsListed (with_line s (Node name))
node_listed s name may old = record {
  nodes = differ_more s.nodes name may old.nodes;
  access =
      all_kept (λ (a : AccessLine). has_text s.nodes a.node)
      (λ a. has_text (s.nodes ++ name ∷ []) a.node)
      (λ a h. known_more s.nodes name a.node h) s.access old.access;
  ids_differ = old.ids_differ;
  jobs =
      all_kept (is_known_job s.nodes) (is_known_job (s.nodes ++ name ∷ []))
      (job_stays_known s.nodes name) s.jobs old.jobs;
}

access_listed : (s : Script) (a : AccessLine) → has_text s.nodes a.node ≡ true → IsListed s
    → IsListed (with_line s (Access a))
access_listed s a may old = record {
  nodes = old.nodes;
  access = all_more (λ (a : AccessLine). has_text s.nodes a.node) s.access a old.access may;
  ids_differ = old.ids_differ;
  jobs = old.jobs;
}

job_listed : (s : Script) (id : List ℕ) (nodes : List (List ℕ))
    → may_come s (Job id nodes) ≡ true → IsListed s → IsListed (with_line s (Job id nodes))
job_listed s id nodes may old =
    let job : DrillJob = record { id = id; nodes = nodes; steps = [] } in
    let both = and_parts (not (is_some (job_at s.jobs id)) && differ nodes)
    (list_all (has_text s.nodes) nodes) may in
    let front = and_parts (not (is_some (job_at s.jobs id))) (differ nodes) both.0 in
    let new : not (has_text (ids s.jobs) id) ≡ true =
    ap not (sym (found_is_listed s.jobs id)) ∙ front.0 in
    record {
      nodes = old.nodes;
      access = old.access;
      ids_differ =
          ap differ (map-append (λ (j : DrillJob). j.id) s.jobs (job ∷ []))
          ∙ differ_more (ids s.jobs) id new old.ids_differ;
      jobs =
          all_more (is_known_job s.nodes) s.jobs job old.jobs
          (and_from (differ nodes) (list_all (has_text s.nodes) nodes) front.1 both.1);
    }

step_listed : (s : Script) (words : List (List ℕ)) → IsListed s
    → IsListed (with_line s (Step words))
step_listed s words old = record {
  nodes = old.nodes;
  access = old.access;
  ids_differ = ap differ (same_ids s.jobs words) ∙ old.ids_differ;
  jobs = same_nodes s.nodes s.jobs words ∙ old.jobs;
}

line_lists : (s : Script) (line : DrillLine) → may_come s line ≡ true → IsListed s
    → IsListed (with_line s line)
line_lists s Skip may old = old
line_lists s (Node name) may old = node_listed s name may old
line_lists s (Access a) may old = access_listed s a may old
line_lists s (Job id nodes) may old = job_listed s id nodes may old
line_lists s (Step words) may old = step_listed s words old
line_lists s (Run r) may old =
    record { nodes = old.nodes; access = old.access; ids_differ = old.ids_differ; jobs = old.jobs }

lines_list : (lines : List (Option DrillLine)) (s s' : Script) (n : ℕ) → IsListed s
    → script_after s n lines ≡ Ok s' → IsListed s'
lines_list [] s s' n old e = let same : s ≡ s' = cc in subst IsListed same old
lines_list (None ∷ lines) s s' n old e = cc
lines_list (Some line ∷ lines) s s' n old e =
    line_or_fault (may_come s line) (script_after (with_line s line) (n + 1) lines) n s'
    (λ may rest. lines_list lines (with_line s line) s' (n + 1) (line_lists s line may old) rest) e

empty_is_listed : IsListed empty_script
empty_is_listed = record { nodes = refl; access = refl; ids_differ = refl; jobs = refl }

file_lists : (bytes : List ℕ) (s : Script) → script_of bytes ≡ Ok s → IsListed s
file_lists bytes s e =
    size_or_lines (ltb (2 ^ 20) (length bytes)) (script_after empty_script 1 (read_lines bytes)) s
    (λ rest. lines_list (read_lines bytes) empty_script s 1 empty_is_listed rest) e

pub read_is_a_script : ReadIsAScript
read_is_a_script bytes s e =
    let listed = file_lists bytes s e in
    record {
      nodes = listed.nodes;
      access = listed.access;
      ids = listed.ids_differ;
      jobs = listed.jobs;
      runs =
          list_all-from_AllPass (λ (r : DrillRun). has_steps (job_at s.jobs r.job)) s.runs
          (runs_have_steps bytes s e);
    }
