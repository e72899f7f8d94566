-- Each start of a drill is one that its access lines allow.
use Rattle.std.proofs.Common.{◌≡◌, ◌<◌, ℕ, zero, suc, ◌+◌, ◌*◌, Bool, true, false, List, [], ◌∷◌, ◌++◌, length, All, Contains, Option, Some, None, filter, bytes_eq, cond, slice_index_or, refl, ap, sym, subst, arith}
use Rattle.std.proofs.lemmas.List.Elements.{All-nil, All-cons, All-head, All-tail, All-contains_itself}
use Rattle.std.proofs.lemmas.Slice.Eq.{bytes_eq-Decides}
use Rattle.rb_causes.specs.declared.ending.Ending.{Ending}
use Rattle.rb_acl.specs.declared.policy.Policies.{Policies}
use Rattle.rb_acl.specs.Deciding.{is_allowed}
use Rattle.rb_marks.specs.First.{first_startable}
use Rattle.rb_marks.specs.declared.mark.Leaf.{Leaf}
use Rattle.rb_marks.specs.declared.mark.Mark.{Mark}
use Rattle.rb_top.specs.Access.{run_decision, node_decisions, script_policies, job_targets}
use Rattle.rb_top.specs.Drill.{drill_plan, start_of, marks_with, next_start, executed, drops, refused, authorized, one_run, all_runs, play_of, IsAllowedStart}
use Rattle.rb_top.specs.Laws.{StartsAreAllowed}
use Rattle.rb_top.specs.Play.{Play, Over, Print, Run, Start, transcript, EachStart}
use Rattle.rb_top.specs.Reading.{job_at}
use Rattle.rb_top.specs.declared.access.NodeDecision.{NodeDecision}
use Rattle.rb_top.specs.declared.script.DrillJob.{DrillJob}
use Rattle.rb_top.specs.declared.script.DrillRun.{DrillRun}
use Rattle.rb_top.specs.declared.script.Script.{Script}
use Rattle.rb_top.proofs.Leaves.{first_within}

module _ (P : Start → Type 0) where
  -- what holds of each start that may come holds of those that came
  each_started : (p : Play) (endings : List Ending) → EachStart P p → All P (transcript p endings).started
  each_started Over endings each = All-nil P
  each_started (Print text next) endings each = each_started next endings each
  each_started (Run start next) [] each = All-nil P
  each_started (Run start next) (ending ∷ endings) each = All-cons P start (transcript (next ending) endings).started each.0 (each_started (next ending) endings (each.1 ending))

  each_of_two : (test : Bool) (p q : Play) → EachStart P p → EachStart P q → EachStart P (cond test p q)
  each_of_two true p q first second = first
  each_of_two false p q first second = second

  each_more : (found : Option Leaf) (start : Leaf → Start) (marks : List Mark) (more next : List Mark → Play) → ((leaf : Leaf) → found ≡ Some leaf → P (start leaf))
      → ((after : List Mark) → EachStart P (more after)) → ((after : List Mark) → EachStart P (next after)) → EachStart P (next_start found start marks more next)
  each_more None start marks more next allowed others rest = rest marks
  each_more (Some leaf) start marks more next allowed others rest = (allowed leaf refl, λ ending. others (marks_with marks leaf ending))

  each_executed : (fuel : ℕ) (user : List ℕ) (nodes : List (List ℕ)) (job : DrillJob) (marks : List Mark) (next : List Mark → Play)
      → ((leaf : Leaf) → leaf.node < length nodes → leaf.slot < length job.steps → P (start_of user nodes job leaf))
      → ((after : List Mark) → EachStart P (next after)) → EachStart P (executed fuel user nodes job marks next)
  each_executed zero user nodes job marks next allowed rest = rest marks
  each_executed (suc fuel) user nodes job marks next allowed rest =
      each_more (first_startable (drill_plan nodes job) marks) (start_of user nodes job) marks (λ more. executed fuel user nodes job more next) next
      (λ leaf found. let within = first_within nodes job marks leaf found in allowed leaf within.0 within.1)
      (λ after. each_executed fuel user nodes job after next allowed rest) rest

  each_refused : (k : ℕ) (decisions : List NodeDecision) (next : Play) → EachStart P next → EachStart P (refused k decisions next)
  each_refused k [] next rest = rest
  each_refused k (d ∷ ds) next rest = rest

  each_drops : (k : ℕ) (decisions : List NodeDecision) (next : Play) → EachStart P next → EachStart P (drops k decisions next)
  each_drops k [] next rest = rest
  each_drops k (d ∷ ds) next rest = each_of_two (is_allowed d.decision) _ _ (each_drops k ds next rest) (each_drops k ds next rest)

  each_authorized : (k : ℕ) (user : List ℕ) (job : DrillJob) (decisions : List NodeDecision) (nodes : List (List ℕ)) (next : Play)
      → ((leaf : Leaf) → leaf.node < length nodes → leaf.slot < length job.steps → P (start_of user nodes job leaf)) → EachStart P next
      → EachStart P (authorized k user job decisions nodes next)
  each_authorized k user job decisions [] next allowed rest = each_refused k decisions next rest
  each_authorized k user job decisions (node ∷ nodes) next allowed rest =
      each_drops k decisions _
      (each_executed (length (node ∷ nodes) * length job.steps) user (node ∷ nodes) job [] _ allowed (λ after. rest))

  each_run : (policies : Policies) (k : ℕ) (r : DrillRun) (found : Option DrillJob) (next : Play)
      → ((job : DrillJob) → found ≡ Some job → (leaf : Leaf) → leaf.node < length (job_targets policies r.user job) → leaf.slot < length job.steps → P (start_of r.user (job_targets policies r.user job) job leaf))
      → EachStart P next → EachStart P (one_run policies k r found next)
  each_run policies k r None next allowed rest = rest
  each_run policies k r (Some job) next allowed rest = each_authorized k r.user job (node_decisions policies r.user job.nodes) (job_targets policies r.user job) next (allowed job refl) rest

module _ {X : Type 0} where
  kept_or : (Q : X → Type 0) (test : Bool) (x : X) (xs : List X) → (test ≡ true → Q x) → All Q xs → All Q (cond test (x ∷ xs) xs)
  kept_or Q true x xs first rest = All-cons Q x xs (first refl) rest
  kept_or Q false x xs first rest = rest

  -- what a filter keeps passes the test, and stood in the list
  filtered : (test : X → Bool) (all xs : List X) → All (Contains all) xs → All (λ x. (test x ≡ true) × Contains all x) (filter test xs)
  filtered test all [] within = All-nil (λ y. (test y ≡ true) × Contains all y)
  filtered test all (x ∷ xs) within =
      kept_or (λ y. (test y ≡ true) × Contains all y) (test x) x (filter test xs) (λ passes. (passes, All-head (Contains all) x xs within)) (filtered test all xs (All-tail (Contains all) x xs within))

  -- a list around the element at a place
  around : (xs : List X) (n : ℕ) (d : X) → n < length xs → (before : List X) × (behind : List X) × (xs ≡ before ++ slice_index_or xs n d ∷ behind) × (n ≡ length before)
  around [] n d within = absurd (omega (arith, within))
  around (x ∷ xs) zero d within = ([], xs, refl, refl)
  around (x ∷ xs) (suc n) d within =
      let (before, behind, whole, place) = around xs n d (omega (arith, within)) in
      (x ∷ before, behind, ap (λ l. x ∷ l) whole, ap suc place)

id_or : (id : List ℕ) (test : Bool) (x job : DrillJob) (later : Option DrillJob) → (test ≡ true → x.id ≡ id) → (later ≡ Some job → job.id ≡ id) → cond test (Some x) later ≡ Some job → job.id ≡ id
id_or id true x job later first rest found = let same : x ≡ job = cc in subst (λ (j : DrillJob). j.id ≡ id) same (first refl)
id_or id false x job later first rest found = rest found

-- a job that is found has the id that was asked for
found_id : (jobs : List DrillJob) (id : List ℕ) (job : DrillJob) → job_at jobs id ≡ Some job → job.id ≡ id
found_id [] id job found = cc
found_id (x ∷ xs) id job found = id_or id (bytes_eq x.id id) x job (job_at xs id) (λ same. (bytes_eq-Decides x.id id).0 same) (found_id xs id job) found

module _ (s : Script) where
  allowed_start : (r : DrillRun) → Contains s.runs r → (job : DrillJob) → job_at s.jobs r.job ≡ Some job → (leaf : Leaf)
      → leaf.node < length (job_targets (script_policies s) r.user job) → leaf.slot < length job.steps → IsAllowedStart s (start_of r.user (job_targets (script_policies s) r.user job) job leaf)
  allowed_start r run job found leaf node slot =
      let may : Bool = true in
      let passes = filtered (λ n. is_allowed (run_decision (script_policies s) r.user n)) job.nodes job.nodes (All-contains_itself job.nodes) leaf.node [] node in
      let (before, behind, whole, place) = around job.steps leaf.slot [] slot in
      let same = found_id s.jobs r.job job found in
      record {
        allowed = passes.0;
        job = job;
        listed = subst (λ id. job_at s.jobs id ≡ Some job) (sym same) found;
        run = subst (λ id. Contains s.runs (record { user = r.user; job = id })) (sym same) run;
        node = passes.1;
        before = before;
        behind = behind;
        words = whole;
        step = ap (λ n. n + 1) place;
      }

  each_of_runs : (rs : List DrillRun) (k : ℕ) → All (Contains s.runs) rs → EachStart (IsAllowedStart s) (all_runs (script_policies s) s.jobs k rs Over)
  each_of_runs [] k within = tt
  each_of_runs (r ∷ rs) k within =
      each_run (IsAllowedStart s) (script_policies s) k r (job_at s.jobs r.job) _ (allowed_start r (All-head (Contains s.runs) r rs within))
      (each_of_runs rs (k + 1) (All-tail (Contains s.runs) r rs within))

pub starts_are_allowed : StartsAreAllowed
starts_are_allowed s endings = each_started (IsAllowedStart s) (play_of s) endings (each_of_runs s s.runs 1 (All-contains_itself s.runs))
