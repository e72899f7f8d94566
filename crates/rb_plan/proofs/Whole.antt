-- Where no reference is at fault, each sequence of the plan has a step.
use Rattle.std.proofs.Common.{arith, ◌≡◌, inl, inr, ℕ, ◌≤◌, zero, suc, true, length, List, [], ◌∷◌, ◌++◌, Option, Some, None, refl}
use Rattle.std.specs.List.{list_all}
use Rattle.std.proofs.lemmas.Bool.{and_parts, leb-true, and_from}
use Rattle.rb_causes.specs.declared.items.Prop.{Prop}
use Rattle.rb_job.specs.Sound.{is_sound_job}
use Rattle.rb_job.specs.declared.job.Job.{Job}
use Rattle.rb_job.specs.declared.job.JobStep.{JobStep}
use Rattle.rb_job.specs.declared.job.JobAct.{JobAct}
use Rattle.rb_job.specs.declared.job.JobAct.TheVariants.{Exec, Script, Refer}
use Rattle.rb_marks.specs.Sound.{act_filled, all_filled, has_branch}
use Rattle.rb_marks.specs.View.{branches_of}
use Rattle.rb_plan.specs.Inlined.{numbered, numbered_act}
use Rattle.rb_plan.specs.References.{fault, visits, act_visits, handler_visits}
use Rattle.rb_plan.specs.Resolved.{Path, Resolver, ResolvedAct, own, referred, unresolved, ResolvedSteps, no_step, step, label, resolved, resolved_act, resolved_steps, resolved_reference}
use Rattle.rb_plan.specs.Sound.{is_sound_project}
use Rattle.rb_plan.specs.Worlds.{referred_job}
use Rattle.rb_plan.specs.declared.world.Project.{Project}
use Rattle.rb_plan.specs.declared.world.HeldJob.{HeldJob}
use Rattle.rb_plan.proofs.Reaching.{NoFault, left_of, right_of}
use Rattle.rb_plan.proofs.SoundRuns.{found_passes}

-- the jobs of a sound project are sound
pub jobs_are_sound : (project : Project) → is_sound_project project ≡ true → list_all (λ held. is_sound_job held.job) project.jobs ≡ true
jobs_are_sound project h = (and_parts _ _ (and_parts _ _ h).1).1

abbrev HasStep : ResolvedSteps → Type 0
HasStep no_step = ⊥
HasStep (step act handler keep rest) = Unit {0}

-- each reference is resolved, to a job that has a step
abbrev mutual
  pub IsWholeAct : ResolvedAct → Type 0
  IsWholeAct (own act) = Unit {0}
  IsWholeAct (referred path args held steps) = HasStep steps × IsWhole steps
  IsWholeAct (unresolved path cause) = ⊥

  pub IsWhole : ResolvedSteps → Type 0
  IsWhole no_step = Unit {0}
  IsWhole (step act handler keep rest) = IsWholeAct act × IsWhole rest

branch_there : (n : ℕ) (steps : ResolvedSteps) → HasStep steps → has_branch (branches_of (numbered n steps)) ≡ true
branch_there n no_step h = absurd h
branch_there n (step act handler keep rest) h = refl

mutual
  act_is_filled : (n : ℕ) (act : ResolvedAct) → IsWholeAct act → act_filled (numbered_act n act) ≡ true
  act_is_filled n (own act) h = refl
  act_is_filled n (referred path args held steps) h =
      and_from (has_branch (branches_of (numbered n steps))) (all_filled (branches_of (numbered n steps))) (branch_there n steps h.0) (steps_are_filled n steps h.1)
  act_is_filled n (unresolved path cause) h = absurd h

  pub steps_are_filled : (n : ℕ) (steps : ResolvedSteps) → IsWhole steps → all_filled (branches_of (numbered n steps)) ≡ true
  steps_are_filled n no_step h = refl
  steps_are_filled n (step act handler keep rest) h =
      and_from (act_filled (numbered_act n act)) (all_filled (branches_of (numbered _ rest))) (act_is_filled n act h.0) (steps_are_filled _ rest h.1)

-- the steps of a job are whole where what it refers to is
whole_act : (below : Option Resolver) (project : Project) (path : Path) (act : JobAct)
    → ((group name : List ℕ) (args : List Prop) → NoFault (act_visits path (resolved_reference below (path ++ label group name ∷ []) args (referred_job project group name)))
    → IsWholeAct (resolved_reference below (path ++ label group name ∷ []) args (referred_job project group name)))
    → NoFault (act_visits path (resolved_act below project path act)) → IsWholeAct (resolved_act below project path act)
whole_act below project path (Exec words) at none = tt
whole_act below project path (Script text args) at none = tt
whole_act below project path (Refer group name args) at none = at group name args none

whole_steps : (below : Option Resolver) (project : Project) (path : Path) (ss : List JobStep)
    → ((group name : List ℕ) (args : List Prop) → NoFault (act_visits path (resolved_reference below (path ++ label group name ∷ []) args (referred_job project group name)))
    → IsWholeAct (resolved_reference below (path ++ label group name ∷ []) args (referred_job project group name)))
    → NoFault (visits path (resolved_steps below project path ss)) → IsWhole (resolved_steps below project path ss)
whole_steps below project path [] at none = tt
whole_steps below project path (s ∷ ss) at none = (
  whole_act below project path s.act at (λ q c m. none q c (left_of (act_visits path (resolved_act below project path s.act)) _ (fault q c) m)),
  whole_steps below project path ss at
      (λ q c m. none q c (right_of (act_visits path (resolved_act below project path s.act)) _ (fault q c) (right_of (handler_visits path s.handler) _ (fault q c) m))),
)

none_resolved : (p path : Path) (args : List Prop) (o : Option HeldJob) → NoFault (act_visits p (resolved_reference None path args o)) → ⊥
none_resolved p path args None none = none path _ (inl refl)
none_resolved p path args (Some held) none = none path _ (inl refl)

-- a sound job has a step
some_step : (job : Job) → is_sound_job job ≡ true → 1 ≤ length job.steps
some_step job h = leb-true 1 (length job.steps) (and_parts _ _ (and_parts _ _ (and_parts _ _ h).0).0).0

step_there : (below : Option Resolver) (project : Project) (path : Path) (ss : List JobStep) → 1 ≤ length ss → HasStep (resolved_steps below project path ss)
step_there below project path [] h = absurd (omega (arith, h))
step_there below project path (s ∷ ss) h = tt

pub step_at_level : (levels : ℕ) (project : Project) (path : Path) (ss : List JobStep) → 1 ≤ length ss → HasStep (resolved levels project path ss)
step_at_level zero project path ss h = step_there None project path ss h
step_at_level (suc levels) project path ss h = step_there (Some (resolved levels project)) project path ss h

whole_reference : (levels : ℕ) (project : Project) (p path : Path) (args : List Prop) (o : Option HeldJob)
    → ((held : HeldJob) → o ≡ Some held → is_sound_job held.job ≡ true)
    → ((path : Path) (ss : List JobStep) → NoFault (visits path (resolved levels project path ss)) → IsWhole (resolved levels project path ss))
    → NoFault (act_visits p (resolved_reference (Some (resolved levels project)) path args o)) → IsWholeAct (resolved_reference (Some (resolved levels project)) path args o)
whole_reference levels project p path args None sound below none = absurd (none path _ (inl refl))
whole_reference levels project p path args (Some held) sound below none = (
  step_at_level levels project path held.job.steps (some_step held.job (sound held refl)),
  below path held.job.steps (λ q c m. none q c (inr m)),
)

pub referred_is_sound : (project : Project) (group name : List ℕ) (held : HeldJob) → list_all (λ held. is_sound_job held.job) project.jobs ≡ true
    → referred_job project group name ≡ Some held → is_sound_job held.job ≡ true
referred_is_sound project group name held all found = found_passes (λ held. is_sound_job held.job) _ project.jobs held found all

pub whole_at : (levels : ℕ) (project : Project) → list_all (λ held. is_sound_job held.job) project.jobs ≡ true → (path : Path) (ss : List JobStep)
    → NoFault (visits path (resolved levels project path ss)) → IsWhole (resolved levels project path ss)
whole_at zero project all path ss none =
    whole_steps None project path ss (λ group name args h. absurd (none_resolved path (path ++ label group name ∷ []) args (referred_job project group name) h)) none
whole_at (suc levels) project all path ss none =
    whole_steps (Some (resolved levels project)) project path ss
    (λ group name args h. whole_reference levels project path (path ++ label group name ∷ []) args (referred_job project group name)
    (λ held found. referred_is_sound project group name held all found) (whole_at levels project all) h) none
