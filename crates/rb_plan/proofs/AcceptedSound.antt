-- In a sound world the plan of an accepted run is sound, and its leaves have words.
use Rattle.std.proofs.Common.{arith, ◌≡◌, ℕ, ◌+◌, ◌≤◌, ◌<◌, ◌^◌, suc, true, length, List, [], ◌∷◌, Option, Some, None, refl, sym, ap, ◌∙◌, subst, lit<}
use Rattle.std.proofs.lemmas.Bool.{and_parts, leb-true}
use Rattle.rb_job.specs.Sound.{is_sound_job}
use Rattle.rb_job.specs.declared.job.JobStep.{JobStep}
use Rattle.rb_job.specs.declared.job.Job.{Job}
use Rattle.rb_marks.specs.Sound.{IsSound}
use Rattle.rb_plan.specs.Acceptance.{Acceptance}
use Rattle.rb_plan.specs.Inlined.{numbered, slots}
use Rattle.rb_plan.specs.Laws.{IsAsked, RunIsAccepted}
use Rattle.rb_plan.specs.References.{visits}
use Rattle.rb_plan.specs.Resolved.{Path, Resolver, resolved, resolved_steps}
use Rattle.rb_plan.specs.Sound.{IsSoundWorld, HasSoundLeaves, is_sound_project}
use Rattle.rb_plan.specs.Verdict.{Asked, accepted_of, plan_of, site_of, steps_of, targets_of, first_refusal}
use Rattle.rb_plan.specs.Verdict as verdict
use Rattle.rb_plan.specs.declared.world.Project.{Project}
use Rattle.rb_plan.proofs.Accepting.{accepted_is, each_none}
use Rattle.rb_plan.proofs.Reaching.{no_fault}
use Rattle.rb_plan.proofs.Slots.{commands_many, steps_numbered}
use Rattle.rb_plan.proofs.SoundRuns.{job_sound, project_sound}
use Rattle.rb_plan.proofs.SoundCommands.{commands_sound, options_apart, handlers_sound}
use Rattle.rb_plan.specs.Verdict.{may_run_on}
use Rattle.rb_plan.proofs.SoundNodes.{SoundNodes, bounded, sound_nodes, targets_sound, tiers_counted, tiers_many, tiers_rise}
use Rattle.rb_plan.proofs.Whole.{jobs_are_sound, whole_at, steps_are_filled}
use Rattle.rb_option.proofs.Settled.{settled_names_differ}

numbered_many : (below : Option Resolver) (project : Project) (path : Path) (ss : List JobStep) (n : ℕ) → length (numbered n (resolved_steps below project path ss)) ≡ length ss
numbered_many below project path [] n = refl
numbered_many below project path (s ∷ ss) n = ap suc (numbered_many below project path ss _)

steps_many : (a : Asked) → length (numbered 0 (steps_of a)) ≡ length a.found.held.job.steps
steps_many a = numbered_many (Some (resolved 7 a.found.project)) a.found.project [] a.found.held.job.steps 0

few_steps : (job : Job) → is_sound_job job ≡ true → (1 ≤ length job.steps) × (length job.steps ≤ 200)
few_steps job h =
    let between = and_parts _ _ (and_parts _ _ (and_parts _ _ h).0).0 in
    (leb-true 1 (length job.steps) between.0, leb-true (length job.steps) 200 between.1)

-- the nodes of a run in a sound project are few, sound and apart
run_sound : (a : Asked) → is_sound_project a.found.project ≡ true → SoundNodes (targets_of a)
run_sound a project =
    targets_sound (may_run_on a) a.ask a.found.held.job a.draw a.found.project.inventory.nodes (sound_nodes a.found.project project)

none_before : (n : ℕ) → 0 + n ≡ n
none_before n = omega arith

plan_sound : (a : Asked) → is_sound_project a.found.project ≡ true → is_sound_job a.found.held.job ≡ true → first_refusal (verdict.rules a) ≡ None → IsSound (plan_of a)
plan_sound a project job none = record {
  nodes = tiers_counted a.found.held.job.orchestrator a.found.held.job.rank_by (targets_of a) (run_sound a project);
  steps = subst (λ n. n < 2 ^ 32) (sym (steps_many a)) (omega (arith, (few_steps a.found.held.job job).1));
  bound = bounded a.found.held.job (targets_of a) job;
  tiers = tiers_rise a.found.held.job.orchestrator a.found.held.job.rank_by (targets_of a);
  has_step = subst (λ n. 0 < n) (sym (steps_many a)) (few_steps a.found.held.job job).0;
  filled = steps_are_filled 0 (steps_of a) (whole_at 8 a.found.project (jobs_are_sound a.found.project project) [] a.found.held.job.steps
      (no_fault 1000 (visits [] (steps_of a)) (each_none (verdict.rules a) none 1 None (lit< tt))));
  slots = steps_numbered 0 (steps_of a) ∙ ap Some (none_before (slots (steps_of a)));
}

leaves_sound : (a : Asked) → is_sound_project a.found.project ≡ true → is_sound_job a.found.held.job ≡ true → HasSoundLeaves (accepted_of a)
leaves_sound a project job = record {
  commands = commands_many (site_of a) (steps_of a);
  nodes = sym (tiers_many a.found.held.job.orchestrator a.found.held.job.rank_by (targets_of a));
  sound_commands = commands_sound 8 a.found.project (jobs_are_sound a.found.project project) (site_of a) [] a.found.held.job.steps
      (settled_names_differ a.found.held.job.options a.ask.given (options_apart a.found.held job)) (handlers_sound a.found.held job);
  sound_nodes = (run_sound a project).sound;
}

pub accepted_sound : (a : Asked) (accepted : Acceptance) → IsSoundWorld a.world → IsAsked a → RunIsAccepted a accepted → IsSound accepted.plan × HasSoundLeaves accepted
accepted_sound a accepted world asked ok =
    let is = accepted_is a accepted asked ok in
    subst (λ x. IsSound x.plan × HasSoundLeaves x) (sym is.1) (
      plan_sound a (project_sound a world asked) (job_sound a world asked) is.0,
      leaves_sound a (project_sound a world asked) (job_sound a world asked),
    )
