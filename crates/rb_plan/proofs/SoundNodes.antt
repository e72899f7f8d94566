-- The nodes of a run in a sound world.
use Rattle.std.proofs.Common.{arith, ◌≡◌, ℕ, ◌<◌, ◌≤◌, ◌^◌, suc, true, length, map, List, [], ◌∷◌, Option, Some, None, refl}
use Rattle.std.specs.List.{list_all}
use Rattle.std.specs.List.Sorted.{IsNonDecreasing}
use Rattle.std.proofs.lemmas.Bool.{and_parts, and_from, le-leb, leb-true}
use Rattle.std.proofs.lemmas.List.{length-map}
use Rattle.rb_acl.specs.declared.policy.Decision.{Decision}
use Rattle.rb_causes.specs.Texts.{differ}
use Rattle.rb_job.specs.Sound.{is_sound_job, is_sound_orchestrator}
use Rattle.rb_job.specs.declared.job.Job.{Job}
use Rattle.rb_job.specs.declared.job.Orchestrator.{Orchestrator}
use Rattle.rb_job.specs.declared.job.Orchestrator.TheVariants.{Plain, Subset, RankTiered, MaxPercentage}
use Rattle.rb_node.specs.declared.node.Node.{Node}
use Rattle.rb_marks.specs.Sound.{never_fall}
use Rattle.rb_orch.specs.Bounding.{bound_of}
use Rattle.rb_orch.specs.Tiering.{tiers_of}
use Rattle.rb_orch.proofs.TierLaws.{tier_for_each}
use Rattle.rb_orch.proofs.TierLaws as tiers
use Rattle.rb_plan.specs.Sound.{is_sound_node, is_sound_project}
use Rattle.rb_plan.specs.Targets.{chosen_nodes, runnable, targets, target_tiers, target_bound, percent_of}
use Rattle.rb_plan.specs.declared.world.Project.{Project}
use Rattle.rb_plan.specs.declared.world.RunAsk.{RunAsk}
use Rattle.rb_plan.proofs.PartNodes.{part_run, names}

-- a sound project has at most 10,000 nodes, which are sound and whose names differ, and sound jobs
pub record SoundNodes (nodes : List Node) : Type 0 where
  pub sound : list_all is_sound_node nodes ≡ true
  pub few : length nodes ≤ 10000
  pub apart : differ (names nodes) ≡ true

pub sound_nodes : (project : Project) → is_sound_project project ≡ true → SoundNodes project.inventory.nodes
sound_nodes project h =
    let halves = and_parts _ _ h in
    let counted = and_parts _ _ halves.0 in
    let named = and_parts _ _ halves.1 in
    record { sound = counted.0; few = leb-true _ _ counted.1; apart = named.0 }

pub targets_sound : (decide : Node → Decision) (ask : RunAsk) (job : Job) (draw : ℕ) (nodes : List Node) → SoundNodes nodes
    → SoundNodes (targets job draw (runnable decide (chosen_nodes ask job nodes)))
targets_sound decide ask job draw nodes h =
    let part = part_run decide ask job draw nodes in
    record { sound = part.each is_sound_node h.sound; few = omega (arith, part.few, h.few); apart = part.apart h.apart }

pub counted : (nodes : List Node) → SoundNodes nodes → length nodes < 2 ^ 32
counted nodes h = omega (arith, h.few)

-- each of them has a tier
pub tiers_many : (orchestrator : Orchestrator) (by : Option (List ℕ)) (nodes : List Node) → length (target_tiers orchestrator by nodes) ≡ length nodes
tiers_many Plain by nodes = length-map nodes (λ node. 0)
tiers_many (Subset count) by nodes = length-map nodes (λ node. 0)
tiers_many RankTiered by nodes = tier_for_each by nodes
tiers_many (MaxPercentage percent) by nodes = length-map nodes (λ node. 0)

rises : (ts : List ℕ) → IsNonDecreasing ts → never_fall ts ≡ true
rises [] up = refl
rises (t ∷ []) up = refl
rises (t ∷ u ∷ ts) up =
    and_from _ _ (le-leb t u (up 0 1 0 (omega arith) (omega arith)))
    (rises (u ∷ ts) (λ i j d le lt. up (suc i) (suc j) d (omega (arith, le)) (omega (arith, lt))))

level : {X : Type 0} (xs : List X) → never_fall (map (λ x. 0) xs) ≡ true
level [] = refl
level (x ∷ []) = refl
level (x ∷ y ∷ ys) = level (y ∷ ys)

pub tiers_rise : (orchestrator : Orchestrator) (by : Option (List ℕ)) (nodes : List Node) → never_fall (target_tiers orchestrator by nodes) ≡ true
tiers_rise Plain by nodes = level nodes
tiers_rise (Subset count) by nodes = level nodes
tiers_rise RankTiered by nodes = rises (tiers_of by nodes) (tiers.never_fall by nodes)
tiers_rise (MaxPercentage percent) by nodes = level nodes

-- at least one node may be in work
some_bound : (threads : ℕ) (percent : Option ℕ) (total : ℕ) → 1 ≤ threads → 0 < bound_of threads percent total
some_bound threads None total some = omega (arith, some)
some_bound threads (Some percent) total some = omega (arith, some)

pub bounded : (job : Job) (nodes : List Node) → is_sound_job job ≡ true → 0 < target_bound job nodes
bounded job nodes h =
    let halves = and_parts _ _ h in
    let rest = and_parts _ _ halves.1 in
    let limits = and_parts _ (is_sound_orchestrator job.orchestrator) rest.1 in
    some_bound job.threads (percent_of job.orchestrator) (length nodes) (leb-true 1 job.threads (and_parts _ _ limits.0).0)

pub tiers_counted : (orchestrator : Orchestrator) (by : Option (List ℕ)) (nodes : List Node) → SoundNodes nodes
    → length (target_tiers orchestrator by nodes) < 2 ^ 32
tiers_counted orchestrator by nodes h = let many = tiers_many orchestrator by nodes in omega (arith, many, h.few)
