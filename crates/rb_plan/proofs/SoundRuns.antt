-- What is asked for in a sound world is sound.
use Rattle.std.proofs.Common.{◌≡◌, ◌⊎◌, inl, inr, ℕ, Bool, true, false, cond, find, bytes_eq, List, [], ◌∷◌, Option, Some, None, option_map, sym, ap, subst}
use Rattle.std.specs.List.{list_all}
use Rattle.std.specs.Option.{option_or}
use Rattle.std.proofs.lemmas.Bool.{and_parts}
use Rattle.std.proofs.lemmas.Option.{none-some}
use Rattle.rb_job.specs.Sound.{is_sound_job}
use Rattle.rb_plan.specs.Laws.{IsAsked, NodesDiffer}
use Rattle.rb_plan.specs.Sound.{is_sound_project, IsSoundWorld}
use Rattle.rb_plan.specs.Verdict.{Asked, may_run_on, targets_of}
use Rattle.rb_plan.specs.Worlds.{Found, found_in, found_among}
use Rattle.rb_plan.specs.declared.world.Project.{Project}
use Rattle.rb_plan.specs.declared.world.HeldJob.{HeldJob}
use Rattle.rb_plan.proofs.Accepting.{accepted_is}
use Rattle.rb_plan.proofs.PartNodes.{names}
use Rattle.rb_plan.proofs.Refusing.{same_in}
use Rattle.rb_plan.proofs.SoundNodes.{SoundNodes, sound_nodes, targets_sound}
use Rattle.rb_causes.specs.Texts.{differ}

either : {A : Type 0} (x y : Option A) (found : A) → option_or x y ≡ Some found → (x ≡ Some found) ⊎ (y ≡ Some found)
either None y found h = inr h
either (Some x) y found h = inl h

first_or_later : {A : Type 0} (b : Bool) (x found : A) (later : Option A) → cond b (Some x) later ≡ Some found → (x ≡ found) ⊎ (later ≡ Some found)
first_or_later true x found later h = inl (sym (same_in x found h))
first_or_later false x found later h = inr h

-- what holds of all holds of the one that is found
pub found_passes : {A : Type 0} (p test : A → Bool) (xs : List A) (found : A) → find test xs ≡ Some found → list_all p xs ≡ true → p found ≡ true
found_passes p test [] found h pass = absurd (none-some found h)
found_passes p test (x ∷ xs) found h pass =
    let both = and_parts (p x) (list_all p xs) pass in
    elim (first_or_later (test x) x found (find test xs) h) [
      | inl same ↦ subst (λ y. p y ≡ true) same both.0
      | inr later ↦ found_passes p test xs found later both.1
    ]

of_project : (q : Project) (o : Option HeldJob) (found : Found) → option_map (λ held. record { project = q; held = held }) o ≡ Some found
    → (found.project ≡ q) × (o ≡ Some found.held)
of_project q None found h = absurd (none-some found h)
of_project q (Some held) found h =
    let here : Found = record { project = q; held = held } in
    let same : here ≡ found = sym (same_in here found h) in
    (sym (ap (λ f. f.project) same), ap (λ f. Some f.held) same)

-- the project is one of the world's, and the job one of the project's
project_passes : (p : Project → Bool) (id : List ℕ) (qs : List Project) (found : Found) → found_among id qs ≡ Some found → list_all p qs ≡ true
    → (p found.project ≡ true) × (find (λ held. bytes_eq held.id id) found.project.jobs ≡ Some found.held)
project_passes p id [] found h pass = absurd (none-some found h)
project_passes p id (q ∷ qs) found h pass =
    let both = and_parts (p q) (list_all p qs) pass in
    elim (either (found_in id q) (found_among id qs) found h) [
      | inl here ↦ let of = of_project q (find (λ held. bytes_eq held.id id) q.jobs) found here in
          (subst (λ x. p x ≡ true) (sym of.0) both.0, subst (λ x. find (λ held. bytes_eq held.id id) x.jobs ≡ Some found.held) (sym of.0) of.1)
      | inr later ↦ project_passes p id qs found later both.1
    ]

pub project_sound : (a : Asked) → IsSoundWorld a.world → IsAsked a → is_sound_project a.found.project ≡ true
project_sound a sound asked = (project_passes is_sound_project a.ask.job a.world.projects a.found asked sound).0

pub job_sound : (a : Asked) → IsSoundWorld a.world → IsAsked a → is_sound_job a.found.held.job ≡ true
job_sound a sound asked =
    let here = project_passes is_sound_project a.ask.job a.world.projects a.found asked sound in
    found_passes (λ held. is_sound_job held.job) (λ held. bytes_eq held.id a.ask.job) a.found.project.jobs a.found.held here.1
    (and_parts _ _ (and_parts _ _ here.0).1).1

-- the nodes of a run are sound, few, and differ
pub run_sound : (a : Asked) → IsSoundWorld a.world → IsAsked a → SoundNodes (targets_of a)
run_sound a sound asked =
    targets_sound (may_run_on a) a.ask a.found.held.job a.draw a.found.project.inventory.nodes
    (sound_nodes a.found.project (project_sound a sound asked))

pub nodes_differ : NodesDiffer
nodes_differ a accepted sound asked ok =
    subst (λ x. differ (names x.nodes) ≡ true) (sym (accepted_is a accepted asked ok).1) (run_sound a sound asked).apart
