-- One job more.
use Rattle.std.specs.Option.{option_to_list}
use Rattle.std.proofs.Common.{◌≡◌, ℕ, List, [], ◌∷◌, ◌++◌, map, Option, Some, None, refl, ap, sym, subst, ◌∙◌}
use Rattle.std.specs.List.{cons_option}
use Rattle.std.proofs.lemmas.List.{map_push}
use Rattle.std.proofs.lemmas.List.Elements.{filter_map-append}
use Rattle.rb_causes.specs.SeenTexts.{HasSeen}
use Rattle.rb_causes.specs.declared.seen_texts.SeenTexts.{SeenTexts}
use Rattle.rb_job.specs.Jobs.{ids_of, job_path}
use Rattle.rb_job.specs.JobsView.{HasSeenJobs}
use Rattle.rb_job.specs.declared.job.Job.{Job}

one_id : (id : Option (List ℕ)) → cons_option id [] ≡ option_to_list id
one_id None = refl
one_id (Some id) = refl

pub ids_push : (jobs : List Job) (job : Job) → ids_of (jobs ++ job ∷ []) ≡ ids_of jobs ++ option_to_list job.id
ids_push jobs job = filter_map-append (λ (j : Job). j.id) jobs (job ∷ []) ∙ ap (λ more. ids_of jobs ++ more) (one_id job.id)

-- the sets hold what they held, and what one job more gave them
pub seen_more : (ids ids' paths paths' : SeenTexts) (jobs : List Job) (job : Job) (path : List ℕ) →
    ((texts : List (List ℕ)) → HasSeen ids texts → HasSeen ids' (texts ++ option_to_list job.id)) →
    ((texts : List (List ℕ)) → HasSeen paths texts → HasSeen paths' (texts ++ path ∷ [])) →
    path ≡ job_path job → HasSeenJobs (record { ids = ids; paths = paths }) jobs → HasSeenJobs (record { ids = ids'; paths = paths' }) (jobs ++ job ∷ [])
seen_more ids ids' paths paths' jobs job path noted put is seen = record {
  ids = subst (HasSeen ids') (sym (ids_push jobs job)) (noted (ids_of jobs) seen.ids);
  paths = subst (HasSeen paths') (ap (λ p. map job_path jobs ++ p ∷ []) is ∙ sym (map_push job_path jobs job)) (put (map job_path jobs) seen.paths);
}
