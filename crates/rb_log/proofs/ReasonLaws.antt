-- A refused run is told with a reason exactly where the refusal is made by a decision.
use Rattle.std.proofs.Common.{◌≡◌, ◌∙◌, ◌+◌, ℕ, List, bytes_eq, is_some, Option, Some, None, option_map, Result, Ok, Err, ap, sym, refl, arith}
use Rattle.std.specs.Option.{option_and_then}
use Rattle.std.proofs.lemmas.Option.{slice_get-get_or}
use Rattle.rb_causes.proofs.Texts.{same_text}
use Rattle.rb_acl.specs.declared.policy.Caller.{Caller}
use Rattle.rb_acl.specs.declared.policy.Decision.{Decision}
use Rattle.rb_node.specs.declared.node.Node.{Node}
use Rattle.rb_plan.specs.Acceptance.{Acceptance}
use Rattle.rb_plan.specs.Laws.{RefusalHolds}
use Rattle.rb_plan.specs.Verdict.{Asked, verdict_on}
use Rattle.rb_plan.specs.Worlds.{Found, job_found}
use Rattle.rb_plan.specs.declared.refusal.Refusal.{Refusal}
use Rattle.rb_plan.specs.declared.refusal.Refusal.TheVariants as refusal
use Rattle.rb_plan.specs.declared.world.RunAsk.{RunAsk}
use Rattle.rb_log.specs.LogState.{LogState, world_of}
use Rattle.rb_log.specs.Moves.{job_thing}
use Rattle.rb_log.specs.Runs.{next_number, node_named, node_reason, refusal_reason, run_reason, verdict_at}
use Rattle.rb_log.specs.Laws.{RefusalsHaveReasons, holds_decision}
use Rattle.rb_log.proofs.ReportLaws.{find_there}

-- what a run is refused by
abbrev refusal_or : Refusal → Result Acceptance Refusal → Refusal
refusal_or other (Ok accepted) = other
refusal_or other (Err r) = r

none_is_no_job : (s : LogState) (caller : Caller) (ask : RunAsk) (r : Refusal)
    → verdict_on (world_of s) caller ask (s.draw + next_number s) None ≡ Err r
    → r ≡ refusal.NoJob
none_is_no_job s caller ask r h = sym (ap (refusal_or r) h)

module _ (law : RefusalHolds) (s : LogState) (caller : Caller) (ask : RunAsk) where
  abbrev draw : ℕ
  draw = s.draw + next_number s

  abbrev Told : Refusal → Type 0
  Told r = is_some (refusal_reason s caller ask r) ≡ holds_decision r

  -- of a job that is held
  job_told : (decision : Decision) (found : Option Found) → job_found (world_of s) ask.job ≡ found
      → verdict_on (world_of s) caller ask draw found ≡ Err (refusal.JobDenied decision)
      → Told (refusal.JobDenied decision)
  job_told decision None is h =
      let wrong = none_is_no_job s caller ask (refusal.JobDenied decision) h in
      absurd (grind (arith, wrong))
  job_told decision (Some f) is h =
      ap (λ o. is_some
      (option_map (λ found. run_reason s decision (job_thing found.held.job)) o)) is

  -- and of a node of its project
  node_told : (name : List ℕ) (decision : Decision) (found : Option Found)
      → job_found (world_of s) ask.job ≡ found
      → verdict_on (world_of s) caller ask draw found ≡ Err (refusal.NoNodeAllowed name decision)
      → Told (refusal.NoNodeAllowed name decision)
  node_told name decision None is h =
      let wrong = none_is_no_job s caller ask (refusal.NoNodeAllowed name decision) h in
      absurd (grind (arith, wrong))
  node_told name decision (Some f) is h =
      let a : Asked = record {
        world = world_of s;
        caller = caller;
        ask = ask;
        draw = draw;
        found = f;
      } in
      let rule = law a (refusal.NoNodeAllowed name decision) is
      (ap (verdict_on (world_of s) caller ask draw) is ∙ h) in
      let node : Node = rule.0.0 in
      let nodes : List Node = f.project.inventory.nodes in
      let has = rule.0.1.0 in
      let there = find_there (λ x. bytes_eq x.name name) nodes has.0 node
      (slice_get-get_or nodes has.0 node has.1 ∙ ap Some has.2)
      (same_text node.name name (sym rule.0.2)) in
      ap (λ o. is_some (option_and_then (λ found. option_map
      (node_reason s caller decision found) (node_named name found)) o)) is
      ∙ ap (λ o. is_some (option_map (node_reason s caller decision f) o)) there.1

  told : (r : Refusal) → verdict_at s caller ask ≡ Err r → Told r
  told (refusal.JobDenied decision) h = job_told decision (job_found (world_of s) ask.job) refl h
  told (refusal.ReferenceDenied path decision) h = refl
  told (refusal.NoNodeAllowed name decision) h =
      node_told name decision (job_found (world_of s) ask.job) refl h
  told refusal.NoJob h = refl
  told (refusal.BadReference path cause) h = refl
  told refusal.Disabled h = refl
  told (refusal.AlreadyRunning execution) h = refl
  told (refusal.BadOption path fault) h = refl
  told refusal.NoNodeSelected h = refl
  told (refusal.TooLarge leaves) h = refl

pub refusals_have_reasons : RefusalHolds → RefusalsHaveReasons
refusals_have_reasons law s caller ask r h = told law s caller ask r h
