-- While the policies are those of its acceptance, the caller of an execution may run its nodes.
use Rattle.std.proofs.Common.{◌≡◌, ◌∙◌, ◌≤◌, ◌+◌, ℕ, suc, List, [], ◌∷◌, ◌++◌, Bool, true, false, Contains, Option, Some, None, Ok, ap, sym, subst, refl, arith, if◌then◌else◌}
use Rattle.rb_causes.specs.declared.row.Row.{Row}
use Rattle.rb_acl.specs.Deciding.{is_allowed}
use Rattle.rb_acl.specs.declared.policy.Caller.{Caller}
use Rattle.rb_acl.specs.declared.policy.Context.TheVariants.{Project}
use Rattle.rb_node.specs.declared.node.Node.{Node}
use Rattle.rb_plan.specs.Acceptance.{Acceptance}
use Rattle.rb_plan.specs.Access.{node_run}
use Rattle.rb_plan.specs.Laws.{NodesMayBeRun, RunIsAccepted}
use Rattle.rb_plan.specs.Verdict.{Asked, verdict_on}
use Rattle.rb_plan.specs.Worlds.{Found, job_found}
use Rattle.rb_plan.specs.declared.world.RunAsk.{RunAsk}
use Rattle.rb_plan.proofs.Accepting.{accepted_is}
use Rattle.rb_log.specs.Rows.{is_policy}
use Rattle.rb_log.specs.World.{Latest, count_of_kind, latest, policies_of_files, put_latest}
use Rattle.rb_log.specs.LogState.{LogState, log_state, policies_in_force, world_of}
use Rattle.rb_log.specs.Runs.{next_number}
use Rattle.rb_log.specs.Withdrawals.{AcceptedMayBeRun}
use Rattle.rb_log.proofs.AcceptLaws.{executions_are_verdicts}

-- ---- while none is imported, the policies in force stay

abbrev policies_in : List Row → ℕ
policies_in rows = count_of_kind is_policy rows

abbrev files_in : List Row → List Latest
files_in rows = latest is_policy rows

with_one : (b : Bool) (n m : ℕ) → n ≤ m → n ≤ (if b then suc m else m)
with_one true n m h = omega (arith, h)
with_one false n m h = h

never_fewer : (newer older : List Row) → policies_in older ≤ policies_in (newer ++ older)
never_fewer [] older = omega arith
never_fewer (row ∷ newer) older =
    with_one (is_policy row) (policies_in older) (policies_in (newer ++ older))
    (never_fewer newer older)

stay_by : (b : Bool) (row : Row) (newer older : List Row)
    → (if b then suc (policies_in (newer ++ older)) else policies_in (newer ++ older))
    ≡ policies_in older
    → (policies_in (newer ++ older) ≡ policies_in older
    → files_in (newer ++ older) ≡ files_in older)
    → (if b then put_latest row (files_in (newer ++ older)) else files_in (newer ++ older))
    ≡ files_in older
stay_by true row newer older h stays =
    let fewer = never_fewer newer older in absurd (omega (arith, h, fewer))
stay_by false row newer older h stays = stays h

policies_stay : (newer older : List Row) → policies_in (newer ++ older) ≡ policies_in older
    → files_in (newer ++ older) ≡ files_in older
policies_stay [] older h = refl
policies_stay (row ∷ newer) older h =
    stay_by (is_policy row) row newer older h (policies_stay newer older)

-- behind one more row too
stay_behind : (newer : List Row) (row : Row) (older : List Row)
    → policies_in (newer ++ row ∷ older) ≡ policies_in older
    → files_in (newer ++ row ∷ older) ≡ files_in older
stay_behind newer row older h =
    let later = never_fewer newer (row ∷ older) in
    let one = never_fewer (row ∷ []) older in
    policies_stay newer (row ∷ older) (omega (arith, h, later, one))
    ∙ policies_stay (row ∷ []) older (omega (arith, h, later, one))

-- ---- by the policies of the acceptance

module _ (runs : NodesMayBeRun) (s : LogState) (caller : Caller) (ask : RunAsk)
    (accepted : Acceptance) (node : Node) where
  let_by : (o : Option Found) → job_found (world_of s) ask.job ≡ o
      → verdict_on (world_of s) caller ask (s.draw + next_number s) o ≡ Ok accepted
      → Contains accepted.nodes node
      → is_allowed (node_run (record {
        policies = policies_in_force s;
        caller = caller;
        here = Project accepted.project;
      }) node) ≡ true
  let_by None found h there = absurd (grind (arith, h))
  let_by (Some f) found h there =
      let a : Asked = record {
        world = world_of s;
        caller = caller;
        ask = ask;
        draw = s.draw + next_number s;
        found = f;
      } in
      let ok : RunIsAccepted a accepted =
      ap (λ o. verdict_on (world_of s) caller ask (s.draw + next_number s) o) found ∙ h in
      subst (λ project. is_allowed (node_run (record {
        policies = policies_in_force s;
        caller = caller;
        here = Project project;
      }) node) ≡ true)
      (sym (ap (λ (z : Acceptance). z.project) (accepted_is a accepted found ok).1))
      (runs a accepted node found ok there).1

module _ (runs : NodesMayBeRun) where
  pub accepted_may_be_run : AcceptedMayBeRun
  accepted_may_be_run past k e node get same there =
      let b = executions_are_verdicts past k e get in
      let is = b.3 in
      let files : files_in past ≡ files_in b.1 =
      ap files_in is.log
      ∙ stay_behind is.newer b.0 b.1
      (sym (ap policies_in is.log) ∙ sym same ∙ is.policies) in
      subst (λ kept. is_allowed (node_run (record {
        policies = policies_of_files kept;
        caller = e.caller;
        here = Project e.accepted.project;
      }) node) ≡ true) (sym files)
      (let_by runs (log_state b.1) e.caller b.2.0 e.accepted node
      (job_found (world_of (log_state b.1)) b.2.0.job) refl is.verdict there)
