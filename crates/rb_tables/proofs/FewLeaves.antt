-- The executions of a legal log have few leaves, and words for each.
use Rattle.std.proofs.Common.{◌≡◌, ◌∙◌, ◌≤◌, ◌<◌, ◌*◌, ℕ, List, length, Option, Some, None, Ok, slice_get, ◌+◌, refl, ap, subst, sym, arith}
use Rattle.rb_causes.specs.declared.row.Row.{Row}
use Rattle.rb_acl.specs.declared.policy.Caller.{Caller}
use Rattle.rb_marks.specs.First.{first_startable}
use Rattle.rb_marks.specs.declared.mark.Leaf.{Leaf}
use Rattle.rb_plan.specs.Acceptance.{Acceptance}
use Rattle.rb_plan.specs.Verdict.{Asked, verdict_on}
use Rattle.rb_plan.specs.Worlds.{Found, job_found}
use Rattle.rb_plan.specs.declared.world.RunAsk.{RunAsk}
use Rattle.rb_plan.specs.declared.world.World.{World}
use Rattle.rb_log.specs.Executions.{Execution, executions}
use Rattle.rb_log.specs.LogState.{log_state, world_of}
use Rattle.rb_log.specs.Legal.{IsLegalLog}
use Rattle.rb_log.specs.Runs.{next_number}
use Rattle.rb_tables.specs.Leaves.{HasFewLeaves, HasLeaf}
use Rattle.rb_tables.specs.LogLaws.{LogLaws}

abbrev AreFew : Acceptance → Type 0
AreFew a = (length a.nodes * a.plan.slots ≤ 100000) × (length a.commands ≤ 1000)

few_by : LogLaws → (world : World) (caller : Caller) (ask : RunAsk) (draw : ℕ)
    (accepted : Acceptance)
    (found : Option Found) → job_found world ask.job ≡ found
    → verdict_on world caller ask draw found ≡ Ok accepted → AreFew accepted
few_by laws world caller ask draw accepted None is h = absurd (grind (arith, h))
few_by laws world caller ask draw accepted (Some found) is h =
    let a : Asked =
    record { world = world; caller = caller; ask = ask; draw = draw; found = found } in
    let ok = ap (verdict_on world caller ask draw) is ∙ h in
    (laws.few_leaves a accepted is ok, laws.few_commands a accepted is ok)

are_few : LogLaws → (past : List Row) (k : ℕ) (e : Execution)
    → slice_get (executions past) k ≡ Some e → AreFew e.accepted
are_few laws past k e get =
    let b = laws.verdicts past k e get in
    let s = log_state b.1 in
    few_by laws (world_of s) e.caller b.2.0 (s.draw + next_number s) e.accepted
    (job_found (world_of s) b.2.0.job) refl b.3.verdict

pub has_few : LogLaws → (past : List Row) (k : ℕ) (e : Execution) → IsLegalLog past
    → slice_get (executions past) k ≡ Some e → HasFewLeaves e
has_few laws past k e legal get =
    let few = are_few laws past k e get in record {
      few = few.0;
      most = few.1;
      commands = (laws.leaves past k e legal get).commands;
    }

-- a leaf that may start is one of them
pub has_leaf : LogLaws → (past : List Row) (k : ℕ) (e : Execution) (leaf : Leaf) → IsLegalLog past
    → slice_get (executions past) k ≡ Some e
    → first_startable e.accepted.plan e.marks ≡ Some leaf → HasLeaf e leaf
has_leaf laws past k e leaf legal get first = record {
  few = has_few laws past k e legal get;
  node = subst (λ n. leaf.node < n)
      (sym (laws.leaves past k e legal get).nodes)
      (laws.nodes e.accepted.plan e.marks leaf first);
  slot = laws.slots e.accepted.plan e.marks leaf
      (laws.plans past k e legal get) first;
}
