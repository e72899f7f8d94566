-- A drill's plan is sound.
use Rattle.std.proofs.Common.{◌≡◌, ◌<◌, ℕ, suc, ◌+◌, ◌^◌, true, List, [], ◌∷◌, length, refl, ap, ◌∙◌, arith, Some, lit<, eqb}
use Rattle.std.proofs.lemmas.Bool.Decides.{nat_tests}
use Rattle.rb_marks.specs.Sound.{IsSound, never_fall, all_filled, numbered}
use Rattle.rb_marks.specs.FlowState.{FlowState}
use Rattle.rb_marks.specs.Units.{Outline, outline}
use Rattle.rb_marks.specs.View.{branches_of}
use Rattle.rb_marks.specs.declared.plan.Plan.{Plan}
use Rattle.rb_top.specs.Drill.{drill_plan, zeros, branches_from}
use Rattle.rb_top.specs.declared.script.DrillJob.{DrillJob}

length-zeros : (nodes : List (List ℕ)) → length (zeros nodes) ≡ length nodes
length-zeros [] = refl
length-zeros (x ∷ xs) = ap suc (length-zeros xs)

length-branches_from : (n : ℕ) (steps : List (List (List ℕ))) → length (branches_from n steps) ≡ length steps
length-branches_from n [] = refl
length-branches_from n (x ∷ xs) = ap suc (length-branches_from (n + 1) xs)

zeros_never_fall : (nodes : List (List ℕ)) → never_fall (zeros nodes) ≡ true
zeros_never_fall [] = refl
zeros_never_fall (x ∷ []) = refl
zeros_never_fall (x ∷ y ∷ ys) = zeros_never_fall (y ∷ ys)

commands_filled : (n : ℕ) (steps : List (List (List ℕ))) → all_filled (branches_of (branches_from n steps)) ≡ true
commands_filled n [] = refl
commands_filled n (x ∷ xs) = commands_filled (n + 1) xs

commands_numbered : (n : ℕ) (steps : List (List (List ℕ))) → numbered (branches_of (branches_from n steps)) n ≡ Some (n + length steps)
commands_numbered n [] = ap Some (omega arith)
commands_numbered n (x ∷ xs) =
    let same : eqb n n ≡ true = grind (arith, nat_tests) in
    rw same (commands_numbered (n + 1) xs ∙ ap Some (omega arith))

pub plan_is_sound : (nodes : List (List ℕ)) (job : DrillJob) → 0 < length job.steps → length nodes < 2 ^ 32 → length job.steps < 2 ^ 32 → IsSound (drill_plan nodes job)
plan_is_sound nodes job some few_nodes few_steps = record {
  nodes = rw length-zeros few_nodes;
  steps = rw length-branches_from few_steps;
  bound = lit< tt;
  tiers = zeros_never_fall nodes;
  has_step = rw length-branches_from some;
  filled = commands_filled 0 job.steps;
  slots = commands_numbered 0 job.steps ∙ ap Some (omega arith);
}

-- a flow keeps the plan that it was opened with
pub same_plan : {o : Outline} (plan : Plan) (opened played : FlowState) → outline plan ≡ o → opened.plan ≡ plan → played.plan ≡ opened.plan → outline played.plan ≡ o
same_plan plan opened played same first kept = ap outline (kept ∙ first) ∙ same
