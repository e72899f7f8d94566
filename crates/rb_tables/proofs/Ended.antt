-- What is kept of an execution that has ended, and that nothing of it starts.
use Rattle.std.specs.List.{list_any}
use Rattle.std.proofs.Common.{◌≡◌, ◌∙◌, ◌<◌, ◌≤◌, ◌+◌, ◌*◌, ℕ, zero, suc, List, [], ◌∷◌, ◌++◌, length, map, get_or, Bool, true, false, ◌⊎◌, inl, inr, Option, Some, None, ap, sym, subst, refl, arith, length-append, is_some}
use Rattle.std.proofs.Math.Numerals.{add-one}
use Rattle.std.proofs.lemmas.List.{length-map, get_or_append_left, get_or-append-add, get_or-map, map-append}
use Rattle.std.proofs.lemmas.Nat.{mul-add-lt, mul-le}
use Rattle.std.proofs.lemmas.Bool.{or_right}
use Rattle.rb_marks.specs.First.{first_startable, status_of, is_lost, open_begin}
use Rattle.rb_marks.specs.FlowState.{FlowState}
use Rattle.rb_marks.specs.Units.{Outline, outline, step_at}
use Rattle.rb_marks.specs.declared.mark.Leaf.{Leaf}
use Rattle.rb_marks.specs.declared.mark.Mark.{Mark}
use Rattle.rb_marks.specs.declared.mark.StepResult.{StepResult}
use Rattle.rb_marks.proofs.Waits.{first_goes_on}
use Rattle.rb_log.specs.Executions.{Execution, execution_status, is_running, Execution as LoggedExecution}
use Rattle.rb_log.specs.Sums.{numbers_below}
use Rattle.rb_log.proofs.Numbers.{below_length, below_at}
use Rattle.rb_log.proofs.RoomLaws.{status_runs}
use Rattle.rb_tables.specs.Progress.{results_below, step_results, HasEnded, IsFlowOf}
use Rattle.rb_tables.specs.declared.progress.Results.{Results}
use Rattle.rb_tables.proofs.OpenStatus.{not_lost}

-- where a leaf may start it runs
pub starts_run : (e : LoggedExecution) (leaf : Leaf)
    → first_startable e.accepted.plan e.marks ≡ Some leaf → is_running e ≡ true
starts_run e leaf first =
    status_runs (list_any is_lost e.marks) _ _
    (not_lost e.marks (first_goes_on e.accepted.plan e.marks leaf first))
    (or_right (list_any (open_begin e.marks) e.marks)
    (is_some (first_startable e.accepted.plan e.marks)) (ap is_some first))

-- ---- numbers

either_low : (k n : ℕ) → k < suc n → (k < n) ⊎ (k ≡ n)
either_low k n low = grind (arith, low)

-- ---- the results of a run

-- one step more
pub one_more : (f : ℕ → StepResult) (n : ℕ)
    → map f (numbers_below (n + 1)) ≡ map f (numbers_below n) ++ f n ∷ []
one_more f n =
    ap (λ k. map f (numbers_below k)) (add-one n) ∙ map-append f (numbers_below n) (n ∷ [])

-- one node more
pub one_node_more : (p : Outline) (marks : List Mark) (n : ℕ)
    → results_below p marks (n + 1) ≡ results_below p marks n ++ step_results p marks n
one_node_more p marks n = ap (results_below p marks) (add-one n)

-- behind so many steps more
pub steps_so_far : (old : List StepResult) (f : ℕ → StepResult) (n : ℕ)
    → length (old ++ map f (numbers_below n)) ≡ length old + n
steps_so_far old f n =
    length-append old (map f (numbers_below n))
    ∙ ap (λ k. length old + k) (length-map (numbers_below n) f ∙ below_length n)

pub steps_many : (p : Outline) (marks : List Mark) (node : ℕ)
    → length (step_results p marks node) ≡ length p.steps
steps_many p marks node =
    length-map (numbers_below (length p.steps)) (step_at p marks node)
    ∙ below_length (length p.steps)

pub results_many : (p : Outline) (marks : List Mark) (n : ℕ)
    → length (results_below p marks n) ≡ n * length p.steps
results_many p marks zero = omega arith
results_many p marks (suc n) = omega (
  arith,
  length-append (results_below p marks n) (step_results p marks n),
  steps_many p marks n,
  results_many p marks n,
)

step_result_at : (p : Outline) (marks : List Mark) (node step : ℕ) (d : StepResult)
    → step < length p.steps
    → get_or (step_results p marks node) step d ≡ step_at p marks node step
step_result_at p marks node step d low =
    get_or-map (step_at p marks node) (numbers_below (length p.steps)) step 0 d
    (subst (λ m. step < m) (sym (below_length (length p.steps))) low)
    ∙ ap (step_at p marks node) (below_at (length p.steps) step 0 low)

result_by : (p : Outline) (marks : List Mark) (n node step : ℕ) (d : StepResult)
    → step < length p.steps → (node < n) ⊎ (node ≡ n)
    → (node < n → get_or (results_below p marks n) (node * length p.steps + step) d
    ≡ step_at p marks node step)
    → get_or (results_below p marks n ++ step_results p marks n) (node * length p.steps + step) d
    ≡ step_at p marks node step
result_by p marks n node step d low (inl before) h =
    get_or_append_left (results_below p marks n) (step_results p marks n) d
    (node * length p.steps + step)
    (subst (λ m. node * length p.steps + step < m) (sym (results_many p marks n))
    (in_row (mul-add-lt node (length p.steps) step n before low)))
    ∙ h before
  where
    in_row : node * length p.steps + step < length p.steps * n
        → node * length p.steps + step < n * length p.steps
    in_row h = omega (arith, h)
result_by p marks n node step d low (inr is) h =
    ap (λ m. get_or (results_below p marks n ++ step_results p marks n) (m + step) d)
    (ap (λ m. m * length p.steps) is ∙ sym (results_many p marks n))
    ∙ get_or-append-add (results_below p marks n) (step_results p marks n) step d
    ∙ step_result_at p marks n step d low
    ∙ ap (λ m. step_at p marks m step) (sym is)

-- each stands at the place of its node and step
pub result_at : (p : Outline) (marks : List Mark) (n node step : ℕ) (d : StepResult) → node < n
    → step < length p.steps
    → get_or (results_below p marks n) (node * length p.steps + step) d
    ≡ step_at p marks node step
result_at p marks zero node step d here low = absurd (omega (arith, here))
result_at p marks (suc n) node step d here low =
    result_by p marks n node step d low (either_low node n here)
    (λ before. result_at p marks n node step d before low)

pub row_fits : (node nodes steps : ℕ) → node < nodes → node * steps + steps ≤ nodes * steps
row_fits node nodes steps low =
    let more : (node + 1) * steps ≤ nodes * steps =
    mul-le (node + 1) steps nodes steps (omega (arith, low)) (omega arith) in
    omega (arith, more)

-- ---- the flow of an execution

pub flow_status : (flow : FlowState) (l : Execution) → IsFlowOf flow l
    → status_of (outline flow.plan) flow.marks ≡ execution_status l
flow_status flow l of =
    ap (λ p. status_of p flow.marks) of.plan ∙ ap (status_of l.accepted.plan) of.marks

-- its results on all nodes
pub ended_of : (flow : FlowState) (l : Execution) (nodes : ℕ) (r : Results) → IsFlowOf flow l
    → is_running l ≡ false → nodes ≡ length (outline flow.plan).tiers
    → r.status ≡ status_of (outline flow.plan) flow.marks
    → r.steps ≡ length (outline flow.plan).steps
    → r.results.items ≡ results_below (outline flow.plan) flow.marks nodes → HasEnded r l
ended_of flow l nodes r of ended many status steps results = record {
  ended = ended;
  status = status ∙ flow_status flow l of;
  steps = steps ∙ ap (λ p. length p.steps) of.plan;
  results = results
      ∙ ap (λ p. results_below p flow.marks nodes) of.plan
      ∙ ap (λ ms. results_below l.accepted.plan ms nodes) of.marks
      ∙ ap (results_below l.accepted.plan l.marks) (many ∙ ap (λ p. length p.tiers) of.plan);
}

-- ---- nothing starts

none_if : (o : Option Leaf) (b : Bool) → b ≡ false → ((leaf : Leaf) → o ≡ Some leaf → b ≡ true)
    → None ≡ o
none_if None b ended f = refl
none_if (Some leaf) b ended f =
    absurd (let wrong : false ≡ true = sym ended ∙ f leaf refl in grind (arith, wrong))

pub none_starts : (l : Execution) → is_running l ≡ false
    → None ≡ first_startable l.accepted.plan l.marks
none_starts l ended =
    none_if (first_startable l.accepted.plan l.marks) (is_running l) ended
    (λ leaf first. starts_run l leaf first)
