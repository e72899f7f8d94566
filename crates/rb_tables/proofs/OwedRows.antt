-- What is owed by executions.
use Rattle.std.proofs.Common.{◌≡◌, ◌∙◌, ◌≤◌, ◌<◌, ◌+◌, ◌*◌, ◌-◌, ◌^◌, ℕ, ℤ, zero, suc, map, length-append, Option, None, Result, Ok, Err, List, [], ◌∷◌, ◌++◌, length, filter, cond, sum_by, Bool, true, false, Some, slice_get, slice_set, ap, sym, refl, arith, if◌then◌else◌}
use Rattle.std.proofs.lemmas.List.{length-map}
use Rattle.std.proofs.lemmas.List.Sums.{sum_by-cons}
use Rattle.rb_causes.specs.declared.row.Row.{Row}
use Rattle.rb_causes.proofs.Lists.{some_is}
use Rattle.rb_acl.specs.declared.policy.Caller.{Caller}
use Rattle.rb_plan.specs.Acceptance.{Acceptance}
use Rattle.rb_plan.specs.Verdict.{verdict_of}
use Rattle.rb_plan.specs.declared.refusal.Refusal.{Refusal}
use Rattle.rb_plan.specs.declared.world.World.{World}
use Rattle.rb_log.specs.Asks.{DueAsk, ask_of}
use Rattle.rb_log.specs.Executions.{Execution, asked, draw_of, executions, is_running, marked, started_if, world_before}
use Rattle.rb_log.specs.Rows.{is_accept, row_caller}
use Rattle.rb_log.specs.Legal.{IsLegalLog}
use Rattle.rb_log.specs.Sums.{owed_by}
use Rattle.rb_tables.specs.Leaves.{HasFewLeaves}
use Rattle.rb_tables.specs.LogLaws.{LogLaws}
use Rattle.rb_tables.specs.Running.{owed_if_running}
use Rattle.rb_tables.specs.Tables.{owed_among}
use Rattle.rb_tables.proofs.FewLeaves.{has_few}

owed_if : (b : Bool) (e : Execution) (es : List Execution)
    → sum_by owed_by (cond b (e ∷ es) es) ≡ (if b then owed_by e else 0) + sum_by owed_by es
owed_if true e es = sum_by-cons owed_by e es
owed_if false e es = omega arith

-- by the first and by the rest
pub owed_cons : (e : Execution) (es : List Execution)
    → owed_among (e ∷ es) ≡ owed_if_running e + owed_among es
owed_cons e es = owed_if (is_running e) e (filter is_running es)

-- with another one at a place
pub owed_set : (es : List Execution) (k : ℕ) (e y : Execution) → slice_get es k ≡ Some e
    → owed_among (slice_set es k y) + owed_if_running e ≡ owed_among es + owed_if_running y
owed_set [] k e y get = absurd (grind (arith, get))
owed_set (x ∷ es) zero e y get =
    let same = ap owed_if_running (some_is x e get) in
    omega (arith, owed_cons y es, owed_cons x es, same)
owed_set (x ∷ es) (suc k) e y get =
    omega (
      arith,
      owed_cons x (slice_set es k y),
      owed_cons x es,
      owed_set es k e y get,
    )

-- with one behind them
pub owed_behind : (es : List Execution) (y : Execution)
    → owed_among (es ++ y ∷ []) ≡ owed_among es + owed_if_running y
owed_behind [] y = omega (arith, owed_cons y [])
owed_behind (x ∷ es) y =
    omega (arith, owed_cons x (es ++ y ∷ []), owed_cons x es, owed_behind es y)

-- one of them
pub owed_part : (es : List Execution) (k : ℕ) (e : Execution) → slice_get es k ≡ Some e
    → owed_if_running e ≤ owed_among es
owed_part [] k e get = absurd (grind (arith, get))
owed_part (x ∷ es) zero e get =
    let same = ap owed_if_running (some_is x e get) in omega (arith, owed_cons x es, same)
owed_part (x ∷ es) (suc k) e get = omega (arith, owed_cons x es, owed_part es k e get)

-- ---- it is not much

part_by : (b : Bool) (e : Execution) → owed_by e ≤ 200001
    → (if b then owed_by e else 0) ≤ 200001
part_by true e h = h
part_by false e h = omega arith

pub part_small : (e : Execution) → HasFewLeaves e → owed_if_running e ≤ 200001
part_small e few =
    let most : owed_by e ≤ 200001 = few_rows e few in part_by (is_running e) e most
  where
    few_rows : (e : Execution) → HasFewLeaves e → owed_by e ≤ 200001
    few_rows e few =
        let count = few.few in
        omega (arith, count, less (2 * (length e.accepted.nodes * e.accepted.plan.slots) + 1) (length e.marks))
      where
        less : (n m : ℕ) → n - m ≤ n
        less n m = omega arith

abbrev AreSmall : List Execution → Type 0
AreSmall es = (k : ℕ) (e : Execution) → slice_get es k ≡ Some e → owed_if_running e ≤ 200001

sum_small : (es : List Execution) → AreSmall es → owed_among es ≤ 200001 * length es
sum_small [] h = omega arith
sum_small (x ∷ es) h =
    omega (
      arith,
      owed_cons x es,
      h zero x refl,
      sum_small es (λ k e get. h (suc k) e get),
    )

-- that of a legal log, for its executions
pub owed_few : LogLaws → (past : List Row) → IsLegalLog past
    → owed_among (executions past) ≤ 200001 * length (executions past)
owed_few laws past legal =
    sum_small (executions past)
    (λ k e get. part_small e (has_few laws past k e legal get))

-- ---- no more executions than rows

one_most : (world : World) (n : ℕ) (at : ℤ) (caller : Caller) (r : Result Acceptance Refusal)
    → length (started_if world n at caller r) ≤ 1
one_most world n at caller (Ok accepted) = omega arith
one_most world n at caller (Err refusal) = omega arith

asked_most : (world : World) (n draw : ℕ) (row : Row) (ask : Option DueAsk)
    → length (asked world n draw row ask) ≤ 1
asked_most world n draw row None = omega arith
asked_most world n draw row (Some ask) =
    one_most world n row.at (row_caller row)
    (verdict_of world (row_caller row) ask.0 (draw + n))

more_by : (b : Bool) (world : World) (draw : ℕ) (row : Row) (es : List Execution) (m : ℕ)
    → length es ≤ m
    → length (if b then es ++ asked world (length es + 1) draw row (ask_of row.name row.body)
    else map (marked world.policies row) es) ≤ suc m
more_by true world draw row es m h =
    let new = asked world (length es + 1) draw row (ask_of row.name row.body) in
    omega (
      arith,
      h,
      length-append es new,
      asked_most world (length es + 1) draw row (ask_of row.name row.body),
    )
more_by false world draw row es m h =
    omega (arith, h, length-map es (marked world.policies row))

pub executions_few : (past : List Row) → length (executions past) ≤ length past
executions_few [] = omega arith
executions_few (row ∷ past) =
    more_by (is_accept row) (world_before past (executions past)) (draw_of past) row
    (executions past) (length past) (executions_few past)

-- so what is owed is little
pub owed_small : LogLaws → (past : List Row) → IsLegalLog past → length past < 2 ^ 40
    → owed_among (executions past) < 2 ^ 60
owed_small laws past legal few =
    omega (arith, owed_few laws past legal, executions_few past, few)
