-- An execution as it begins has no marks.
use Rattle.std.proofs.Common.{◌≡◌, ◌∙◌, ◌+◌, ℕ, zero, suc, ℤ, List, [], ◌∷◌, Option, Some, None, Result, Ok, Err, slice_get, unwrap_or, ap, sym, refl, arith}
use Rattle.rb_causes.specs.declared.row.Row.{Row}
use Rattle.rb_acl.specs.declared.policy.Caller.{Caller}
use Rattle.rb_plan.specs.Acceptance.{Acceptance}
use Rattle.rb_plan.specs.Verdict.{verdict_of}
use Rattle.rb_plan.specs.declared.refusal.Refusal.{Refusal}
use Rattle.rb_plan.specs.declared.world.World.{World}
use Rattle.rb_log.specs.Rows.{row_caller}
use Rattle.rb_log.specs.Asks.{DueAsk}
use Rattle.rb_log.specs.Executions.{Execution, asked, started, started_if}

abbrev pub AreFresh : List Execution → Type 0
AreFresh es = (j : ℕ) (e : Execution) → slice_get es j ≡ Some e → e.marks ≡ []

none_fresh : AreFresh []
none_fresh j e h = absurd (grind (arith, h))

one_fresh : (x : Execution) → x.marks ≡ [] → AreFresh (x ∷ [])
one_fresh x is zero e h = ap (λ o. (unwrap_or o x).marks) (sym h) ∙ is
one_fresh x is (suc j) e h = absurd (grind (arith, h))

started_fresh : (world : World) (n : ℕ) (at : ℤ) (caller : Caller) (r : Result Acceptance Refusal)
    → AreFresh (started_if world n at caller r)
started_fresh world n at caller (Ok accepted) =
    one_fresh (started world n at caller accepted) refl
started_fresh world n at caller (Err refusal) = none_fresh

pub asked_fresh : (world : World) (n draw : ℕ) (row : Row) (ask : Option DueAsk)
    → AreFresh (asked world n draw row ask)
asked_fresh world n draw row None = none_fresh
asked_fresh world n draw row (Some ask) =
    started_fresh world n row.at (row_caller row)
    (verdict_of world (row_caller row) ask.0 (draw + n))
