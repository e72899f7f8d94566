-- A row behind numbered ones stands at the end.
use Rattle.std.proofs.Common.{◌≡◌, ◌<◌, ◌+◌, ℕ, pos, List, [], ◌∷◌, ◌++◌, length, Less, ap, ◌∙◌, arith}
use Rattle.std.proofs.lemmas.Int.{ints}
use Rattle.std.proofs.lemmas.Bool.Decides.{nat_tests}
use Rattle.std.specs.Ordering.{int_cmp}
use Rattle.sqlite.specs.declared.types.Value.TheVariants.{Int}
use Rattle.sqlite.specs.Order.{value_cmp}
use Rattle.sqlite.specs.Tree.{put_row}
use Rattle.sqlite_value.proofs.OrderLemmas.{value_cmp-Int}
use Rattle.rb_causes.specs.declared.row.Row.{Row}
use Rattle.rb_keep.specs.Tables.{stored, stored_from}

lesser : (m n : ℕ) → m < n → int_cmp (pos m) (pos n) ≡ Less
lesser m n less = grind (arith, ints, nat_tests, less)

pub put_behind : (from : ℕ) (log : List Row) (row : Row) → put_row (stored (from + length log) row) (stored_from from log) ≡ stored_from from (log ++ row ∷ [])
put_behind from [] row = ap (λ n. stored n row ∷ []) (omega arith)
put_behind from (first ∷ log) row =
    let less = value_cmp-Int (pos from) (pos (from + length (first ∷ log))) ∙ lesser from (from + length (first ∷ log)) (omega arith) in
    let same : from + length (first ∷ log) ≡ (from + 1) + length log = omega arith in
    let step : put_row (stored (from + length (first ∷ log)) row) (stored_from from (first ∷ log)) ≡ stored from first ∷ put_row (stored (from + length (first ∷ log)) row) (stored_from (from + 1) log) = rw less in
    step ∙ ap (λ rest. stored from first ∷ rest) (ap (λ n. put_row (stored n row) (stored_from (from + 1) log)) same ∙ put_behind (from + 1) log row)

pub less_numbers : (m n : ℕ) → m < n → value_cmp (Int (pos m)) (Int (pos n)) ≡ Less
less_numbers m n less = value_cmp-Int (pos m) (pos n) ∙ lesser m n less
