-- Whether a row has room, by numbers that are cut off at their type's end.
use Rattle.std.proofs.Common.{◌≡◌, ◌∙◌, ◌≤◌, ◌+◌, ◌-◌, ◌^◌, ℕ, min, Bool, true, false, ◌&&◌, nat_le, refl, arith}
use Rattle.std.proofs.lemmas.Bool.{le-leb}
use Rattle.rb_causes.specs.declared.row.Row.{Row}
use Rattle.rb_log.specs.Rows.{counted_bytes}
use Rattle.rb_log.specs.LogState.{LogState, has_room, most_counted, owed}
use Rattle.rb_tables.specs.Tables.{most_rows}

both : (a b : Bool) → a ≡ true → b ≡ (a && b)
both true b h = refl
both false b h = absurd (grind (arith, h))

rows_fit : (there need asked room : ℕ) → asked ≤ room → room ≤ most_rows
    → asked ≡ min (min there (2 ^ 64 - 1) + need) (2 ^ 64 - 1) → there + need ≤ room
unfolding most_rows
rows_fit there need asked room low bound is = omega (arith, low, bound, is)

bytes_fit : (there bytes counted : ℕ)
    → counted ≡ min (min there (2 ^ 64 - 1) + min bytes (2 ^ 64 - 1)) (2 ^ 64 - 1)
    → nat_le counted 536870912 ≡ nat_le (there + bytes) most_counted
unfolding most_counted
bytes_fit there bytes counted is = grind (arith, is)

pub fits_by : (s : LogState) (room need : ℕ) (row : Row) (there asked counted : ℕ)
    → there ≡ s.rows + owed s → asked ≤ room → room ≤ most_rows
    → asked ≡ min (min there (2 ^ 64 - 1) + need) (2 ^ 64 - 1)
    → counted
    ≡ min (min s.counted (2 ^ 64 - 1) + min (counted_bytes row) (2 ^ 64 - 1)) (2 ^ 64 - 1)
    → nat_le counted 536870912 ≡ has_room s room need row
fits_by s room need row there asked counted there_is low bound asked_is counted_is =
    let fit = rows_fit there need asked room low bound asked_is in
    bytes_fit s.counted (counted_bytes row) counted counted_is
    ∙ both (nat_le (s.rows + owed s + need) room)
    (nat_le (s.counted + counted_bytes row) most_counted)
    (le-leb (s.rows + owed s + need) room (omega (arith, fit, there_is)))
