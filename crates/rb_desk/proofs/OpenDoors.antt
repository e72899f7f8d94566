-- The doors of a legal log are few.
use Rattle.std.proofs.Common.{◌≡◌, ◌∙◌, ◌<◌, ℕ, List, [], ◌∷◌, Bool, true, false, ◌||◌, nat_eq, not, Contains, Some, slice_get, ap, refl, arith, if◌then◌else◌}
use Rattle.std.proofs.lemmas.Option.{get_or_from_slice_get, slice_get-get_or, slice_get_within}
use Rattle.rb_causes.proofs.Lists.{from_filter}
use Rattle.rb_causes.specs.declared.row.Row.{Row}
use Rattle.rb_log.specs.Legal.{IsLegalLog}
use Rattle.rb_log.specs.LogState.{log_state}
use Rattle.rb_log.specs.Rows.{is_close, is_opened}
use Rattle.rb_log.specs.Sums.{numbers_below, open_doors, without}
use Rattle.rb_log.proofs.Numbers.{below_at, below_length}
use Rattle.rb_desk.specs.Following.{is_empty}
use Rattle.rb_desk.proofs.Followed.{opening_may}

number_low : (n k door : ℕ) → slice_get (numbers_below n) k ≡ Some door → door < n
number_low n k door get =
    let low : k < n =
    omega (arith, below_length n, slice_get_within (numbers_below n) k door get) in
    omega (
      arith,
      low,
      below_at n k k low,
      get_or_from_slice_get (numbers_below n) k door k get,
    )

opens_few : (row : Row) (past : List Row) → IsLegalLog (row ∷ past) → is_opened row ≡ true
    → row.a < 17
opens_few row past legal opened =
    let is = opening_may past row (ap (λ b. b || is_empty past) opened) legal.1 in
    omega (arith, is.doors.1)

low_by : (opened closed : Bool) (row : Row) (past : List Row) → is_opened row ≡ opened
    → IsLegalLog (row ∷ past)
    → ((k door : ℕ) → slice_get (open_doors past) k ≡ Some door → door < 16) → (k door : ℕ)
    → slice_get (if opened then numbers_below row.a
    else if closed then without row.a (open_doors past) else open_doors past) k ≡ Some door
    → door < 16
low_by true closed row past opens legal before k door get =
    omega (arith, number_low row.a k door get, opens_few row past legal opens)
low_by false true row past opens legal before k door get =
    let found = from_filter (λ m. not (nat_eq m row.a)) (open_doors past) k door get in
    before found.0 door found.1
low_by false false row past opens legal before k door get = before k door get

all_low : (past : List Row) → IsLegalLog past → (k door : ℕ)
    → slice_get (open_doors past) k ≡ Some door → door < 16
all_low [] legal k door get = absurd (grind (arith, get))
all_low (row ∷ past) legal k door get =
    low_by (is_opened row) (is_close row) row past refl legal (all_low past legal.0) k door get

pub open_low : (past : List Row) (door : ℕ) → IsLegalLog past
    → Contains (log_state past).doors door → door < 16
open_low past door legal has =
    all_low past legal has.0 door
    (slice_get-get_or (open_doors past) has.0 door has.1 ∙ ap Some has.2)
