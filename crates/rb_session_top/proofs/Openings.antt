-- What may be asked of a desk that was opened.
use Rattle.std.proofs.Common.{◌≡◌, ◌∙◌, ℕ, ℤ, List, [], ◌∷◌, ◌++◌, reverse, Contains, ap, refl, sym, subst, arith}
use Rattle.rb_causes.specs.declared.row.Row.{Row}
use Rattle.rb_desk.proofs.Growing.{newest}
use Rattle.rb_desk.specs.Opening.{asked_of, opening_row}
use Rattle.rb_log.specs.Sums.{numbers_below, open_doors, workers_of}

module _ (log held : List Row) (draw room : ℕ) (at : ℤ)
    (is : log ≡ held ++ opening_row held (asked_of 1 1 draw room at) ∷ []) where
  -- the log with its last row first, which is that of the opening
  last_first : opening_row held (asked_of 1 1 draw room at) ∷ reverse held ≡ reverse log
  last_first = sym (ap reverse is ∙ newest held _)

  pub worker_there : Contains (numbers_below (workers_of (reverse log))) 0
  worker_there =
      subst (λ rows. Contains (numbers_below (workers_of rows)) 0) last_first
      (0, omega arith, refl)

  pub door_there : Contains (open_doors (reverse log)) 0
  door_there = subst (λ rows. Contains (open_doors rows) 0) last_first (0, omega arith, refl)
