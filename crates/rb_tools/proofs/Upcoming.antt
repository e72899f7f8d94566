-- The lines of the next instants, one after another.
use Rattle.std.proofs.Common.{◌≡◌, ◌<ℤ◌, ◌≤ℤ◌, pos, negsuc, w64, FitsSigned, ◌<◌, ◌≤◌, ◌-◌, ◌++◌, ℕ, suc, ℤ, List, Option, Some, Result, Ok, Err, IfSome, IfNone, OnOk, ap, sym, ◌∙◌, append_assoc, arith}
use Rattle.std.proofs.Math.Facts.{leb_yes}
use Rattle.rb_cron.specs.Due.{Source}
use Rattle.rb_cron.specs.Next.{IsDueAfter, NoneDue, last_instant, end_of_schedules, next_due}
use Rattle.rb_tools.specs.Instants.{instant_line, found_text, upcoming_text}
use Rattle.rb_cron.specs.Laws.{NextIsLeast, NextIsOne}

-- what three clauses say of an answer says which it is
pub next_is : NextIsOne → (source : Source) (after : ℤ) (found : Option ℤ) → IfSome found (IsDueAfter source after) → IfSome found (NoneDue source after)
    → IfNone found (NoneDue source after end_of_schedules) → next_due source after ≡ found
next_is one source after found due least none = sym (one source after found (record { due = due; least = least; none = none }))

-- an instant behind one that 64 bits hold, up to the last one, fits into them too
fits_between : (after t : ℤ) → FitsSigned w64 after → after <ℤ t → t ≤ℤ last_instant → FitsSigned w64 t
fits_between after (pos n) fits later early = let e : n ≤ 7_258_118_399 = leb_yes early.le in record { sfits = omega (arith, e) }
fits_between (pos m) (negsuc n) fits later early = absurd later.lt
fits_between (negsuc m) (negsuc n) fits later early = let l : n < m = leb_yes later.lt in record { sfits = omega (arith, l, fits.sfits) }

due_fits : (source : Source) (after t : ℤ) → FitsSigned w64 after → IsDueAfter source after t → FitsSigned w64 t
due_fits source after t fits (due, later, early) = fits_between after t fits later early

pub instant_fits : NextIsLeast → (source : Source) (after t : ℤ) → FitsSigned w64 after → next_due source after ≡ Some t → FitsSigned w64 t
instant_fits is_least source after t fits found =
    let next = is_least source after in due_fits source after t fits (rw found at next.due)

-- a line, and the lines behind it
pub lines_more : {T E : Type 0} (source : Source) (count : ℕ) (after instant : ℤ) (before line pushed whole : List ℕ) (result : Result T E) → 0 < count
    → next_due source after ≡ Some instant → line ≡ instant_line instant → pushed ≡ before ++ line → OnOk result (whole ≡ pushed ++ upcoming_text source (count - 1) instant)
    → OnOk result (whole ≡ before ++ upcoming_text source count after)
lines_more source count after instant before line pushed whole (Ok t) some found line_is pushed_is rest =
    let is : count ≡ suc (count - 1) = omega (arith, some) in
    rest ∙ ap (λ p. p ++ upcoming_text source (count - 1) instant) (pushed_is ∙ ap (λ l. before ++ l) line_is)
    ∙ append_assoc before (instant_line instant) (upcoming_text source (count - 1) instant)
    ∙ ap (λ l. before ++ l) (sym (ap (λ n. upcoming_text source n after) is ∙ ap (found_text (upcoming_text source (count - 1))) found))
lines_more source count after instant before line pushed whole (Err e) some found line_is pushed_is rest = record {}
