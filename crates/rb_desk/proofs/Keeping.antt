-- What the keeper of a ledger holds behind an append.
use Rattle.std.proofs.Common.{◌≡◌, ◌∙◌, ◌≤◌, ◌-◌, ℕ, List, ◌++◌, take, drop, length, Option, Some, None, option_map, IfSome, ap, sym, subst}
use Rattle.std.proofs.Math.Seq.{take-length}
use Rattle.std.proofs.lemmas.List.{take-append-drop, take-append-le, length-drop}
use Rattle.rb_causes.specs.declared.row.Row.{Row}

abbrev Keeps : ℕ → List Row → Option (List Row) → Type 0
Keeps saved log held = IfSome held (λ rows. rows ≡ take saved log)

-- all that was not kept is appended
abbrev pub with_rest : ℕ → List Row → List Row → List Row
with_rest saved log before = before ++ take (length log - saved) (drop saved log)

whole : (saved n : ℕ) (log : List Row) → n ≡ length log
    → with_rest saved log (take saved log) ≡ take n log
whole saved n log h =
    ap (λ k. take saved log ++ take k (drop saved log)) (sym (length-drop saved log))
    ∙ ap (λ rest. take saved log ++ rest) (take-length (drop saved log))
    ∙ take-append-drop saved log
    ∙ sym (take-length log) ∙ ap (λ k. take k log) (sym h)

all_of : (held : Option (List Row)) (saved n : ℕ) (log : List Row) → Keeps saved log held
    → n ≡ length log → Keeps n log (option_map (with_rest saved log) held)
all_of None saved n log h k = tt
all_of (Some rows) saved n log h k = ap (with_rest saved log) h ∙ whole saved n log k

-- what was kept of a log is kept of it with a row behind
pub still_kept : (held : Option (List Row)) (saved : ℕ) (log more : List Row)
    → Keeps saved log held → saved ≤ length log → Keeps saved (log ++ more) held
still_kept None saved log more h k = tt
still_kept (Some rows) saved log more h k = h ∙ sym (take-append-le saved log more k)

pub kept_all : (old new : Option (List Row)) (log : List Row) (saved n : ℕ)
    → new ≡ option_map (with_rest saved log) old → Keeps saved log old → n ≡ length log
    → Keeps n log new
kept_all old new log saved n is h k = subst (Keeps n log) (sym is) (all_of old saved n log h k)
