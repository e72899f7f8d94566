-- Rows that are followed one after another, up to the first that may not come.
use Rattle.std.proofs.Common.{◌≡◌, ◌∙◌, ◌<◌, ◌≤◌, ◌+◌, ◌^◌, ℕ, List, [], ◌∷◌, ◌++◌, take, drop, get_or, length, reverse, nat_eq, ap, sym, subst, refl, arith}
use Rattle.std.proofs.lemmas.List.{length-reverse, length-take-le, take-append-drop, take_more}
use Rattle.rb_causes.proofs.Lists.{drop_item}
use Rattle.rb_causes.specs.declared.row.Row.{Row}
use Rattle.rb_log.specs.Legal.{IsLegalLog, MayCome}
use Rattle.rb_log.specs.LogState.{log_state}
use Rattle.rb_tables.specs.Tables.{IsTabled}
use Rattle.rb_tables.specs.declared.tables.Tables.{Tables}
use Rattle.rb_desk.specs.Following.{AreRefused, HasFollowed, IsUnfit, is_empty}
use Rattle.rb_desk.specs.Opening.{IsBadStore}
use Rattle.rb_desk.specs.declared.open_err.OpenErr.{OpenErr}
use Rattle.rb_desk.specs.declared.open_err.OpenErr.TheVariants.{BadStore, NoMemory as Wanting}
use Rattle.rb_desk.specs.declared.unfit.Unfit.{Unfit}
use Rattle.rb_desk.specs.declared.unfit.Unfit.TheVariants.{Illegal, NoMemory}
use Rattle.rb_desk.proofs.Growing.{newest}

-- the first rows, newest first
abbrev pub first_rows : List Row → ℕ → List Row
first_rows rows n = reverse (take n rows)

pub first_many : (rows : List Row) (n : ℕ) → n ≤ length rows → length (first_rows rows n) ≡ n
first_many rows n low = length-reverse (take n rows) ∙ length-take-le n rows low

pub first_empty : (rows : List Row) (n : ℕ) → n ≤ length rows
    → nat_eq n 0 ≡ is_empty (first_rows rows n)
first_empty rows n low = ap (λ k. nat_eq k 0) (sym (first_many rows n low))

-- one row more
pub first_more : (rows : List Row) (n : ℕ) (row : Row) → n < length rows
    → row ≡ get_or rows n row → first_rows rows (n + 1) ≡ row ∷ first_rows rows n
first_more rows n row low is =
    ap reverse (take_more rows n row low ∙ ap (λ r. take n rows ++ r ∷ []) (sym is))
    ∙ newest (take n rows) row

pub follows_on : (rows : List Row) (n : ℕ) (row : Row) (old new : Tables) → n < length rows
    → length rows < 2 ^ 40 → row ≡ get_or rows n row → IsTabled old (first_rows rows n)
    → HasFollowed (first_rows rows n) row new → IsTabled new (first_rows rows (n + 1))
follows_on rows n row old new low few is tabled followed =
    subst (IsTabled new) (sym (first_more rows n row low is)) (record {
      says = followed.says;
      legal = (tabled.legal, followed.may);
      few = omega (arith, first_many rows n (omega arith));
    })

bad_store : (rows : List Row) (n : ℕ) (row : Row) → n < length rows → row ≡ get_or rows n row
    → IsLegalLog (first_rows rows n) → (MayCome (log_state (first_rows rows n)) row → ⊥)
    → IsBadStore rows (n + 1)
bad_store rows n row low is legal refused = record {
  before = take n rows;
  row = row;
  behind = drop (n + 1) rows;
  held_are = sym (take-append-drop n rows)
      ∙ ap (λ rest. take n rows ++ rest) (drop_item rows n row low is);
  number = ap (λ k. k + 1) (sym (length-take-le n rows (omega arith)));
  legal = legal;
  refused = refused;
}

pub refused_by : (rows : List Row) (n : ℕ) (row : Row) (unfit : Unfit) (e : OpenErr)
    → n < length rows → row ≡ get_or rows n row → IsLegalLog (first_rows rows n)
    → IsUnfit (MayCome (log_state (first_rows rows n)) row) unfit
    → (unfit ≡ Illegal → e ≡ BadStore (n + 1)) → (unfit ≡ NoMemory → e ≡ Wanting)
    → AreRefused rows e
refused_by rows n row Illegal e low is legal unfit illegal memory =
    subst (AreRefused rows) (sym (illegal refl)) (bad_store rows n row low is legal unfit)
refused_by rows n row NoMemory e low is legal unfit illegal memory =
    subst (AreRefused rows) (sym (memory refl)) tt
