-- Rows that follow those before them, and rows that may not.
use Rattle.std.proofs.Common.{◌≡◌, ◌∙◌, ℕ, List, [], ◌∷◌, Bool, true, false, ◌||◌, ℤ, nat_eq, nat_le, Option, Some, None, Result, Ok, Err, OnOk, IfErr, IsTrue, Contains, ap, sym, subst, refl, arith, if◌then◌else◌}
use Rattle.std.proofs.lemmas.Bool.{false≢true, eqb-true}
use Rattle.rb_causes.proofs.Lists.{some_is}
use Rattle.rb_causes.specs.Moments.{IsMoment}
use Rattle.rb_causes.specs.declared.ending.Ending.{Ending}
use Rattle.rb_causes.specs.declared.ending.Ending.TheVariants.{Code, NotStarted}
use Rattle.rb_causes.specs.declared.row.Row.{Row}
use Rattle.rb_log.specs.Claims.{report}
use Rattle.rb_log.specs.Executions.{Execution}
use Rattle.rb_log.specs.Legal.{Adds, ComesBy, IsAdded, IsOpening, MayCome, call_named, open_leaf, report_named}
use Rattle.rb_log.specs.LogState.{LogState, execution_at, log_state, moment}
use Rattle.rb_log.specs.Readings.{Reading}
use Rattle.rb_log.specs.Rows.{close_row, ending_of, is_close, is_end, is_opened, not_started}
use Rattle.rb_log.specs.Tasks.{is_ending}
use Rattle.rb_log.specs.declared.call.Call.TheVariants.{CloseDoor, Report}
use Rattle.rb_log.specs.declared.task.OpenLeaf.{OpenLeaf}
use Rattle.rb_tables.specs.Tables.{AreLogTables}
use Rattle.rb_tables.specs.declared.change.Change.{Change}
use Rattle.rb_tables.specs.declared.tables.Tables.{Tables}
use Rattle.rb_desk.specs.Following.{Follows, HasFollowed, IsNamedChange, IsOther, IsUnfit, ending_if, is_empty, is_first}
use Rattle.rb_desk.specs.declared.unfit.Unfit.{Unfit}
use Rattle.rb_desk.specs.declared.unfit.Unfit.TheVariants.{NoMemory}
use Rattle.rb_desk.proofs.Unfits.{same_rows}

-- ---- openings

opening_of : (s : LogState) (row : Row) (b : Bool) → b ≡ true → ComesBy b s row
    → IsOpening s row
opening_of s row true h comes = comes
opening_of s row false h comes = absurd (false≢true h)

comes_as_opening : (s : LogState) (row : Row) (b : Bool) → b ≡ true → IsOpening s row
    → ComesBy b s row
comes_as_opening s row true h is = is
comes_as_opening s row false h is = absurd (false≢true h)

pub opening_may : (past : List Row) (row : Row) → is_first past row ≡ true
    → MayCome (log_state past) row → IsOpening (log_state past) row
opening_may past row first may =
    opening_of (log_state past) row (is_first past row) first may.1

pub opening_comes : (past : List Row) (row : Row) (t : Tables) → is_first past row ≡ true
    → IsMoment row.at → IsOpening (log_state past) row → AreLogTables t (log_state (row ∷ past))
    → HasFollowed past row t
opening_comes past row t first at is says = record {
  may = (at, comes_as_opening (log_state past) row (is_first past row) first is);
  says = says;
}

-- ---- other rows

added_of : (s : LogState) (row : Row) (b : Bool) → b ≡ false → ComesBy b s row
    → IsAdded s row (call_named s row)
added_of s row true h comes = absurd (false≢true (sym h))
added_of s row false h comes = comes

comes_as_added : (s : LogState) (row : Row) (b : Bool) → b ≡ false
    → IsAdded s row (call_named s row) → ComesBy b s row
comes_as_added s row true h is = absurd (false≢true (sym h))
comes_as_added s row false h is = is

pub added_may : (past : List Row) (row : Row) → is_first past row ≡ false
    → MayCome (log_state past) row → IsAdded (log_state past) row (call_named (log_state past) row)
added_may past row other may = added_of (log_state past) row (is_first past row) other may.1

pub added_comes : (past : List Row) (row : Row) (t : Tables) → is_first past row ≡ false
    → IsMoment row.at → IsAdded (log_state past) row (call_named (log_state past) row)
    → AreLogTables t (log_state (row ∷ past)) → HasFollowed past row t
added_comes past row t other at is says = record {
  may = (at, comes_as_added (log_state past) row (is_first past row) other is);
  says = says;
}

-- behind a row there may be other rows than openings
later : (x : Row) (past : List Row) (row : Row) → is_opened row ≡ false
    → is_first (x ∷ past) row ≡ false
later x past row h =
    let some : is_empty (x ∷ past) ≡ false = grind arith in
    ap (λ b. b || is_empty (x ∷ past)) h ∙ some

-- and behind none only an opening
first_is_opening : (row : Row) → is_opened row ≡ false → MayCome (log_state []) row → ⊥
first_is_opening row h may =
    let is = opening_may [] row (rw h refl) may in
    false≢true (sym h ∙ ap is_opened is.row_is)

-- the row may come only where the rules add it for the call that it names
pub only_added : (past : List Row) (row : Row) → is_opened row ≡ false
    → (IsAdded (log_state past) row (call_named (log_state past) row) → ⊥)
    → MayCome (log_state past) row → ⊥
only_added [] row h refused may = first_is_opening row h may
only_added (x ∷ past) row h refused may =
    refused (added_may (x ∷ past) row (later x past row h) may)

-- ---- ends of leaves

pub end_is_no_opening : (row : Row) → is_end row ≡ true → is_opened row ≡ false
end_is_no_opening row h = rw (eqb-true row.kind 9 h) refl

pub end_named : (s : LogState) (row : Row) → is_end row ≡ true
    → call_named s row ≡ report_named row (open_leaf s.leaves row.a row.b (execution_at s row.a))
end_named s row h = rw (eqb-true row.kind 9 h) refl

pub close_is_no_opening : (row : Row) → is_close row ≡ true → is_opened row ≡ false
close_is_no_opening row h = rw (eqb-true row.kind 10 h) refl

pub close_named : (s : LogState) (row : Row) → is_close row ≡ true
    → call_named s row ≡ Some (CloseDoor row.a row.at)
close_named s row h = rw (eqb-true row.kind 10 h) refl

-- a leaf is open, so rows have come
open_in_none : (n m : ℕ) (e : Option Execution) (claimed : OpenLeaf)
    → open_leaf [] n m e ≡ Some claimed → ⊥
open_in_none n m None claimed h = grind (arith, h)
open_in_none n m (Some e) claimed h = grind (arith, h)

no_door : (door : ℕ) → Contains (log_state []).doors door → ⊥
no_door door h = omega (arith, h.1)

-- nothing was read for it
no_reading : Reading
no_reading = record { policies = Ok []; jobs = Ok [] }

end_adds : (past : List Row) (row ended : Row) (claimed : OpenLeaf)
    → Contains (log_state past).leaves claimed → IsTrue (is_ending (ending_of row.c))
    → IsMoment row.at
    → (report (log_state past) (moment (log_state past) row.at)
    (record { claimed = claimed; ending = ending_of row.c })).row ≡ Some ended → ended ≡ row
    → Adds (log_state past) row
    (Report (record { claimed = claimed; ending = ending_of row.c }) row.at)
end_adds past row ended claimed has formed at is same = record {
  asked = (at, has);
  formed = formed;
  reading = no_reading;
  may_read = tt;
  added = is ∙ ap Some same;
}

-- the row of a report, by the row's own fields
pub reported_here : (s : LogState) (row ended : Row) (claimed : OpenLeaf) (ending : Ending)
    (now : ℤ) → now ≡ moment s row.at → ending_of row.c ≡ ending
    → (report s now (record { claimed = claimed; ending = ending })).row ≡ Some ended
    → (report s (moment s row.at)
    (record { claimed = claimed; ending = ending_of row.c })).row ≡ Some ended
reported_here s row ended claimed ending now now_is is h =
    ap (λ t. (report s t (record { claimed = claimed; ending = ending_of row.c })).row) (sym now_is)
    ∙ ap (λ e. (report s now (record { claimed = claimed; ending = e })).row) is ∙ h

pub end_comes : (past : List Row) (row ended : Row) (claimed : OpenLeaf) (t : Tables)
    → is_end row ≡ true
    → open_leaf (log_state past).leaves row.a row.b (execution_at (log_state past) row.a)
    ≡ Some claimed → Contains (log_state past).leaves claimed
    → IsTrue (is_ending (ending_of row.c)) → IsMoment row.at
    → (report (log_state past) (moment (log_state past) row.at)
    (record { claimed = claimed; ending = ending_of row.c })).row ≡ Some ended → ended ≡ row
    → AreLogTables t (log_state (row ∷ past)) → HasFollowed past row t
end_comes [] row ended claimed t h found has formed at is same says =
    absurd (open_in_none row.a row.b (execution_at (log_state []) row.a) claimed found)
end_comes (x ∷ past) row ended claimed t h found has formed at is same says =
    let s = log_state (x ∷ past) in
    added_comes (x ∷ past) row t (later x past row (end_is_no_opening row h)) at
    (subst (IsAdded s row) (sym (end_named s row h ∙ ap (report_named row) found))
    (end_adds (x ∷ past) row ended claimed has formed at is same)) says

end_asked : (past : List Row) (row : Row) (claimed : OpenLeaf) → is_end row ≡ true
    → open_leaf (log_state past).leaves row.a row.b (execution_at (log_state past) row.a)
    ≡ Some claimed → IsAdded (log_state past) row (call_named (log_state past) row)
    → Adds (log_state past) row
    (Report (record { claimed = claimed; ending = ending_of row.c }) row.at)
end_asked past row claimed h found =
    subst (IsAdded (log_state past) row)
    (end_named (log_state past) row h ∙ ap (report_named row) found)

ending_low : (b : Bool) (n : ℕ) → nat_eq n not_started ≡ b → nat_le n not_started ≡ true
    → is_ending (if b then NotStarted else Code n) ≡ true
ending_low true n same low = refl
ending_low false n apart low = grind (arith, apart, low)

ending_by : (b : Bool) (n : ℕ) (e : Ending) → nat_le n not_started ≡ b
    → (if b then Some (ending_of n) else None) ≡ Some e
    → (ending_of n ≡ e) × IsTrue (is_ending e)
ending_by true n e low h =
    let same : ending_of n ≡ e = some_is (ending_of n) e h in
    (same, sym (ap is_ending same) ∙ ending_low (nat_eq n not_started) n refl low)
ending_by false n e low h = absurd (grind (arith, h))

-- a number that is an ending's
pub ending_formed : (n : ℕ) (e : Ending) → ending_if n ≡ Some e
    → (ending_of n ≡ e) × IsTrue (is_ending e)
ending_formed n e h = ending_by (nat_le n not_started) n e refl h

pub end_differs : (past : List Row) (row ended : Row) (claimed : OpenLeaf) → is_end row ≡ true
    → open_leaf (log_state past).leaves row.a row.b (execution_at (log_state past) row.a)
    ≡ Some claimed
    → (report (log_state past) (moment (log_state past) row.at)
    (record { claimed = claimed; ending = ending_of row.c })).row ≡ Some ended
    → (ended ≡ row → ⊥) → MayCome (log_state past) row → ⊥
end_differs past row ended claimed h found is differ =
    only_added past row (end_is_no_opening row h)
    (λ added. differ (some_is _ _ (sym is ∙ (end_asked past row claimed h found added).added)))

-- ---- ends of doors

pub close_comes : (past : List Row) (row : Row) (t : Tables) → is_close row ≡ true
    → Contains (log_state past).doors row.a → IsMoment row.at
    → close_row (moment (log_state past) row.at) row.a ≡ row
    → AreLogTables t (log_state (row ∷ past)) → HasFollowed past row t
close_comes [] row t h has at same says = absurd (no_door row.a has)
close_comes (x ∷ past) row t h has at same says =
    let s = log_state (x ∷ past) in
    added_comes (x ∷ past) row t (later x past row (close_is_no_opening row h)) at
    (subst (IsAdded s row) (sym (close_named s row h)) (record {
      asked = (at, has);
      formed = tt;
      reading = no_reading;
      may_read = tt;
      added = ap Some same;
    })) says

pub close_unasked : (past : List Row) (row : Row) → is_close row ≡ true
    → (Contains (log_state past).doors row.a → ⊥) → MayCome (log_state past) row → ⊥
close_unasked past row h closed =
    only_added past row (close_is_no_opening row h)
    (λ is. closed (subst (IsAdded (log_state past) row) (close_named (log_state past) row h)
    is).asked.1)

pub close_differs : (past : List Row) (row : Row) → is_close row ≡ true
    → (close_row (moment (log_state past) row.at) row.a ≡ row → ⊥)
    → MayCome (log_state past) row → ⊥
close_differs past row h differ =
    only_added past row (close_is_no_opening row h)
    (λ is. differ (some_is _ _ (subst (IsAdded (log_state past) row)
    (close_named (log_state past) row h) is).added))

-- ---- rows that are decided before they are added

pub change_comes_next : (past : List Row) (row : Row) (change : Change) (t : Tables)
    → IsOther past row → IsMoment row.at → IsNamedChange past row change → change.row ≡ row
    → AreLogTables t (log_state (row ∷ past)) → HasFollowed past row t
change_comes_next past row change t other at named same says =
    added_comes past row t other.opened at
    (subst (IsAdded (log_state past) row) (sym named.named) (record {
      asked = named.may;
      formed = named.formed;
      reading = named.decided.0.reading;
      may_read = named.decided.0.may_read;
      added = ap (λ m. m.row) named.decided.0.says ∙ ap Some same;
    })) says

-- so it has followed, or memory was wanting
pub change_follows : {A : Type 0} (past : List Row) (row : Row) (change : Change) (t : Tables)
    (r : Result A Unfit) → IsOther past row → IsMoment row.at → IsNamedChange past row change
    → change.row ≡ row → OnOk r (AreLogTables t (log_state (row ∷ past)))
    → IfErr r (λ unfit. unfit ≡ NoMemory) → Follows past row t r
change_follows past row change t (Ok a) other at named same says wanting =
    change_comes_next past row change t other at named same says
change_follows past row change t (Err unfit) other at named same says wanting =
    subst (IsUnfit (MayCome (log_state past) row)) (sym wanting) tt

pub change_differs : (past : List Row) (row : Row) (change : Change) → IsOther past row
    → IsNamedChange past row change → (change.row ≡ row → ⊥) → MayCome (log_state past) row → ⊥
change_differs past row change other named differ may =
    let adds = subst (IsAdded (log_state past) row) named.named
    (added_may past row other.opened may) in
    differ (same_rows (log_state past) named.call named.decided.0.reading adds.reading change.row
    row named.decided.0.may_read adds.may_read (ap (λ m. m.row) named.decided.0.says) adds.added)
