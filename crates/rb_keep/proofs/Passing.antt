-- How what calls on a store do adds up.
use Rattle.std.proofs.Common.{◌≡◌, ◌⊎◌, inl, inr, ℕ, List, false, cond, Option, None, Some, Ok, Err, Result, IsTrue, OnOk, refl, subst, ◌∙◌, arith}
use Rattle.std.proofs.lemmas.Bool.{cases_Bool}
use Rattle.sqlite_trees.specs.declared.store.Store.{Ghosts}
use Rattle.sqlite_trees.specs.Tree.{Trees}
use Rattle.sqlite.specs.Order.{Row}
use Rattle.sqlite.specs.declared.error.Error.{Error}
use Rattle.sqlite.specs.declared.error.ErrorCode.TheVariants as code
use Rattle.sqlite.specs.declared.error.Error.TheVariants.{SqliteFailure}
use Rattle.sqlite.specs.State.{State, HasCleanDisk, KeepsCommit, IsUnchanged, IsRolledBack, IsNotRun, Survives, Executes, ExecutesInside, Shown, ShowsRows, FailsToQuery, FailsToShow, IsTooLate}
use Rattle.sqlite.specs.Clock.{timed}
use Rattle.sqlite.specs.Held.{Held, state}
use Rattle.sqlite_schema.specs.declared.command.Returning.{Returning}
use Rattle.rb_keep.specs.Passing.{Passes, Stays}

pub clean_before : (a b : State) → Passes a b → HasCleanDisk b → HasCleanDisk a
clean_before a b one clean = omega (arith, one.clean, clean)

pub passes_none : (a : State) → Passes a a
passes_none a = record { clean = omega arith; counts = omega arith; closes = λ clean is_open. inl is_open }

pub passes_then : (a b c : State) → Passes a b → Passes b c → Passes a c
passes_then a b c one two = record {
  clean = omega (arith, one.clean, two.clean);
  counts = omega (arith, one.counts, two.counts);
  closes = λ clean is_open. elim (one.closes (omega (arith, two.clean, clean)) is_open) [
    | inl still ↦ elim (two.closes clean still) [ inl last ↦ inl last | inr fault ↦ inr (omega (arith, one.counts, fault)) ]
    | inr fault ↦ inr (omega (arith, two.counts, fault))
  ];
}

pub passes_survived : (a b : State) (Commits : Trees → Type 0) → Survives a b Commits → Passes a b
passes_survived a b Commits one = record { clean = one.clean; counts = one.counts; closes = one.closes }

pub keeps_then : (a b c : State) → KeepsCommit a b → KeepsCommit b c → KeepsCommit a c
keeps_then a b c one two = record {
  was_open = λ is_open. one.was_open (two.was_open is_open);
  committed = λ is_open. two.committed is_open ∙ one.committed (two.was_open is_open);
}

keeps_unchanged : (a b : State) → IsUnchanged a b → KeepsCommit a b
keeps_unchanged a b same = record { was_open = λ is_open. same.0.was_open; committed = λ is_open. same.0.committed_is }

keeps_undone : (a b : State) → IsRolledBack a b → KeepsCommit a b
keeps_undone a b undone = record { was_open = undone.was_open; committed = λ is_open. (undone.undone is_open).1 }

pub stays_none : {T E : Type 0} (a : State) (r : Result T E) → Stays a a r
stays_none a (Ok value) = record { passes = passes_none a; kept = λ clean inside. record { was_open = λ is_open. is_open; committed = λ is_open. refl }; inside = λ clean inside. inside }
stays_none a (Err error) = record { passes = passes_none a; kept = λ clean inside. record { was_open = λ is_open. is_open; committed = λ is_open. refl }; inside = λ clean inside. tt }

pub stays_then : {T E U F : Type 0} (a b c : State) (first : Result T E) (r : Result U F) → (OnOk first ⊥ → ⊥) → Stays a b first → Stays b c r → Stays a c r
stays_then a b c (Ok value) r is one two = record {
  passes = passes_then a b c one.passes two.passes;
  kept = λ clean inside. let before = clean_before b c two.passes clean in keeps_then a b c (one.kept before inside) (two.kept clean (one.inside before inside));
  inside = λ clean inside. two.inside clean (one.inside (clean_before b c two.passes clean) inside);
}
stays_then a b c (Err error) r is one two = absurd (is tt)

keeps_inside : (sql : List ℕ) (params : Row) (a b : State) (r : Result ℕ Error) → ExecutesInside 0 sql params a b r → KeepsCommit a b × OnOk r (IsTrue b.in_transaction)
keeps_inside sql params a b (Ok count) h = (record { was_open = λ is_open. h.1.was_open; committed = λ is_open. h.1.committed_is }, h.1.mode)
keeps_inside sql params a b (Err error) (inl h) = (elim h.1 [ inl same ↦ keeps_unchanged a b same | inr undone ↦ keeps_undone a b undone ], tt)
keeps_inside sql params a b (Err error) (inr h) = (keeps_unchanged a b h.2, tt)

-- what a statement within a transaction does
pub stays_executed : {S T E : Type 0} (g : Ghosts S) (a b : Held S) (sql : List ℕ) (params : Row) (count : Result ℕ Error) (r : Result T E)
    → (OnOk count ⊥ → OnOk r ⊥)
    → ((state g a).in_transaction ≡ false → (count ≡ Err (SqliteFailure code.TransactionState)) × (b ≡ a))
    → (HasCleanDisk (state g b) → IsTrue (state g a).in_transaction → ExecutesInside 0 sql params (state g a) (state g b) count)
    → Survives (state g a) (state g b) (λ _. ⊥) → Stays (state g a) (state g b) r
stays_executed g a b sql params (Ok count) (Ok value) so ended runs survives = record {
  passes = passes_survived _ _ _ survives;
  kept = λ clean inside. (keeps_inside sql params _ _ (Ok count) (runs clean inside)).0;
  inside = λ clean inside. (keeps_inside sql params _ _ (Ok count) (runs clean inside)).1;
}
stays_executed g a b sql params (Ok count) (Err error) so ended runs survives = record {
  passes = passes_survived _ _ _ survives;
  kept = λ clean inside. (keeps_inside sql params _ _ (Ok count) (runs clean inside)).0;
  inside = λ clean inside. tt;
}
stays_executed g a b sql params (Err fault) (Ok value) so ended runs survives = absurd (so tt)
stays_executed g a b sql params (Err fault) (Err error) so ended runs survives = record {
  passes = passes_survived _ _ _ survives;
  kept = λ clean inside. (keeps_inside sql params _ _ (Err fault) (runs clean inside)).0;
  inside = λ clean inside. tt;
}

-- a statement within a transaction that is not refused was run
pub executed_inside : {S : Type 0} (g : Ghosts S) (a b : Held S) (sql : List ℕ) (params : Row) (count : ℕ)
    → ((state g a).in_transaction ≡ false → (◌≡◌ {A = Result ℕ Error} (Ok count) (Err (SqliteFailure code.TransactionState))) × (b ≡ a))
    → (HasCleanDisk (state g b) → IsTrue (state g a).in_transaction → ExecutesInside 0 sql params (state g a) (state g b) (Ok count))
    → HasCleanDisk (state g b) → Executes sql params (state g a) (state g b) (Ok count)
executed_inside g a b sql params count ended runs clean = elim (cases_Bool (state g a).in_transaction) [
  | inl inside ↦ (runs clean inside).0
  | inr outside ↦ absurd (let e = (ended outside).0 in cc)
]

keeps_shown : (sql : List ℕ) (params : Row) (a b : State) (rows : List Row) → Shown sql params a b rows → IsTrue a.in_transaction → KeepsCommit a b × IsTrue b.in_transaction
unfolding Shown
keeps_shown sql params a b rows h inside = go h.0.returning h.2
  where
    go : (returning : Option Returning) → ShowsRows a b sql h.0 (timed params h.0.formats h.1.now) rows returning → KeepsCommit a b × IsTrue b.in_transaction
    go None shown = (keeps_unchanged a b shown.3, shown.3.0.mode ∙ inside)
    go (Some what) shown =
        let s = shown.1.shown in
        (record { was_open = λ is_open. s.was_open; committed = λ is_open. subst (λ bit. b.committed ≡ cond bit a.committed b.now) inside s.committed_is }, s.mode ∙ inside)

keeps_not_run : (sql : List ℕ) (params : Row) (a b : State) (e : Error) → IsNotRun a b sql params e → KeepsCommit a b
unfolding IsNotRun
keeps_not_run sql params a b e (inl h) = keeps_unchanged a b h.1
keeps_not_run sql params a b e (inr h) = keeps_undone a b h.3

keeps_unshown : (sql : List ℕ) (params : Row) (a b : State) (e : Error) → FailsToQuery sql params a b e → KeepsCommit a b
unfolding FailsToQuery
keeps_unshown sql params a b e (inl h) = keeps_not_run sql params a b e h
keeps_unshown sql params a b e (inr h) = go h.0.returning h.2
  where
    go : (returning : Option Returning) → FailsToShow a b sql h.0 (timed params h.0.formats h.1.now) e returning → KeepsCommit a b
    go None refused = keeps_unchanged a b refused.3
    go (Some what) (inl refused) = keeps_unchanged a b refused.1
    go (Some what) (inr failed) = keeps_undone a b failed.3

-- what a query within a transaction does
pub stays_shown : {T E : Type 0} (sql : List ℕ) (params : Row) (a b : State) (rows : List Row) (r : Result T E) → (HasCleanDisk b → Shown sql params a b rows) → Survives a b (λ _. ⊥) → Stays a b r
stays_shown sql params a b rows (Ok value) shown survives = record {
  passes = passes_survived a b (λ _. ⊥) survives;
  kept = λ clean inside. (keeps_shown sql params a b rows (shown clean) inside).0;
  inside = λ clean inside. (keeps_shown sql params a b rows (shown clean) inside).1;
}
stays_shown sql params a b rows (Err error) shown survives = record {
  passes = passes_survived a b (λ _. ⊥) survives;
  kept = λ clean inside. (keeps_shown sql params a b rows (shown clean) inside).0;
  inside = λ clean inside. tt;
}

pub stays_unshown : {T E : Type 0} (sql : List ℕ) (params : Row) (a b : State) (e : Error) (r : Result T E) → OnOk r ⊥
    → (HasCleanDisk b → FailsToQuery sql params a b e ⊎ IsTooLate sql params a b e) → Survives a b (λ _. ⊥) → Stays a b r
stays_unshown sql params a b e (Ok value) never unshown survives = absurd never
stays_unshown sql params a b e (Err error) never unshown survives = record {
  passes = passes_survived a b (λ _. ⊥) survives;
  kept = λ clean inside. elim (unshown clean) [ inl failed ↦ keeps_unshown sql params a b e failed | inr late ↦ keeps_unchanged a b late.5 ];
  inside = λ clean inside. tt;
}

-- a call behind one that was not refused
pub stays_after : {T E U F : Type 0} (a b c : State) (value : T) (r : Result U F) → Stays {E = E} a b (Ok value) → Stays b c r → Stays a c r
stays_after a b c value r one two = stays_then a b c (Ok value) r (λ never. never) one two

-- what was not refused has another value
pub stays_valued : {T E U F : Type 0} (a b : State) (value : T) (other : U) → Stays {E = E} a b (Ok value) → Stays {E = F} a b (Ok other)
stays_valued a b value other one = record { passes = one.passes; kept = one.kept; inside = one.inside }

-- what was refused is told in other words
pub stays_refused : {T E U F : Type 0} (a b : State) (error : E) (r : Result U F) → OnOk r ⊥ → Stays {T = T} a b (Err error) → Stays a b r
stays_refused a b error (Ok value) never one = absurd never
stays_refused a b error (Err other) never one = record { passes = one.passes; kept = one.kept; inside = λ clean inside. tt }
