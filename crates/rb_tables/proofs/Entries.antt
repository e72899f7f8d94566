-- The executions of the tables beside those of the log.
use Rattle.std.proofs.Common.{◌≡◌, ℕ, zero, suc, List, [], ◌∷◌, ◌++◌, length, find, cond, nat_eq, Bool, true, false, Option, Some, None, slice_get, slice_set, ap, subst, refl, arith}
use Rattle.rb_causes.proofs.Lists.{some_is}
use Rattle.rb_log.specs.Executions.{Execution as LoggedExecution, execution_among}
use Rattle.rb_tables.specs.Tables.{AreEntries, IsEntry}
use Rattle.rb_tables.specs.declared.execution.Execution.{Execution}

pub entries_many : (es : List Execution) (ls : List LoggedExecution) → AreEntries es ls
    → length es ≡ length ls
entries_many [] [] h = refl
entries_many [] (l ∷ ls) h = absurd h
entries_many (e ∷ es) [] h = absurd h
entries_many (e ∷ es) (l ∷ ls) h = ap suc (entries_many es ls h.1)

-- the one at a place
pub entry_at : (es : List Execution) (ls : List LoggedExecution) → AreEntries es ls → (k : ℕ)
    (e : Execution) (l : LoggedExecution) → slice_get es k ≡ Some e → slice_get ls k ≡ Some l
    → IsEntry e l
entry_at [] [] h k e l get there = absurd (grind (arith, get))
entry_at [] (y ∷ ls) h k e l get there = absurd h
entry_at (x ∷ es) [] h k e l get there = absurd h
entry_at (x ∷ es) (y ∷ ls) h zero e l get there =
    subst (λ z. IsEntry z l) (some_is x e get) (subst (IsEntry x) (some_is y l there) h.0)
entry_at (x ∷ es) (y ∷ ls) h (suc k) e l get there = entry_at es ls h.1 k e l get there

-- and there is one wherever the tables have one
pub entry_there : (es : List Execution) (ls : List LoggedExecution) → AreEntries es ls → (k : ℕ)
    (e : Execution) → slice_get es k ≡ Some e
    → (l : LoggedExecution) × (slice_get ls k ≡ Some l) × IsEntry e l
entry_there [] ls h k e get = absurd (grind (arith, get))
entry_there (x ∷ es) [] h k e get = absurd h
entry_there (x ∷ es) (y ∷ ls) h zero e get =
    (y, refl, subst (λ z. IsEntry z y) (some_is x e get) h.0)
entry_there (x ∷ es) (y ∷ ls) h (suc k) e get = entry_there es ls h.1 k e get

-- another one at a place
pub entries_set : (es : List Execution) (ls : List LoggedExecution) → AreEntries es ls → (k : ℕ)
    (e : Execution) (l : LoggedExecution) → IsEntry e l
    → AreEntries (slice_set es k e) (slice_set ls k l)
entries_set [] [] h k e l is = tt
entries_set [] (y ∷ ls) h k e l is = absurd h
entries_set (x ∷ es) [] h k e l is = absurd h
entries_set (x ∷ es) (y ∷ ls) h zero e l is = (is, h.1)
entries_set (x ∷ es) (y ∷ ls) h (suc k) e l is = (h.0, entries_set es ls h.1 k e l is)

-- the one at a place as the tables have it anew
pub entries_anew : (es : List Execution) (ls : List LoggedExecution) → AreEntries es ls → (k : ℕ)
    (x e : Execution) → slice_get es k ≡ Some x
    → ((l : LoggedExecution) → IsEntry x l → IsEntry e l) → AreEntries (slice_set es k e) ls
entries_anew [] [] h k x e get stays = tt
entries_anew [] (y ∷ ls) h k x e get stays = absurd h
entries_anew (z ∷ es) [] h k x e get stays = absurd h
entries_anew (z ∷ es) (y ∷ ls) h zero x e get stays =
    (stays y (subst (λ w. IsEntry w y) (some_is z x get) h.0), h.1)
entries_anew (z ∷ es) (y ∷ ls) h (suc k) x e get stays =
    (h.0, entries_anew es ls h.1 k x e get stays)

-- one more
pub entries_behind : (es : List Execution) (ls : List LoggedExecution) → AreEntries es ls
    → (e : Execution) (l : LoggedExecution) → IsEntry e l
    → AreEntries (es ++ e ∷ []) (ls ++ l ∷ [])
entries_behind [] [] h e l is = (is, tt)
entries_behind [] (y ∷ ls) h e l is = absurd h
entries_behind (x ∷ es) [] h e l is = absurd h
entries_behind (x ∷ es) (y ∷ ls) h e l is = (h.0, entries_behind es ls h.1 e l is)

-- ---- by its number

-- both are found, or none
abbrev pub IsFound : Option Execution → Option LoggedExecution → Type 0
IsFound None None = Unit {0}
IsFound None (Some l) = ⊥
IsFound (Some e) None = ⊥
IsFound (Some e) (Some l) = IsEntry e l

found_by : (b c : Bool) (e : Execution) (l : LoggedExecution) (o : Option Execution)
    (q : Option LoggedExecution) → b ≡ c → IsEntry e l → IsFound o q
    → IsFound (cond b (Some e) o) (cond c (Some l) q)
found_by true true e l o q same is h = is
found_by true false e l o q same is h = absurd (grind (arith, same))
found_by false true e l o q same is h = absurd (grind (arith, same))
found_by false false e l o q same is h = h

pub entry_found : (number : ℕ) (es : List Execution) (ls : List LoggedExecution)
    → AreEntries es ls
    → IsFound (find (λ e. nat_eq e.number number) es) (execution_among number ls)
entry_found number [] [] h = tt
entry_found number [] (l ∷ ls) h = absurd h
entry_found number (e ∷ es) [] h = absurd h
entry_found number (e ∷ es) (l ∷ ls) h =
    found_by (nat_eq e.number number) (nat_eq l.number number) e l
    (find (λ e. nat_eq e.number number) es) (execution_among number ls)
    (ap (λ (z : LoggedExecution). nat_eq z.number number) h.0.is.same) h.0
    (entry_found number es ls h.1)
