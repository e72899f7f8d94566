-- Chains of which each outcome is that of an ask: what was asked for stays, is there, and ends
-- soon.
use Rattle.std.proofs.Common.{
  ◌≡◌,
  ◌∙◌,
  ◌<◌,
  ◌≤◌,
  ℕ,
  zero,
  suc,
  ◌+◌,
  ◌*◌,
  List,
  [],
  ◌∷◌,
  ◌++◌,
  length,
  map,
  take,
  drop,
  Bool,
  true,
  false,
  Option,
  Some,
  None,
  is_some,
  option_map,
  slice_get,
  ap,
  sym,
  subst,
  refl,
  arith,
  ◌⊎◌,
  inl,
  inr,
}
use Rattle.std.proofs.lemmas.List.{
  length-take,
  length-take-le,
  take-append-drop,
  take-append-le,
  take-take,
  take_all,
}
use Rattle.std.proofs.lemmas.Option.{slice_get-map, slice_get_within}
use Rattle.rb_causes.specs.Numbers.{numbers_from}
use Rattle.rb_chain.proofs.NextLaws.{
  asked_undo,
  asks_of_bad,
  bad_past,
  behind_bad,
  goes_on_while_good,
  good_more,
  parts,
  same_runs,
  still_bad,
  undone_of,
  undone_were_done,
}
use Rattle.rb_chain.proofs.Steps.{asked_run, next_within}
use Rattle.rb_chain.proofs.Undos.{numbers_get, split, undos_few}
use Rattle.rb_chain.specs.Chains.{ask_at, ask_with}
use Rattle.rb_chain.specs.Laws.{AreOutcomes, AskIsThere, AsksStay, EndsSoon}
use Rattle.rb_chain.specs.Nexts.{
  are_good,
  ask_run,
  ask_undo,
  asks_for,
  good_runs,
  has_undo,
  is_ask,
  next_by,
  next_of,
  undos_before,
}
use Rattle.rb_chain.specs.declared.chain_next.ChainNext.{ChainNext}
use Rattle.rb_chain.specs.declared.chain_next.ChainNext.TheVariants.{Ask, Over}
use Rattle.rb_chain.specs.declared.run.ChainRun.{ChainRun}
use Rattle.rb_chain.specs.declared.run.ChainUndo.{ChainUndo}

-- ---- outcomes of asks

-- the chain goes on behind these
abbrev IsOpen : List ChainRun → List Bool → Type 0
IsOpen runs o = is_ask (next_of runs o) ≡ true

pub none_so_far : (runs : List ChainRun) → AreOutcomes runs []
none_so_far runs n lt = absurd (omega (arith, lt))

at_place : (runs : List ChainRun) (o : List Bool) (n : ℕ) → AreOutcomes runs o
    → IsOpen runs o → (n < length o) ⊎ (n ≡ length o) → IsOpen runs (take n o)
at_place runs o n before here (inl lt) = before n lt
at_place runs o n before here (inr e) =
    subst (IsOpen runs) (sym (take_all n o (omega (arith, e)))) here

longer : (o : List Bool) (x : Bool) → length (o ++ x ∷ []) ≡ suc (length o)
longer [] x = refl
longer (y ∷ o) x = ap suc (longer o x)

pub one_outcome_more : (runs : List ChainRun) (o : List Bool) (x : Bool) → AreOutcomes runs o
    → is_ask (next_of runs o) ≡ true → AreOutcomes runs (o ++ x ∷ [])
one_outcome_more runs o x before here n lt =
    let within : n < suc (length o) = omega (arith, lt, longer o x) in
    subst (IsOpen runs) (sym (take-append-le n o (x ∷ []) (omega (arith, within))))
    (at_place runs o n before here (split n (length o) within))

first_outcomes : (runs : List ChainRun) (o : List Bool) (n : ℕ) → AreOutcomes runs o
    → AreOutcomes runs (take n o)
first_outcomes runs o n before m lt =
    subst (IsOpen runs) (sym (take-take m n o (omega (arith, lt, length-take n o))))
    (before m (omega (arith, lt, length-take n o)))

-- ---- a chain ends soon

take_good : (o : List Bool) → are_good (take (good_runs o) o) ≡ true
take_good [] = refl
take_good (true ∷ o) =
    subst (λ n. are_good (take n (true ∷ o)) ≡ true) (sym (good_more o)) (take_good o)
take_good (false ∷ o) = refl

good_and_open : (runs : List ChainRun) (o : List Bool) (next : ChainNext) → next_of runs o ≡ next
    → is_ask next ≡ true → are_good o ≡ true → length o < length runs
good_and_open runs o (Ask run false) h ask e = (asked_run runs o run h).within
good_and_open runs o (Ask run true) h ask e =
    absurd (grind (arith, e, behind_bad runs o run h))
good_and_open runs o (Over good) h ask e = absurd (grind (arith, ask))

-- the run that went wrong is one of the chain
bad_within : (runs : List ChainRun) (o : List Bool) → AreOutcomes runs o → are_good o ≡ false
    → good_runs o < length runs
bad_within runs o before e =
    let past : good_runs o + 1 ≤ length o = bad_past o e in
    let here = good_and_open runs (take (good_runs o) o) (next_of runs (take (good_runs o) o)) refl
    (before (good_runs o) (omega (arith, past))) (take_good o) in
    omega (arith, here, past, length-take-le (good_runs o) o (omega (arith, past)))

few_undone : (runs : List ChainRun) (o : List Bool) (run : ℕ) → next_of runs o ≡ Ask run true
    → undone_of o < good_runs o
few_undone runs o run h =
    let undos = undos_before runs (good_runs o) in
    let within : undone_of o < length undos =
    slice_get_within undos (undone_of o) run (asked_undo runs o run h) in
    omega (arith, within, undos_few runs (good_runs o))

room_by : (runs : List ChainRun) (o : List Bool) (next : ChainNext) → AreOutcomes runs o
    → next_of runs o ≡ next → is_ask next ≡ true → length o < 2 * length runs
room_by runs o (Ask run false) before h ask = omega (arith, (asked_run runs o run h).within)
room_by runs o (Ask run true) before h ask =
    let bad : are_good o ≡ false = behind_bad runs o run h in
    omega (arith, parts o bad, few_undone runs o run h, bad_within runs o before bad)
room_by runs o (Over good) before h ask = absurd (grind (arith, ask))

-- while it goes on there is room for an outcome more
pub has_room : (runs : List ChainRun) (o : List Bool) → AreOutcomes runs o
    → is_ask (next_of runs o) ≡ true → length o < 2 * length runs
has_room runs o before ask = room_by runs o (next_of runs o) before refl ask

ends_by : (runs : List ChainRun) (o : List Bool) (n : ℕ) → length o ≡ n → AreOutcomes runs o
    → n ≤ 2 * length runs
ends_by runs o zero e before = omega arith
ends_by runs o (suc n) e before =
    let room = has_room runs (take n o) (first_outcomes runs o n before)
    (before n (omega (arith, e))) in
    omega (arith, room, length-take-le n o (omega (arith, e)))

pub ends_soon : EndsSoon
ends_soon runs o before = ends_by runs o (length o) refl before

-- ---- what was asked for stays

get_in_front : {A : Type 0} (xs ys : List A) (k : ℕ) → k < length xs
    → slice_get (xs ++ ys) k ≡ slice_get xs k
get_in_front [] ys k lt = absurd (omega (arith, lt))
get_in_front (x ∷ xs) ys zero lt = refl
get_in_front (x ∷ xs) ys (suc k) lt = get_in_front xs ys k (omega (arith, lt))

runs_get : (n k : ℕ) → k < n
    → slice_get (map ask_run (numbers_from 0 n)) k ≡ Some (Ask k false)
runs_get n k lt =
    slice_get-map ask_run (numbers_from 0 n) k
    ∙ ap (option_map ask_run) (numbers_get 0 n k lt)
    ∙ ap (λ m. Some (Ask m false)) (omega arith)

runs_many : (n : ℕ) → length (map ask_run (numbers_from 0 n)) ≡ n
runs_many n = map_many (numbers_from 0 n) ∙ many 0 n
  where
    map_many : (xs : List ℕ) → length (map ask_run xs) ≡ length xs
    map_many [] = refl
    map_many (x ∷ xs) = ap suc (map_many xs)

    many : (a m : ℕ) → length (numbers_from a m) ≡ m
    many a zero = refl
    many a (suc m) = ap suc (many (a + 1) m)

good_past : (o more : List Bool) → are_good o ≡ true → length o ≤ good_runs (o ++ more)
good_past [] more e = omega arith
good_past (true ∷ o) more e = omega (arith, good_more (o ++ more), good_past o more e)
good_past (false ∷ o) more e = absurd (grind (arith, e))

-- a run that was asked for, whatever came behind it
run_stays_by : (runs : List ChainRun) (o more : List Bool) (b : Bool) → are_good (o ++ more) ≡ b
    → are_good o ≡ true → length o < length runs
    → slice_get (asks_for runs (o ++ more)) (length o) ≡ Some (Ask (length o) false)
run_stays_by runs o more true e good lt =
    ap (λ xs. slice_get xs (length o)) (asks_of_good runs (o ++ more) e)
    ∙ runs_get (length runs) (length o) lt
  where
    asks_of_good : (rs : List ChainRun) (os : List Bool) → are_good os ≡ true
        → asks_for rs os ≡ map ask_run (numbers_from 0 (length rs))
    asks_of_good rs os h = rw h refl
run_stays_by runs o more false e good lt =
    let g = good_runs (o ++ more) in
    let within : length o < g + 1 = omega (arith, good_past o more good) in
    ap (λ xs. slice_get xs (length o)) (asks_of_bad runs (o ++ more) e)
    ∙ get_in_front (map ask_run (numbers_from 0 (g + 1))) (map ask_undo (undos_before runs g))
    (length o) (omega (arith, within, runs_many (g + 1)))
    ∙ runs_get (g + 1) (length o) within

told : (b : Bool) (x : Option ChainNext) (next : ChainNext) → next_by b x ≡ next
    → is_ask next ≡ true → x ≡ Some next
told b None next h ask = absurd (grind (arith, ap is_ask h, ask))
told b (Some asked) next h ask = ap Some h

stays_by : (runs : List ChainRun) (o more : List Bool) (next : ChainNext) (b : Bool)
    → are_good o ≡ b → next_of runs o ≡ next → is_ask next ≡ true
    → slice_get (asks_for runs (o ++ more)) (length o) ≡ Some next
stays_by runs o more next true e h ask =
    let lt = good_and_open runs o next h ask e in
    run_stays_by runs o more (are_good (o ++ more)) refl e lt
    ∙ ap Some (sym (goes_on_while_good runs o e lt) ∙ h)
stays_by runs o more next false e h ask =
    ap (λ xs. slice_get xs (length o))
    (asks_of_bad runs (o ++ more) (still_bad o more e)
    ∙ ap (λ g. map ask_run (numbers_from 0 (g + 1)) ++ map ask_undo (undos_before runs g))
    (same_runs o more e)
    ∙ sym (asks_of_bad runs o e))
    ∙ told (are_good o) (slice_get (asks_for runs o) (length o)) next h ask

pub asks_stay : AsksStay
asks_stay runs o n before lt =
    ap (λ os. slice_get (asks_for runs os) n) (sym (take-append-drop n o))
    ∙ ap (slice_get (asks_for runs (take n o ++ drop n o)))
    (sym (length-take-le n o (omega (arith, lt))))
    ∙ stays_by runs (take n o) (drop n o) (next_of runs (take n o)) (are_good (take n o)) refl refl
    (before n lt)

-- ---- what is asked for is there

run_there : (runs : List ChainRun) (k : ℕ) → k < length runs
    → is_some (ask_at runs (Ask k false)) ≡ true
run_there [] k lt = absurd (omega (arith, lt))
run_there (r ∷ runs) zero lt = refl
run_there (r ∷ runs) (suc k) lt = run_there runs k (omega (arith, lt))

undo_by : (u : Option ChainUndo) → is_some u ≡ true
    → is_some (option_map (λ (x : ChainUndo). ask_with x.job x.given) u) ≡ true
undo_by None h = absurd (grind (arith, h))
undo_by (Some u) h = refl

undo_there : (runs : List ChainRun) (k : ℕ) → has_undo runs k ≡ true
    → is_some (ask_at runs (Ask k true)) ≡ true
undo_there [] k h = absurd (grind (arith, h))
undo_there (r ∷ runs) zero h = undo_by r.undo h
undo_there (r ∷ runs) (suc k) h = undo_there runs k h

there_by : (runs : List ChainRun) (o : List Bool) (next : ChainNext) → next_of runs o ≡ next
    → is_ask next ≡ true → is_some (ask_at runs next) ≡ true
there_by runs o (Ask k false) h ask = run_there runs k (next_within runs o (Ask k false) (sym h))
there_by runs o (Ask k true) h ask = undo_there runs k (undone_were_done runs o k h).1
there_by runs o (Over good) h ask = absurd (grind (arith, ask))

pub next_there : (runs : List ChainRun) (o : List Bool) (next : ChainNext)
    → next ≡ next_of runs o → is_ask (next_of runs o) ≡ true → is_some (ask_at runs next) ≡ true
next_there runs o next h ask = there_by runs o next (sym h) (ap is_ask h ∙ ask)

pub ask_is_there : AskIsThere
ask_is_there runs o before ask none =
    absurd (grind (arith, ap is_some none, next_there runs o (next_of runs o) refl ask))
