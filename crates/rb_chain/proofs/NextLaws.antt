-- What a chain asks for next.
use Rattle.std.proofs.Common.{
  ◌≡◌,
  ◌≢◌,
  ◌∙◌,
  ◌<◌,
  ◌≤◌,
  ℕ,
  zero,
  suc,
  ◌+◌,
  ◌-◌,
  List,
  [],
  ◌∷◌,
  ◌++◌,
  length,
  map,
  Bool,
  true,
  false,
  cond,
  Option,
  Some,
  None,
  slice_get,
  option_map,
  ap,
  sym,
  refl,
  arith,
}
use Rattle.std.proofs.lemmas.List.{length-map}
use Rattle.std.proofs.lemmas.List.Sums.{take_while-cons}
use Rattle.std.proofs.lemmas.Option.{slice_get-map, slice_get_past}
use Rattle.rb_causes.specs.Numbers.{numbers_from}
use Rattle.rb_chain.proofs.Undos.{
  numbers_get,
  numbers_length,
  undos_owed,
  undos_descend,
  undos_there,
}
use Rattle.rb_chain.specs.Laws.{
  GoesOnWhileGood,
  GoodAtTheEnd,
  NoneBehindBad,
  UndoneWereDone,
  UndoesDescend,
  UndosStopNothing,
  AllIsUndone,
  GoodIsTold,
}
use Rattle.rb_chain.specs.Nexts.{
  are_good,
  ask_run,
  ask_undo,
  asks_for,
  good_runs,
  next_by,
  next_of,
  undos_before,
}
use Rattle.rb_chain.specs.declared.chain_next.ChainNext.{ChainNext}
use Rattle.rb_chain.specs.declared.chain_next.ChainNext.TheVariants.{Ask, Over}
use Rattle.rb_chain.specs.declared.run.ChainRun.{ChainRun}

-- ---- while all went well

by_good : (g : Bool) (xs ys : List ChainNext) (n : ℕ) (x : Option ChainNext) → g ≡ true
    → slice_get xs n ≡ x → next_by g (slice_get (cond g xs ys) n) ≡ next_by true x
by_good true xs ys n x e h = ap (next_by true) h
by_good false xs ys n x e h = absurd (grind (arith, e))

all_runs : List ChainRun → List ChainNext
all_runs runs = map ask_run (numbers_from 0 (length runs))

pub good_next : (runs : List ChainRun) (o : List Bool) → are_good o ≡ true
    → next_of runs o
    ≡ next_by true (option_map ask_run (slice_get (numbers_from 0 (length runs)) (length o)))
good_next runs o e =
    by_good (are_good o) (map ask_run (numbers_from 0 (length runs)))
    (map ask_run (numbers_from 0 (good_runs o + 1))
    ++ map ask_undo (undos_before runs (good_runs o)))
    (length o) (option_map ask_run (slice_get (numbers_from 0 (length runs)) (length o))) e
    (slice_get-map ask_run (numbers_from 0 (length runs)) (length o))

pub goes_on_while_good : GoesOnWhileGood
goes_on_while_good runs o e lt =
    good_next runs o e
    ∙ ap (λ x. next_by true (option_map ask_run x))
    (numbers_get 0 (length runs) (length o) lt ∙ ap Some (omega arith))

pub good_at_the_end : GoodAtTheEnd
good_at_the_end runs o e le =
    good_next runs o e
    ∙ ap (λ x. next_by true (option_map ask_run x))
    (slice_get_past (numbers_from 0 (length runs)) (length o)
    (omega (arith, le, numbers_length 0 (length runs))))

-- ---- behind a bad one

by_bad : (g : Bool) (xs ys : List ChainNext) (n : ℕ) (x : Option ChainNext) → g ≡ false
    → slice_get ys n ≡ x → next_by g (slice_get (cond g xs ys) n) ≡ next_by false x
by_bad true xs ys n x e h = absurd (grind (arith, e))
by_bad false xs ys n x e h = ap (next_by false) h

one_past : (k n : ℕ) → k + suc n ≡ suc (k + n)
one_past k n = omega arith

get_past : {A : Type 0} (xs ys : List A) (k : ℕ)
    → slice_get (xs ++ ys) (k + length xs) ≡ slice_get ys k
get_past [] ys k = ap (slice_get ys) (omega arith)
get_past (x ∷ xs) ys k =
    ap (slice_get (x ∷ (xs ++ ys))) (one_past k (length xs)) ∙ get_past xs ys k

runs_length : (g : ℕ) → length (map ask_run (numbers_from 0 (g + 1))) ≡ g + 1
runs_length g = length-map (numbers_from 0 (g + 1)) ask_run ∙ numbers_length 0 (g + 1)

at_place : (g n k : ℕ) → n ≡ g + 1 + k
    → n ≡ k + length (map ask_run (numbers_from 0 (g + 1)))
at_place g n k e = omega (arith, e, runs_length g)

get_undo : (g n k : ℕ) (us : List ℕ) → n ≡ g + 1 + k
    → slice_get (map ask_run (numbers_from 0 (g + 1)) ++ map ask_undo us) n
    ≡ option_map ask_undo (slice_get us k)
get_undo g n k us e =
    ap (slice_get (map ask_run (numbers_from 0 (g + 1)) ++ map ask_undo us))
    (at_place g n k e)
    ∙ get_past (map ask_run (numbers_from 0 (g + 1))) (map ask_undo us) k
    ∙ slice_get-map ask_undo us k

pub bad_next : (runs : List ChainRun) (o : List Bool) (k : ℕ) → are_good o ≡ false
    → length o ≡ good_runs o + 1 + k
    → next_of runs o
    ≡ next_by false (option_map ask_undo (slice_get (undos_before runs (good_runs o)) k))
bad_next runs o k e n =
    by_bad (are_good o) (map ask_run (numbers_from 0 (length runs)))
    (map ask_run (numbers_from 0 (good_runs o + 1))
    ++ map ask_undo (undos_before runs (good_runs o)))
    (length o) (option_map ask_undo (slice_get (undos_before runs (good_runs o)) k)) e
    (get_undo (good_runs o) (length o) k (undos_before runs (good_runs o)) n)

pub good_more : (o : List Bool) → good_runs (true ∷ o) ≡ suc (good_runs o)
good_more o = ap length (take_while-cons (λ good. good) true o)

pub good_none : (o : List Bool) → good_runs (false ∷ o) ≡ 0
good_none o = ap length (take_while-cons (λ good. good) false o)

pub bad_past : (o : List Bool) → are_good o ≡ false → good_runs o + 1 ≤ length o
bad_past [] e = absurd (grind (arith, e))
bad_past (true ∷ o) e = omega (arith, good_more o, bad_past o e)
bad_past (false ∷ o) e = omega (arith, good_none o)

-- how many undos have an outcome, where a run went wrong
abbrev pub undone_of : List Bool → ℕ
undone_of o = length o - (good_runs o + 1)

pub parts : (o : List Bool) → are_good o ≡ false → length o ≡ good_runs o + 1 + undone_of o
parts o e = omega (arith, bad_past o e)

pub bad_is : (runs : List ChainRun) (o : List Bool) → are_good o ≡ false
    → next_of runs o
    ≡ next_by false (option_map ask_undo
    (slice_get (undos_before runs (good_runs o)) (undone_of o)))
bad_is runs o e = bad_next runs o (undone_of o) e (parts o e)

no_run : (x : Option ℕ) (run : ℕ) → next_by false (option_map ask_undo x) ≢ Ask run false
no_run None run h = absurd (grind (arith, h))
no_run (Some u) run h = absurd (grind (arith, h))

pub none_behind_bad : NoneBehindBad
none_behind_bad runs o run e h =
    no_run (slice_get (undos_before runs (good_runs o)) (undone_of o)) run
    (sym (bad_is runs o e) ∙ h)

-- ---- undos

-- it goes on only behind a bad one
no_undo : (x : Option ℕ) (run : ℕ) → next_by true (option_map ask_run x) ≢ Ask run true
no_undo None run h = absurd (grind (arith, h))
no_undo (Some u) run h = absurd (grind (arith, h))

bad_by : (runs : List ChainRun) (o : List Bool) (run : ℕ) (b : Bool) → are_good o ≡ b
    → next_of runs o ≡ Ask run true → b ≡ false
bad_by runs o run true e h =
    absurd (no_undo (slice_get (numbers_from 0 (length runs)) (length o)) run
    (sym (good_next runs o e) ∙ h))
bad_by runs o run false e h = refl

pub behind_bad : (runs : List ChainRun) (o : List Bool) (run : ℕ) → next_of runs o ≡ Ask run true
    → are_good o ≡ false
behind_bad runs o run h = bad_by runs o run (are_good o) refl h

abbrev run_in : ChainNext → ℕ
run_in (Ask run undoing) = run
run_in (Over good) = 0

pub undo_is : (x : Option ℕ) (run : ℕ) → next_by false (option_map ask_undo x) ≡ Ask run true
    → x ≡ Some run
undo_is None run h = absurd (grind (arith, h))
undo_is (Some u) run h = ap (λ n. Some (run_in n)) h

-- the undo that is asked for stands among those that have to be
pub asked_undo : (runs : List ChainRun) (o : List Bool) (run : ℕ) → next_of runs o ≡ Ask run true
    → slice_get (undos_before runs (good_runs o)) (undone_of o) ≡ Some run
asked_undo runs o run h =
    undo_is (slice_get (undos_before runs (good_runs o)) (undone_of o)) run
    (sym (bad_is runs o (behind_bad runs o run h)) ∙ h)

pub undone_were_done : UndoneWereDone
undone_were_done runs o run h =
    let owed = undos_owed runs (good_runs o) (undone_of o) run (asked_undo runs o run h) in
    (owed.below, owed.undo)

-- ---- one outcome more

pub still_bad : (o more : List Bool) → are_good o ≡ false → are_good (o ++ more) ≡ false
still_bad [] more e = absurd (grind (arith, e))
still_bad (true ∷ o) more e = still_bad o more e
still_bad (false ∷ o) more e = refl

pub same_runs : (o more : List Bool) → are_good o ≡ false → good_runs (o ++ more) ≡ good_runs o
same_runs [] more e = absurd (grind (arith, e))
same_runs (true ∷ o) more e =
    good_more (o ++ more) ∙ ap suc (same_runs o more e) ∙ sym (good_more o)
same_runs (false ∷ o) more e = good_none (o ++ more) ∙ sym (good_none o)

pub one_longer : (o : List Bool) (x : Bool) → length (o ++ x ∷ []) ≡ suc (length o)
one_longer [] x = refl
one_longer (y ∷ o) x = ap suc (one_longer o x)

more_undone : (o : List Bool) (x : Bool) → are_good o ≡ false
    → undone_of (o ++ x ∷ []) ≡ suc (undone_of o)
more_undone o x e = omega (arith, one_longer o x, same_runs o (x ∷ []) e, bad_past o e)

pub next_behind : (runs : List ChainRun) (o : List Bool) (x : Bool) → are_good o ≡ false
    → next_of runs (o ++ x ∷ [])
    ≡ next_by false (option_map ask_undo
    (slice_get (undos_before runs (good_runs o)) (suc (undone_of o))))
next_behind runs o x e =
    bad_is runs (o ++ x ∷ []) (still_bad o (x ∷ []) e)
    ∙ ap (λ g. next_by false (option_map ask_undo
    (slice_get (undos_before runs g) (undone_of (o ++ x ∷ []))))) (same_runs o (x ∷ []) e)
    ∙ ap (λ k. next_by false (option_map ask_undo
    (slice_get (undos_before runs (good_runs o)) k))) (more_undone o x e)

pub undos_stop_nothing : UndosStopNothing
undos_stop_nothing runs o one other e = next_behind runs o one e ∙ sym (next_behind runs o other e)

pub undoes_descend : UndoesDescend
undoes_descend runs o x run later h g =
    undos_descend runs (good_runs o) (undone_of o) run later (asked_undo runs o run h)
    (undo_is (slice_get (undos_before runs (good_runs o)) (suc (undone_of o))) later
    (sym (next_behind runs o x (behind_bad runs o run h)) ∙ g))

-- ---- the end

abbrev good_in : Bool → ChainNext → Bool
good_in b (Ask run undoing) = b
good_in b (Over good) = good

told_good : (x : Option ℕ) (good : Bool) → next_by true (option_map ask_run x) ≡ Over good
    → true ≡ good
told_good None good h = ap (good_in true) h
told_good (Some u) good h = absurd (grind (arith, h))

told_bad : (x : Option ℕ) (good : Bool) → next_by false (option_map ask_undo x) ≡ Over good
    → (false ≡ good) × (x ≡ None)
told_bad None good h = (ap (good_in false) h, refl)
told_bad (Some u) good h = absurd (grind (arith, h))

told_by : (runs : List ChainRun) (o : List Bool) (good b : Bool) → are_good o ≡ b
    → next_of runs o ≡ Over good → b ≡ good
told_by runs o good true e h =
    told_good (slice_get (numbers_from 0 (length runs)) (length o)) good
    (sym (good_next runs o e) ∙ h)
told_by runs o good false e h =
    (told_bad (slice_get (undos_before runs (good_runs o)) (undone_of o)) good
    (sym (bad_is runs o e) ∙ h)).0

pub good_is_told : GoodIsTold
good_is_told runs o good h = told_by runs o good (are_good o) refl h

-- what stands at a place of a list stands before a place at which nothing does
before_none : {A : Type 0} (xs : List A) (k n : ℕ) (x : A) → slice_get xs k ≡ Some x
    → slice_get xs n ≡ None → k < n
before_none [] k n x h g = absurd (grind (arith, h))
before_none (y ∷ xs) k zero x h g = absurd (grind (arith, g))
before_none (y ∷ xs) zero (suc n) x h g = omega arith
before_none (y ∷ xs) (suc k) (suc n) x h g = omega (arith, before_none xs k n x h g)

pub asks_by : (b : Bool) (xs ys : List ChainNext) → b ≡ false → cond b xs ys ≡ ys
asks_by true xs ys e = absurd (grind (arith, e))
asks_by false xs ys e = refl

pub asks_of_bad : (runs : List ChainRun) (o : List Bool) → are_good o ≡ false
    → asks_for runs o
    ≡ map ask_run (numbers_from 0 (good_runs o + 1))
    ++ map ask_undo (undos_before runs (good_runs o))
asks_of_bad runs o e =
    asks_by (are_good o) (map ask_run (numbers_from 0 (length runs)))
    (map ask_run (numbers_from 0 (good_runs o + 1))
    ++ map ask_undo (undos_before runs (good_runs o))) e

pub all_is_undone : AllIsUndone
all_is_undone runs o run h lt u =
    let bad : are_good o ≡ false = good_is_told runs o false h in
    let there = undos_there runs (good_runs o) run lt u in
    let none = (told_bad (slice_get (undos_before runs (good_runs o)) (undone_of o)) false
    (sym (bad_is runs o bad) ∙ h)).1 in
    let k = there.0 in (
      good_runs o + 1 + k,
      omega (
        arith,
        parts o bad,
        before_none (undos_before runs (good_runs o)) k (undone_of o) run there.1 none,
      ),
      ap (λ xs. slice_get xs (good_runs o + 1 + k)) (asks_of_bad runs o bad)
          ∙ get_undo (good_runs o) (good_runs o + 1 + k) k (undos_before runs (good_runs o)) refl
          ∙ ap (option_map ask_undo) there.1,
    )
