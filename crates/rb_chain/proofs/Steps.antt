-- What a chain asks for behind one outcome more.
use Rattle.std.proofs.Common.{
  ◌≡◌,
  ◌∙◌,
  ◌<◌,
  ℕ,
  zero,
  suc,
  ◌+◌,
  List,
  [],
  ◌∷◌,
  ◌++◌,
  length,
  Bool,
  true,
  false,
  cond,
  nat_lt,
  Option,
  Some,
  None,
  option_map,
  slice_get,
  unwrap_or,
  ap,
  sym,
  refl,
  arith,
}
use Rattle.std.proofs.lemmas.Bool.Decides.{nat_tests}
use Rattle.rb_causes.specs.Numbers.{numbers_from}
use Rattle.rb_chain.proofs.NextLaws.{
  asked_undo,
  bad_is,
  behind_bad,
  good_at_the_end,
  good_more,
  good_next,
  good_none,
  goes_on_while_good,
  next_behind as undo_next,
  none_behind_bad,
  one_longer,
  undone_of,
  undone_were_done,
}
use Rattle.rb_chain.proofs.Undos.{undo_behind, undo_within}
use Rattle.rb_chain.specs.Following.{IsWithin, next_behind, run_at, undo_before}
use Rattle.rb_chain.specs.Nexts.{
  are_good,
  ask_run,
  ask_undo,
  good_runs,
  is_ask,
  next_by,
  next_of,
  undos_before,
}
use Rattle.rb_chain.specs.declared.chain_next.ChainNext.{ChainNext}
use Rattle.rb_chain.specs.declared.chain_next.ChainNext.TheVariants.{Ask, Over}
use Rattle.rb_chain.specs.declared.run.ChainRun.{ChainRun}

-- ---- a run that is asked for

numbers_at : (a n j k : ℕ) → slice_get (numbers_from a n) j ≡ Some k → (j < n) × (k ≡ a + j)
numbers_at a zero j k h = absurd (grind (arith, h))
numbers_at a (suc n) zero k h =
    let same : a ≡ k = ap (λ o. unwrap_or o a) h in
    (omega arith, omega (arith, same))
numbers_at a (suc n) (suc j) k h =
    let rest = numbers_at (a + 1) n j k h in
    (omega (arith, rest.0), omega (arith, rest.1))

abbrev run_in : ChainNext → ℕ
run_in (Ask run undoing) = run
run_in (Over good) = 0

run_is : (x : Option ℕ) (run : ℕ) → next_by true (option_map ask_run x) ≡ Ask run false
    → x ≡ Some run
run_is None run h = absurd (grind (arith, h))
run_is (Some u) run h = ap (λ n. Some (run_in n)) h

-- it is the one without an outcome, and it is there; all before it went well
pub record IsAskedRun (runs : List ChainRun) (o : List Bool) (run : ℕ) : Type 0 where
  pub good : are_good o ≡ true
  pub place : run ≡ length o
  pub within : length o < length runs

asked_run_by : (runs : List ChainRun) (o : List Bool) (run : ℕ) (b : Bool) → are_good o ≡ b
    → next_of runs o ≡ Ask run false → IsAskedRun runs o run
asked_run_by runs o run true e h =
    let at = numbers_at 0 (length runs) (length o) run
    (run_is (slice_get (numbers_from 0 (length runs)) (length o)) run
    (sym (good_next runs o e) ∙ h)) in
    record { good = e; place = omega (arith, at.1); within = at.0 }
asked_run_by runs o run false e h = absurd (none_behind_bad runs o run e h)

pub asked_run : (runs : List ChainRun) (o : List Bool) (run : ℕ) → next_of runs o ≡ Ask run false
    → IsAskedRun runs o run
asked_run runs o run h = asked_run_by runs o run (are_good o) refl h

within_by : (runs : List ChainRun) (o : List Bool) (next : ChainNext) → next_of runs o ≡ next
    → IsWithin runs next
within_by runs o (Ask run false) h =
    let asked = asked_run runs o run h in
    omega (arith, asked.place, asked.within)
within_by runs o (Ask run true) h = undo_within runs run (undone_were_done runs o run h).1
within_by runs o (Over good) h = tt

-- what is asked for is there
pub next_within : (runs : List ChainRun) (o : List Bool) (next : ChainNext)
    → next ≡ next_of runs o → IsWithin runs next
next_within runs o next h = within_by runs o next (sym h)

-- ---- behind a run

still_good : (o : List Bool) → are_good o ≡ true → are_good (o ++ true ∷ []) ≡ true
still_good [] e = refl
still_good (true ∷ o) e = still_good o e
still_good (false ∷ o) e = absurd (grind (arith, e))

now_bad : (o : List Bool) → are_good (o ++ false ∷ []) ≡ false
now_bad [] = refl
now_bad (true ∷ o) = now_bad o
now_bad (false ∷ o) = refl

all_runs : (o : List Bool) → are_good o ≡ true → good_runs (o ++ false ∷ []) ≡ length o
all_runs [] e = good_none []
all_runs (true ∷ o) e = good_more (o ++ false ∷ []) ∙ ap suc (all_runs o e)
all_runs (false ∷ o) e = absurd (grind (arith, e))

good_by : (runs : List ChainRun) (o : List Bool) (b : Bool)
    → nat_lt (length o + 1) (length runs) ≡ b → are_good o ≡ true
    → next_of runs (o ++ true ∷ []) ≡ cond b (Ask (length o + 1) false) (Over true)
good_by runs o true lt e =
    goes_on_while_good runs (o ++ true ∷ []) (still_good o e)
    (grind (arith, nat_tests, lt, one_longer o true))
    ∙ ap (λ n. Ask n false) (omega (arith, one_longer o true))
good_by runs o false ge e =
    good_at_the_end runs (o ++ true ∷ []) (still_good o e)
    (grind (arith, nat_tests, ge, one_longer o true))

behind_good : (runs : List ChainRun) (o : List Bool) (run : ℕ) → IsAskedRun runs o run
    → next_of runs (o ++ true ∷ []) ≡ run_at runs (run + 1)
behind_good runs o run asked =
    good_by runs o (nat_lt (length o + 1) (length runs)) refl asked.good
    ∙ ap (λ n. run_at runs (n + 1)) (sym asked.place)

behind_bad_run : (runs : List ChainRun) (o : List Bool) (run : ℕ) → IsAskedRun runs o run
    → next_of runs (o ++ false ∷ []) ≡ undo_before runs run
behind_bad_run runs o run asked =
    let runs_are = all_runs o asked.good in
    bad_is runs (o ++ false ∷ []) (now_bad o)
    ∙ ap (λ k. next_by false (option_map ask_undo
    (slice_get (undos_before runs (good_runs (o ++ false ∷ []))) k)))
    (omega (arith, runs_are, one_longer o false))
    ∙ ap (λ g. next_by false (option_map ask_undo (slice_get (undos_before runs g) 0)))
    (runs_are ∙ sym asked.place)

-- ---- behind an undo

behind_undo : (runs : List ChainRun) (o : List Bool) (run : ℕ) (good : Bool)
    → next_of runs o ≡ Ask run true
    → next_of runs (o ++ good ∷ []) ≡ undo_before runs run
behind_undo runs o run good h =
    undo_next runs o good (behind_bad runs o run h)
    ∙ ap (λ x. next_by false (option_map ask_undo x))
    (undo_behind runs (good_runs o) (undone_of o) run (asked_undo runs o run h))

-- ---- both

next_by_step : (runs : List ChainRun) (o : List Bool) (next : ChainNext) (good : Bool)
    → next_of runs o ≡ next → is_ask next ≡ true
    → next_of runs (o ++ good ∷ []) ≡ next_behind runs next good
next_by_step runs o (Ask run false) true h ask = behind_good runs o run (asked_run runs o run h)
next_by_step runs o (Ask run false) false h ask =
    behind_bad_run runs o run (asked_run runs o run h)
next_by_step runs o (Ask run true) true h ask = behind_undo runs o run true h
next_by_step runs o (Ask run true) false h ask = behind_undo runs o run false h
next_by_step runs o (Over well) good h ask = absurd (grind (arith, ask))

-- what is asked for behind an outcome depends on what was asked for alone
pub next_step : (runs : List ChainRun) (o : List Bool) (next : ChainNext) (good : Bool)
    → next ≡ next_of runs o → is_ask (next_of runs o) ≡ true
    → next_behind runs next good ≡ next_of runs (o ++ good ∷ [])
next_step runs o next good h ask =
    sym (next_by_step runs o next good (sym h) (ap is_ask h ∙ ask))

-- at first the first run is asked for
begins_by : (runs : List ChainRun) (b : Bool) → nat_lt 0 (length runs) ≡ b
    → cond b (Ask 0 false) (Over true) ≡ next_of runs []
begins_by runs true lt = sym (goes_on_while_good runs [] refl (grind (arith, nat_tests, lt)))
begins_by runs false ge = sym (good_at_the_end runs [] refl (grind (arith, nat_tests, ge)))

pub next_at_first : (runs : List ChainRun) → run_at runs 0 ≡ next_of runs []
next_at_first runs = begins_by runs (nat_lt 0 (length runs)) refl
