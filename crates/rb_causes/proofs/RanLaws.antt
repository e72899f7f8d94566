-- What a spawner gains in one stretch, and in two.
use Rattle.std.proofs.Common.{◌≡◌, List, [], ◌++◌, refl, sym, ◌∙◌, arith}
use Rattle.std.specs.List.{list_all}
use Rattle.std.proofs.lemmas.Bool.{and_parts}
use Rattle.std.proofs.lemmas.List.Elements.{All-nil, All-append, All-weaker}
use Rattle.std.proofs.lemmas.List.Folds.{list_all-append}
use Rattle.rb_causes.specs.Causes.{Rose}
use Rattle.rb_causes.specs.Outside.{is_code}
use Rattle.rb_causes.specs.Spawners.{ShownRuns, Ran}
use Rattle.rb_causes.specs.declared.ending.Ending.TheVariants.{NotStarted}
use Rattle.rb_causes.specs.declared.spawner.SpawnRun.{SpawnRun}
use Rattle.rb_causes.proofs.Written.{gained-nil, gained_twice, rose_since, rose_until}

abbrev IsCaused : ShownRuns → ShownRuns → SpawnRun → Type 0
IsCaused before after run = run.ending ≡ NotStarted → Rose before.faults after.faults

pub ran_nothing : (r : ShownRuns) → Ran [] r r
ran_nothing r = record {
  runs = gained-nil r.runs;
  faults = omega arith;
  cause = All-nil (IsCaused r r);
  steady = λ coded. refl;
}

-- room was made for a run
pub ran_readied : (a b : ShownRuns) → b.runs ≡ a.runs → b.faults ≡ a.faults → Ran [] a b
ran_readied a b same still = record {
  runs = same ∙ gained-nil a.runs;
  faults = omega (arith, still);
  cause = All-nil (IsCaused a b);
  steady = λ coded. still;
}

pub ran_then : {xs ys : List SpawnRun} {a b c : ShownRuns} → Ran xs a b → Ran ys b c
    → Ran (xs ++ ys) a c
ran_then {xs} {ys} {a} {b} {c} h k = record {
  runs = gained_twice a.runs b.runs c.runs xs ys h.runs k.runs;
  faults = omega (arith, h.faults, k.faults);
  cause =
      All-append (IsCaused a c) xs ys
      (All-weaker (IsCaused a b) (IsCaused a c)
      (λ run f is. rose_until a.faults b.faults c.faults (f is) k.faults) xs h.cause)
      (All-weaker (IsCaused b c) (IsCaused a c)
      (λ run f is. rose_since a.faults b.faults c.faults h.faults (f is)) ys k.cause);
  steady = λ coded.
      let is_coded = λ (run : SpawnRun). is_code run.ending in
      let parts = and_parts (list_all is_coded xs) (list_all is_coded ys)
      (sym (list_all-append is_coded xs ys) ∙ coded) in
      k.steady parts.1 ∙ h.steady parts.0;
}

-- where nothing was run before
pub ran_behind : {xs : List SpawnRun} (a b : ShownRuns) {c : ShownRuns} → b.runs ≡ a.runs
    → b.faults ≡ a.faults → Ran xs b c → Ran xs a c
ran_behind a b same still h = ran_then (ran_readied a b same still) h
