-- What is asked for behind an outcome: the same as `Nexts`, step by step; and what a chain keeps.
use Rattle.std.specs.Prelude.{
  ◌≡◌,
  ◌≤◌,
  ◌<◌,
  ◌+◌,
  ◌*◌,
  ◌^◌,
  ℕ,
  Bool,
  true,
  false,
  not,
  ◌&&◌,
  nat_lt,
  List,
  length,
  slice_get,
  option_map,
  if◌then◌else◌,
}
use Rattle.rb_chain.specs.Laws.{AreOutcomes}
use Rattle.rb_chain.specs.Nexts.{ask_undo, next_by, next_of, undos_before}
use Rattle.rb_chain.specs.declared.chain_next.ChainNext.{ChainNext}
use Rattle.rb_chain.specs.declared.chain_next.ChainNext.TheVariants.{Ask, Over}
use Rattle.rb_chain.specs.declared.run.ChainRun.{ChainRun}

-- the run of this number; where there is none, the chain is over
abbrev pub run_at : List ChainRun → ℕ → ChainNext
run_at runs run = if nat_lt run (length runs) then Ask run false else Over true

-- the last undo of the runs before this one; where there is none, the chain is over
abbrev pub undo_before : List ChainRun → ℕ → ChainNext
undo_before runs run = next_by false (option_map ask_undo (slice_get (undos_before runs run) 0))

-- behind a run that went well the next one; behind another, and behind an undo, the undo before it
abbrev pub next_behind : List ChainRun → ChainNext → Bool → ChainNext
next_behind runs (Ask run undoing) good =
    if good && not undoing then run_at runs (run + 1) else undo_before runs run
next_behind runs (Over well) good = Over well

-- a run that is asked for is there
abbrev pub IsWithin : List ChainRun → ChainNext → Type 0
IsWithin runs (Ask run undoing) = run < length runs
IsWithin runs (Over good) = Unit {0}

-- What a chain keeps: each outcome is that of an ask, the next ask is known, and there is room for
-- the outcome of each run and of each undo.
pub record IsFollowed (runs : List ChainRun) (outcomes : List Bool) (next : ChainNext) (room : ℕ)
    : Type 0 where
  pub few : length runs < 2 ^ 32
  pub asked : AreOutcomes runs outcomes
  pub known : next ≡ next_of runs outcomes
  pub enough : 2 * length runs ≤ room
