-- What stands between two points of a play.
use Rattle.std.specs.Prelude.{◌≡◌, ◌<◌, ℕ, List, [], ◌∷◌, ◌++◌, take, length, Result, Ok, Err}
use Rattle.rb_causes.specs.Sinks.{SinkState, Wrote, FailedBehind}
use Rattle.rb_causes.specs.Spawners.{ShownRuns, Ran}
use Rattle.rb_causes.specs.declared.ending.Ending.{Ending}
use Rattle.rb_causes.specs.declared.spawner.SpawnRun.{SpawnRun}
use Rattle.rb_causes.specs.declared.trouble.Trouble.{Trouble}
use Rattle.rb_causes.specs.declared.trouble.Trouble.TheVariants.{Failed, NoMemory}
use Rattle.rb_top.specs.Play.{Play, Print, Run, Start}

-- From one play these programs were run and this text was printed, and the other play is left.
pub data Plays : Play → List SpawnRun → List ℕ → Play → Type 0 where
  stays : {p : Play} → Plays p [] [] p
  prints : {p q : Play} {gain : List SpawnRun} {text more whole : List ℕ}
      → whole ≡ text ++ more → Plays p gain more q → Plays (Print text p) gain whole q
  runs : {q : Play} {start : Start} {next : Ending → Play} {run : SpawnRun} {gain : List SpawnRun}
      {text : List ℕ} → run.words ≡ start.words → Plays (next run.ending) gain text q
      → Plays (Run start next) (run ∷ gain) text q

-- From this play these programs were run and this text was printed, and then it was broken off
-- inside of a text, behind a proper prefix of it.
pub data Breaks : Play → List SpawnRun → List ℕ → Type 0 where
  cuts : {p : Play} {text prefix : List ℕ} (n : ℕ)
      → n < length text → prefix ≡ take n text → Breaks (Print text p) [] prefix
  prints : {p : Play} {gain : List SpawnRun} {text more whole : List ℕ}
      → whole ≡ text ++ more → Breaks p gain more → Breaks (Print text p) gain whole
  runs : {start : Start} {next : Ending → Play} {run : SpawnRun} {gain : List SpawnRun}
      {text : List ℕ} → run.words ≡ start.words → Breaks (next run.ending) gain text
      → Breaks (Run start next) (run ∷ gain) text

-- The text was written, and then this trouble came: a write failed behind it, or memory was
-- wanting.
abbrev pub EndsBy : Trouble → List ℕ → SinkState → SinkState → Type 0
EndsBy Failed text before after = FailedBehind text before after
EndsBy NoMemory text before after = Wrote text before after

-- The spawner gained runs and the sink took a text, and with them each of these plays came to the
-- other of its name.
pub record Played {K : Type 0} (before after : K → Play) (r r' : ShownRuns) (s s' : SinkState)
    : Type 0 where
  pub gain : List SpawnRun
  pub text : List ℕ
  pub ran : Ran gain r r'
  pub wrote : Wrote text s s'
  pub plays : (k : K) → Plays (before k) gain text (after k)

-- They gained some, and with them each of these plays was broken off by this trouble.
pub record BrokenOff {K : Type 0} (trouble : Trouble) (before : K → Play) (r r' : ShownRuns)
    (s s' : SinkState) : Type 0 where
  pub gain : List SpawnRun
  pub text : List ℕ
  pub ran : Ran gain r r'
  pub ended : EndsBy trouble text s s'
  pub breaks : (k : K) → Breaks (before k) gain text

-- Each of these plays came to the other, or was broken off with the trouble that is answered.
abbrev pub PlaysTo : {K T : Type 0} → (K → Play) → (T → K → Play) → ShownRuns → ShownRuns
    → SinkState → SinkState → Result T Trouble → Type 0
PlaysTo before after r r' s s' (Ok value) = Played before (after value) r r' s s'
PlaysTo before after r r' s s' (Err trouble) = BrokenOff trouble before r r' s s'
