-- Stretches of a play with what the spawner and the sink gained in them.
use Rattle.std.proofs.Common.{◌≡◌, ◌<◌, ℕ, List, [], ◌∷◌, ◌++◌, length, refl, sym, subst, append-nil, IsErrAnd, IfErr, Result, Ok, Err}
use Rattle.rb_causes.specs.Sinks.{SinkState, Wrote, Cut, Writes, IsProperPrefixOf}
use Rattle.rb_causes.specs.Spawners.{ShownRuns, Ran}
use Rattle.rb_causes.specs.declared.ending.Ending.{Ending}
use Rattle.rb_causes.specs.declared.spawner.SpawnRun.{SpawnRun}
use Rattle.rb_causes.specs.declared.trouble.Trouble.{Trouble}
use Rattle.rb_causes.specs.declared.trouble.Trouble.TheVariants.{Failed, NoMemory}
use Rattle.rb_causes.proofs.RanLaws.{ran_nothing, ran_then}
use Rattle.rb_causes.proofs.Written.{wrote_nothing, wrote_then, stopped_then}
use Rattle.rb_top.specs.Output.{PrintsLine}
use Rattle.rb_top.specs.Play.{Play, Print, Run, Start}
use Rattle.rb_top.specs.Played.{Plays, Breaks, Played, BrokenOff, PlaysTo, EndsBy, stays, prints, runs, cuts}
use Rattle.rb_top.proofs.PlayLemmas.{plays_then, plays_break}

-- ---- what the sink took

pub ends_then : {xs : List ℕ} (ys : List ℕ) {s0 s1 : SinkState} (s2 : SinkState) (trouble : Trouble) → Wrote xs s0 s1 → EndsBy trouble ys s1 s2 → EndsBy trouble (xs ++ ys) s0 s2
ends_then ys s2 Failed wrote ended = stopped_then ys s2 Failed wrote ended
ends_then ys s2 NoMemory wrote ended = wrote_then wrote ended

-- a proper prefix of the line, and then this trouble
abbrev pub CutBy : Trouble → List ℕ → SinkState → SinkState → Type 0
CutBy trouble line s s' = (prefix : List ℕ) × IsProperPrefixOf prefix line × EndsBy trouble prefix s s'

pub cut_by : (trouble : Trouble) (line : List ℕ) (s s' : SinkState) → Cut trouble line s s' → CutBy trouble line s s'
cut_by Failed line s s' cut = (cut.prefix, cut.proper, cut.stopped)
cut_by NoMemory line s s' cut =
    (cut.prefix, cut.proper, record { taken = cut.stopped.taken; faults = cut.stopped.faults; wants = cut.stopped.wants; at_fault = cut.stopped.at_fault })

-- the line was not begun, for want of memory
pub not_begun : (line : List ℕ) (s : SinkState) → 0 < length line → CutBy NoMemory line s s
not_begun line s some = ([], (0, some, refl), wrote_nothing s)

pub prints_written : {T : Type 0} (line : List ℕ) (s s' : SinkState) (result : Result T Trouble) → Writes line s s' result → PrintsLine line s s' result
prints_written line s s' (Ok done) wrote = wrote
prints_written line s s' (Err trouble) cut = cut_by trouble line s s' cut

pub prints_nothing : {T : Type 0} (line : List ℕ) (s : SinkState) (result : Result T Trouble) → IsErrAnd result (λ e. e ≡ NoMemory) → 0 < length line → PrintsLine line s s result
prints_nothing line s (Ok done) handed some = absurd handed
prints_nothing line s (Err trouble) handed some = subst (λ t. CutBy t line s s) (sym handed) (not_begun line s some)

-- ---- stretches

module _ {K : Type 0} where
  pub played_then : {before mid after : K → Play} {r0 r1 r2 : ShownRuns} {s0 s1 s2 : SinkState} →
      Played before mid r0 r1 s0 s1 → Played mid after r1 r2 s1 s2 → Played before after r0 r2 s0 s2
  played_then a b = record {
    gain = a.gain ++ b.gain;
    text = a.text ++ b.text;
    ran = ran_then a.ran b.ran;
    wrote = wrote_then a.wrote b.wrote;
    plays = λ k. plays_then (a.plays k) (b.plays k);
  }

  pub played_broke : {trouble : Trouble} {before mid : K → Play} {r0 r1 r2 : ShownRuns} {s0 s1 s2 : SinkState} →
      Played before mid r0 r1 s0 s1 → BrokenOff trouble mid r1 r2 s1 s2 → BrokenOff trouble before r0 r2 s0 s2
  played_broke {trouble = trouble} {s2 = s2} a b = record {
    gain = a.gain ++ b.gain;
    text = a.text ++ b.text;
    ran = ran_then a.ran b.ran;
    ended = ends_then b.text s2 trouble a.wrote b.ended;
    breaks = λ k. plays_break (a.plays k) (b.breaks k);
  }

  -- nothing was done
  pub played_nothing : (before : K → Play) (r : ShownRuns) (s : SinkState) → Played before before r r s s
  played_nothing before r s = record { gain = []; text = []; ran = ran_nothing r; wrote = wrote_nothing s; plays = λ k. stays }

  -- memory was wanting before a text that is left to print
  pub broke_here : (before : K → Play) (r : ShownRuns) (s : SinkState) → ((k : K) → Breaks (before k) [] []) → BrokenOff NoMemory before r r s s
  broke_here before r s cut = record { gain = []; text = []; ran = ran_nothing r; ended = wrote_nothing s; breaks = cut }

  -- a text was printed, or a proper prefix of it
  pub text_played : (text : List ℕ) (next : K → Play) (r : ShownRuns) {s s' : SinkState} → Wrote text s s' → Played (λ k. Print text (next k)) next r r s s'
  text_played text next r wrote = record {
    gain = [];
    text = text;
    ran = ran_nothing r;
    wrote = wrote;
    plays = λ k. prints (sym (append-nil text)) stays;
  }

  pub text_broke : {trouble : Trouble} (text : List ℕ) (next : K → Play) (r : ShownRuns) {s s' : SinkState} → CutBy trouble text s s' → BrokenOff trouble (λ k. Print text (next k)) r r s s'
  text_broke text next r (prefix, (n, short, is), ended) = record {
    gain = [];
    text = prefix;
    ran = ran_nothing r;
    ended = ended;
    breaks = λ k. cuts n short is;
  }

  -- a program was run
  pub run_played : (start : Start) (run : SpawnRun) (next : K → Ending → Play) (r r' : ShownRuns) (s : SinkState) →
      run.words ≡ start.words → Ran (run ∷ []) r r' → Played (λ k. Run start (next k)) (λ k. next k run.ending) r r' s s
  run_played start run next r r' s words ran = record { gain = run ∷ []; text = []; ran = ran; wrote = wrote_nothing s; plays = λ k. runs words stays }

  -- room was made
  pub ready_played : (before : K → Play) (r r' : ShownRuns) (s : SinkState) → Ran [] r r' → Played before before r r' s s
  ready_played before r r' s ran = record { gain = []; text = []; ran = ran; wrote = wrote_nothing s; plays = λ k. stays }

  -- the same stretch to plays that are equal
  pub played_to : {before after after' : K → Play} {r r' : ShownRuns} {s s' : SinkState} → ((k : K) → after k ≡ after' k) → Played before after r r' s s' → Played before after' r r' s s'
  played_to {before = before} same a = record { gain = a.gain; text = a.text; ran = a.ran; wrote = a.wrote; plays = λ k. subst (λ q. Plays (before k) a.gain a.text q) (same k) (a.plays k) }

  pub played_from : {before before' after : K → Play} {r r' : ShownRuns} {s s' : SinkState} → ((k : K) → before k ≡ before' k) → Played before after r r' s s' → Played before' after r r' s s'
  played_from {after = after} same a = record { gain = a.gain; text = a.text; ran = a.ran; wrote = a.wrote; plays = λ k. subst (λ p. Plays p a.gain a.text (after k)) (same k) (a.plays k) }

  pub broke_from : {trouble : Trouble} {before before' : K → Play} {r r' : ShownRuns} {s s' : SinkState} → ((k : K) → before k ≡ before' k) → BrokenOff trouble before r r' s s' → BrokenOff trouble before' r r' s s'
  broke_from same a = record { gain = a.gain; text = a.text; ran = a.ran; ended = a.ended; breaks = λ k. subst (λ p. Breaks p a.gain a.text) (same k) (a.breaks k) }

  -- an error that was handed on, where errors alone are spoken of
  pub broke_handed : {T : Type 0} (result : Result T Trouble) (trouble : Trouble) → IsErrAnd result (λ e. e ≡ trouble) → (before : K → Play) (r r' : ShownRuns) (s s' : SinkState)
      → BrokenOff trouble before r r' s s' → IfErr result (λ t. BrokenOff t before r r' s s')
  broke_handed (Ok x) trouble handed before r r' s s' broke = tt
  broke_handed (Err e) trouble handed before r r' s s' broke = subst (λ t. BrokenOff t before r r' s s') (sym handed) broke

-- the same stretch of plays with other names
pub played_at : {J K : Type 0} (name : J → K) {before after : K → Play} {r r' : ShownRuns} {s s' : SinkState} →
    Played before after r r' s s' → Played (λ j. before (name j)) (λ j. after (name j)) r r' s s'
played_at name a = record { gain = a.gain; text = a.text; ran = a.ran; wrote = a.wrote; plays = λ j. a.plays (name j) }

pub broke_at : {J K : Type 0} (name : J → K) {trouble : Trouble} {before : K → Play} {r r' : ShownRuns} {s s' : SinkState} →
    BrokenOff trouble before r r' s s' → BrokenOff trouble (λ j. before (name j)) r r' s s'
broke_at name a = record { gain = a.gain; text = a.text; ran = a.ran; ended = a.ended; breaks = λ j. a.breaks (name j) }

-- ---- by the result of a call

module _ {K T : Type 0} where
  -- an error that was handed on
  pub plays_handed : (result : Result T Trouble) (trouble : Trouble) → IsErrAnd result (λ e. e ≡ trouble) → (before : K → Play) (after : T → K → Play) (r r' : ShownRuns) (s s' : SinkState)
      → BrokenOff trouble before r r' s s' → PlaysTo before after r r' s s' result
  plays_handed (Ok value) trouble handed before after r r' s s' broke = absurd handed
  plays_handed (Err e) trouble handed before after r r' s s' broke = subst (λ t. BrokenOff t before r r' s s') (sym handed) broke

  -- what follows from what a last call did
  pub plays_map : {L : Type 0} {before : K → Play} {after : T → K → Play} {before' : L → Play} {after' : T → L → Play} {r r' t t' : ShownRuns} {s s' u u' : SinkState} (result : Result T Trouble)
      → ((value : T) → Played before (after value) r r' s s' → Played before' (after' value) t t' u u')
      → ((trouble : Trouble) → BrokenOff trouble before r r' s s' → BrokenOff trouble before' t t' u u')
      → PlaysTo before after r r' s s' result → PlaysTo before' after' t t' u u' result
  plays_map (Ok value) ok err did = ok value did
  plays_map (Err trouble) ok err did = err trouble did

  -- what follows from a last print
  pub plays_printed : {before : K → Play} {after : T → K → Play} {r r' : ShownRuns} {u u' : SinkState} (line : List ℕ) (s s' : SinkState) (result : Result T Trouble) → PrintsLine line s s' result
      → ((value : T) → Wrote line s s' → Played before (after value) r r' u u')
      → ((trouble : Trouble) → CutBy trouble line s s' → BrokenOff trouble before r r' u u')
      → PlaysTo before after r r' u u' result
  plays_printed line s s' (Ok value) wrote ok err = ok value wrote
  plays_printed line s s' (Err trouble) cut ok err = err trouble cut
