-- The turns of a run, one behind the other.
use Rattle.std.proofs.Common.{◌≡◌, ◌<◌, ◌≤◌, ℕ, suc, ◌+◌, ◌-◌, List, subst, arith}
use Rattle.rb_causes.specs.Sinks.{SinkState}
use Rattle.rb_causes.specs.Spawners.{ShownRuns}
use Rattle.rb_causes.specs.declared.trouble.Trouble.{Trouble}
use Rattle.rb_marks.specs.declared.mark.Mark.{Mark}
use Rattle.rb_top.specs.Drill.{executed}
use Rattle.rb_top.specs.Play.{Play}
use Rattle.rb_top.specs.Played.{Played, BrokenOff}
use Rattle.rb_top.specs.declared.script.DrillJob.{DrillJob}
use Rattle.rb_top.proofs.PlayedLemmas.{played_then, played_broke, played_nothing}

module _ (user : List ℕ) (nodes : List (List ℕ)) (job : DrillJob) (leaves i : ℕ) (marks : List Mark) (before : (List Mark → Play) → Play) where
  -- one turn was made, of those that were left
  pub more_turns : (marks' : List Mark) {r0 r1 r2 : ShownRuns} {t0 t1 t2 : SinkState} → i < leaves
      → Played before (executed (leaves - i) user nodes job marks) r0 r1 t0 t1
      → ((fuel : ℕ) → Played (executed (suc fuel) user nodes job marks) (executed fuel user nodes job marks') r1 r2 t1 t2)
      → Played before (executed (leaves - (i + 1)) user nodes job marks') r0 r2 t0 t2
  more_turns marks' {r0 = r0} {r1 = r1} {t0 = t0} {t1 = t1} left so_far turn =
      let one : leaves - i ≡ suc (leaves - (i + 1)) = omega arith in
      played_then (subst (λ n. Played before (executed n user nodes job marks) r0 r1 t0 t1) one so_far) (turn (leaves - (i + 1)))

  -- there was none to make
  pub no_more_turns : (marks' : List Mark) {r0 r1 r2 : ShownRuns} {t0 t1 t2 : SinkState} → Played before (executed (leaves - i) user nodes job marks) r0 r1 t0 t1
      → ((fuel : ℕ) → Played (executed fuel user nodes job marks) (λ next. next marks') r1 r2 t1 t2) → Played before (λ next. next marks') r0 r2 t0 t2
  no_more_turns marks' so_far none = played_then so_far (none (leaves - i))

  -- one was broken off
  pub cut_turn : (trouble : Trouble) {r0 r1 r2 : ShownRuns} {t0 t1 t2 : SinkState} → i < leaves → Played before (executed (leaves - i) user nodes job marks) r0 r1 t0 t1
      → ((fuel : ℕ) → BrokenOff trouble (executed (suc fuel) user nodes job marks) r1 r2 t1 t2) → BrokenOff trouble before r0 r2 t0 t2
  cut_turn trouble {r0 = r0} {r1 = r1} {t0 = t0} {t1 = t1} left so_far cut =
      let one : leaves - i ≡ suc (leaves - (i + 1)) = omega arith in
      played_broke (subst (λ n. Played before (executed n user nodes job marks) r0 r1 t0 t1) one so_far) (cut (leaves - (i + 1)))

  -- none is left
  pub all_turns : {r0 r1 : ShownRuns} {t0 t1 : SinkState} → leaves ≤ i → Played before (executed (leaves - i) user nodes job marks) r0 r1 t0 t1
      → Played before (λ next. next marks) r0 r1 t0 t1
  all_turns {r0 = r0} {r1 = r1} {t0 = t0} {t1 = t1} none so_far =
      let over : leaves - i ≡ 0 = omega arith in
      subst (λ n. Played before (executed n user nodes job marks) r0 r1 t0 t1) over so_far

-- no turn was made yet
pub first_turn : (user : List ℕ) (nodes : List (List ℕ)) (job : DrillJob) (leaves : ℕ) (marks : List Mark) (r : ShownRuns) (t : SinkState) →
    Played (executed leaves user nodes job marks) (executed (leaves - 0) user nodes job marks) r r t t
first_turn user nodes job leaves marks r t =
    let all : leaves ≡ leaves - 0 = omega arith in
    subst (λ n. Played (executed leaves user nodes job marks) (executed n user nodes job marks) r r t t) all (played_nothing (executed leaves user nodes job marks) r t)
