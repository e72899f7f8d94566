-- The stretch of one start.
use Rattle.std.proofs.Common.{◌≡◌, ℕ, zero, suc, List, [], ◌∷◌, ◌++◌, refl, ap, sym, ◌∙◌, subst, Option, Some, None, append_assoc, ◌+◌, ◌<◌, length, get_or, arith}
use Rattle.std.proofs.lemmas.List.{get_or_read}
use Rattle.rb_causes.specs.Sinks.{SinkState, Wrote}
use Rattle.rb_causes.specs.Spawners.{ShownRuns, Ran}
use Rattle.rb_causes.specs.declared.trouble.Trouble.{Trouble}
use Rattle.rb_causes.specs.declared.trouble.Trouble.TheVariants.{NoMemory}
use Rattle.rb_causes.specs.declared.ending.Ending.{Ending}
use Rattle.rb_marks.specs.First.{first_startable}
use Rattle.rb_marks.specs.FlowState.{FlowState}
use Rattle.rb_marks.specs.Units.{Outline}
use Rattle.rb_marks.specs.declared.mark.Leaf.{Leaf}
use Rattle.rb_marks.specs.declared.mark.Mark.{Mark}
use Rattle.rb_marks.specs.declared.mark.Mark.TheVariants.{Begin, End}
use Rattle.rb_top.specs.Drill.{drill_plan, executed, starts, start_of, first_line, last_line, next_start, marks_with}
use Rattle.rb_top.specs.Play.{Play, Print, Run, Start}
use Rattle.rb_top.specs.Played.{Played, BrokenOff, cuts}
use Rattle.rb_top.specs.declared.script.DrillJob.{DrillJob}
use Rattle.rb_top.proofs.PlayedLemmas.{CutBy, played_then, played_broke, played_nothing, broke_here, text_played, text_broke, run_played, ready_played, not_begun, played_at, played_from, played_to, broke_at, broke_from}

-- what follows the start line
abbrev behind_line : Start → (Ending → Play) → Play
behind_line start next = Run start (λ ending. Print (last_line start ending) (next ending))

some_first_line : (start : Start) → 0 < length (first_line start)
some_first_line start = omega arith

program_played : (start : Start) (ending : Ending) {r1 : ShownRuns} (r2 : ShownRuns) (s1 : SinkState) → Ran (record { words = start.words; ending = ending } ∷ []) r1 r2
    → Played (behind_line start) (λ next. Print (last_line start ending) (next ending)) r1 r2 s1 s1
program_played start ending {r1 = r1} r2 s1 ran =
    run_played start (record { words = start.words; ending = ending }) (λ next e. Print (last_line start e) (next e)) r1 r2 s1 refl ran

module _ (start : Start) {r0 r1 : ShownRuns} {s0 : SinkState} (ready : Ran [] r0 r1) where
  line_played : {s1 : SinkState} → Wrote (first_line start) s0 s1 → Played (starts start) (behind_line start) r0 r1 s0 s1
  line_played wrote = played_then (ready_played (starts start) r0 r1 s0 ready) (text_played (first_line start) (behind_line start) r1 wrote)

  -- it was printed, run and printed
  pub start_played : (ending : Ending) (r2 : ShownRuns) (s1 s2 : SinkState) → Wrote (first_line start) s0 s1
      → Ran (record { words = start.words; ending = ending } ∷ []) r1 r2 → Wrote (last_line start ending) s1 s2
      → Played (starts start) (λ (next : Ending → Play). next ending) r0 r2 s0 s2
  start_played ending r2 s1 s2 first ran last =
      played_then (line_played first) (played_then (program_played start ending r2 s1 ran) (text_played (last_line start ending) (λ next. next ending) r2 last))

  -- its first line was cut
  pub start_cut : (trouble : Trouble) {s1 : SinkState} → CutBy trouble (first_line start) s0 s1 → BrokenOff trouble (starts start) r0 r1 s0 s1
  start_cut trouble cut = played_broke (ready_played (starts start) r0 r1 s0 ready) (text_broke (first_line start) (behind_line start) r1 cut)

  -- memory was wanting before it
  pub start_unmade : BrokenOff NoMemory (starts start) r0 r1 s0 s0
  start_unmade = start_cut NoMemory (not_begun (first_line start) s0 (some_first_line start))

  -- its last line was cut
  pub end_cut : (trouble : Trouble) (ending : Ending) (r2 : ShownRuns) (s1 s2 : SinkState) → Wrote (first_line start) s0 s1
      → Ran (record { words = start.words; ending = ending } ∷ []) r1 r2 → CutBy trouble (last_line start ending) s1 s2 → BrokenOff trouble (starts start) r0 r2 s0 s2
  end_cut trouble ending r2 s1 s2 first ran cut =
      played_broke (line_played first) (played_broke (program_played start ending r2 s1 ran) (text_broke (last_line start ending) (λ next. next ending) r2 cut))

module _ (user : List ℕ) (nodes : List (List ℕ)) (job : DrillJob) (fuel : ℕ) (marks : List Mark) where
  -- what follows a start of the leaf
  abbrev turn_more : Leaf → (List Mark → Play) → Ending → Play
  turn_more leaf next ending = executed fuel user nodes job (marks_with marks leaf ending) next

  turn_is : (leaf : Leaf) (start : Start) → first_startable (drill_plan nodes job) marks ≡ Some leaf → start ≡ start_of user nodes job leaf → (next : List Mark → Play)
      → starts start (turn_more leaf next) ≡ executed (suc fuel) user nodes job marks next
  turn_is leaf start first same next =
      ap (λ s. starts s (turn_more leaf next)) same
      ∙ ap (λ found. next_start found (start_of user nodes job) marks (λ more. executed fuel user nodes job more next) next) (sym first)

  -- the first startable leaf was started
  pub turn_played : (leaf : Leaf) (start : Start) (ending : Ending) (marks' : List Mark) {r r' : ShownRuns} {t t' : SinkState} → first_startable (drill_plan nodes job) marks ≡ Some leaf
      → start ≡ start_of user nodes job leaf → marks' ≡ (marks ++ Begin leaf ∷ []) ++ End leaf ending ∷ []
      → Played (starts start) (λ (next : Ending → Play). next ending) r r' t t' → Played (executed (suc fuel) user nodes job marks) (executed fuel user nodes job marks') r r' t t'
  turn_played leaf start ending marks' first same marked played =
      played_to (λ next. ap (λ ms. executed fuel user nodes job ms next) (sym (marked ∙ append_assoc marks (Begin leaf ∷ []) (End leaf ending ∷ []))))
      (played_from (turn_is leaf start first same) (played_at (turn_more leaf) played))

  -- memory was wanting before it was started
  pub turn_unmade : (leaf : Leaf) → first_startable (drill_plan nodes job) marks ≡ Some leaf → (r : ShownRuns) (s : SinkState) → BrokenOff NoMemory (executed (suc fuel) user nodes job marks) r r s s
  turn_unmade leaf first r s =
      let start = start_of user nodes job leaf in
      broke_from (turn_is leaf start first refl) (broke_at (turn_more leaf) (broke_here (starts start) r s (λ next. cuts 0 (some_first_line start) refl)))

  pub turn_broke : (trouble : Trouble) (leaf : Leaf) (start : Start) {r r' : ShownRuns} {t t' : SinkState} → first_startable (drill_plan nodes job) marks ≡ Some leaf
      → start ≡ start_of user nodes job leaf → BrokenOff trouble (starts start) r r' t t' → BrokenOff trouble (executed (suc fuel) user nodes job marks) r r' t t'
  turn_broke trouble leaf start first same broke = broke_from (turn_is leaf start first same) (broke_at (turn_more leaf) broke)

-- nothing was startable, however many starts were left
no_turn_is : (user : List ℕ) (nodes : List (List ℕ)) (job : DrillJob) (fuel : ℕ) (marks : List Mark) → first_startable (drill_plan nodes job) marks ≡ None → (next : List Mark → Play)
    → next marks ≡ executed fuel user nodes job marks next
no_turn_is user nodes job zero marks none next = refl
no_turn_is user nodes job (suc fuel) marks none next =
    ap (λ found. next_start found (start_of user nodes job) marks (λ more. executed fuel user nodes job more next) next) (sym none)

pub no_turn : (user : List ℕ) (nodes : List (List ℕ)) (job : DrillJob) (fuel : ℕ) (marks : List Mark) (r : ShownRuns) (t : SinkState) → first_startable (drill_plan nodes job) marks ≡ None
    → Played (executed fuel user nodes job marks) (λ next. next marks) r r t t
no_turn user nodes job fuel marks r t none = played_from (no_turn_is user nodes job fuel marks none) (played_nothing (λ next. next marks) r t)

-- the words that were run are a copy of those of the start
pub run_of_words : (start : Start) (ending : Ending) (words : List (List ℕ)) (r1 r2 : ShownRuns) → words ≡ start.words → Ran (record { words = words; ending = ending } ∷ []) r1 r2
    → Ran (record { words = start.words; ending = ending } ∷ []) r1 r2
run_of_words start ending words r1 r2 same ran = subst (λ ws. Ran (record { words = ws; ending = ending } ∷ []) r1 r2) same ran

-- the start of a leaf, from what was read at its places
pub start_is : (user : List ℕ) (nodes : List (List ℕ)) (job : DrillJob) (leaf : Leaf) (node : List ℕ) (slot : ℕ) (steps : List (List (List ℕ))) (step words : List (List ℕ))
    → leaf.node < length nodes → leaf.slot < length job.steps → node ≡ get_or nodes leaf.node node → slot ≡ leaf.slot → steps ≡ job.steps → step ≡ get_or steps leaf.slot step → words ≡ step
    → record { user = user; node = node; step = slot + 1; words = words } ≡ start_of user nodes job leaf
start_is user nodes job leaf node slot steps step words node_in step_in node_is slot_is steps_are step_is words_are =
    let read : step ≡ get_or job.steps leaf.slot [] = get_or_read job.steps leaf.slot step step_in (step_is ∙ ap (λ ss. get_or ss leaf.slot step) steps_are) [] in
    ap (λ n. record { user = user; node = n; step = slot + 1; words = words }) (get_or_read nodes leaf.node node node_in node_is [])
    ∙ ap (λ k. record { user = user; node = get_or nodes leaf.node []; step = k + 1; words = words }) slot_is
    ∙ ap (λ ws. record { user = user; node = get_or nodes leaf.node []; step = leaf.slot + 1; words = ws }) (words_are ∙ read)

-- what is first startable of a flow's plan is so of the plan that it is
pub first_of_plan : (o p : Outline) (marks : List Mark) (found : Option Leaf) → o ≡ p → found ≡ first_startable o marks → first_startable p marks ≡ found
first_of_plan o p marks found same first = sym (first ∙ ap (λ q. first_startable q marks) same)

-- the marks behind a ready, a begin and a finish
pub marks_behind : (marks : List Mark) (readied begun finished : FlowState) (leaf : Leaf) (ending : Ending) → readied.marks ≡ marks → begun.marks ≡ readied.marks ++ Begin leaf ∷ []
    → finished.marks ≡ begun.marks ++ End leaf ending ∷ [] → finished.marks ≡ (marks ++ Begin leaf ∷ []) ++ End leaf ending ∷ []
marks_behind marks readied begun finished leaf ending same first second =
    second ∙ ap (λ ms. ms ++ End leaf ending ∷ []) (first ∙ ap (λ ms. ms ++ Begin leaf ∷ []) same)
