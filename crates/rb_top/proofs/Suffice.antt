-- As many starts as a run has leaves suffice: each start leaves fewer leaves undone.
use Rattle.std.proofs.Common.{◌≡◌, ◌≤◌, ◌<◌, ℕ, zero, suc, ◌+◌, ◌*◌, ◌-◌, Bool, true, false, nat_eq, if◌then◌else◌, List, [], ◌∷◌, ◌++◌, append_assoc, length, Option, Some, None, refl, ap, sym, ◌∙◌, subst, arith}
use Rattle.rb_causes.specs.declared.ending.Ending.{Ending}
use Rattle.rb_causes.specs.declared.ending.Ending.TheVariants.{Code, NotStarted}
use Rattle.rb_marks.proofs.Growing.{result_kept, end_more, begin_leaves}
use Rattle.rb_marks.proofs.Waits.{first_waits}
use Rattle.rb_marks.specs.First.{first_startable}
use Rattle.rb_marks.specs.Results.{of_ending, slot_result, leaf_result}
use Rattle.rb_marks.specs.Units.{is_settled}
use Rattle.rb_marks.specs.declared.mark.Leaf.{Leaf}
use Rattle.rb_marks.specs.declared.mark.Mark.{Mark}
use Rattle.rb_marks.specs.declared.mark.Mark.TheVariants.{Begin, End}
use Rattle.rb_marks.specs.declared.mark.StepResult.{StepResult}
use Rattle.rb_marks.specs.declared.mark.StepResult.TheVariants.{Undone, Good, Bad}
use Rattle.rb_top.specs.Drill.{drill_plan, start_of, first_line, last_line, marks_with, next_start, executed}
use Rattle.rb_top.specs.Laws.{StartsSuffice}
use Rattle.rb_top.specs.Play.{Play, transcript, printed, with_start}
use Rattle.rb_top.specs.declared.script.DrillJob.{DrillJob}
use Rattle.rb_top.proofs.Leaves.{first_within}

-- one for what is not settled
abbrev owed : StepResult → ℕ
owed Undone = 1
owed Good = 0
owed Bad = 0

owed_at_most : (r : StepResult) → owed r ≤ 1
owed_at_most Undone = omega arith
owed_at_most Good = omega arith
owed_at_most Bad = omega arith

-- how many of a node's next commands are undone
abbrev slots_left : List Mark → ℕ → ℕ → ℕ → ℕ
slots_left marks node n zero = 0
slots_left marks node n (suc k) = owed (slot_result marks node n) + slots_left marks node (n + 1) k

-- how many commands of the next nodes are undone
abbrev nodes_left : List Mark → ℕ → ℕ → ℕ → ℕ
nodes_left marks node zero slots = 0
nodes_left marks node (suc k) slots = slots_left marks node 0 slots + nodes_left marks (node + 1) k slots

slots_at_most : (marks : List Mark) (node n k : ℕ) → slots_left marks node n k ≤ k
slots_at_most marks node n zero = omega arith
slots_at_most marks node n (suc k) =
    let one = owed_at_most (slot_result marks node n) in
    let rest = slots_at_most marks node (n + 1) k in
    omega (arith, one, rest)

one_node_more : (k slots : ℕ) → suc k * slots ≡ slots + k * slots
one_node_more k slots = omega arith

nodes_at_most : (marks : List Mark) (node k slots : ℕ) → nodes_left marks node k slots ≤ k * slots
nodes_at_most marks node zero slots = omega arith
nodes_at_most marks node (suc k) slots =
    let here = slots_at_most marks node 0 slots in
    let rest = nodes_at_most marks (node + 1) k slots in
    subst (λ m. slots_left marks node 0 slots + nodes_left marks (node + 1) k slots ≤ m) (sym (one_node_more k slots)) (omega (arith, here, rest))

kept_or_owed : (r r' : StepResult) → (is_settled r ≡ true → r' ≡ r) → owed r' ≤ owed r
kept_or_owed Undone r' kept = owed_at_most r'
kept_or_owed Good r' kept = let same = kept refl in rw same (omega arith)
kept_or_owed Bad r' kept = let same = kept refl in rw same (omega arith)

module _ (marks more : List Mark) where
  no_slot_more : (node n : ℕ) → owed (slot_result (marks ++ more) node n) ≤ owed (slot_result marks node n)
  no_slot_more node n = kept_or_owed (slot_result marks node n) (slot_result (marks ++ more) node n) (λ settled. result_kept marks more (record { node = node; slot = n }) settled)

  no_slots_more : (node n k : ℕ) → slots_left (marks ++ more) node n k ≤ slots_left marks node n k
  no_slots_more node n zero = omega arith
  no_slots_more node n (suc k) = let one = no_slot_more node n in let rest = no_slots_more node (n + 1) k in omega (arith, one, rest)

  no_nodes_more : (node k slots : ℕ) → nodes_left (marks ++ more) node k slots ≤ nodes_left marks node k slots
  no_nodes_more node zero slots = omega arith
  no_nodes_more node (suc k) slots = let here = no_slots_more node 0 slots in let rest = no_nodes_more (node + 1) k slots in omega (arith, here, rest)

  module _ (leaf : Leaf) (fewer : owed (slot_result (marks ++ more) leaf.node leaf.slot) + 1 ≤ owed (slot_result marks leaf.node leaf.slot)) where
    fewer_slots : (n k : ℕ) → n ≤ leaf.slot → leaf.slot < n + k → slots_left (marks ++ more) leaf.node n k + 1 ≤ slots_left marks leaf.node n k
    fewer_slots n zero low high = absurd (omega (arith, low, high))
    fewer_slots n (suc k) low high = at_or_behind (leaf.slot - n) refl (λ behind. fewer_slots (n + 1) k (omega (arith, behind)) (omega (arith, high)))
      where
        at_or_behind : (d : ℕ) → leaf.slot - n ≡ d → (n < leaf.slot → slots_left (marks ++ more) leaf.node (n + 1) k + 1 ≤ slots_left marks leaf.node (n + 1) k)
            → slots_left (marks ++ more) leaf.node n (suc k) + 1 ≤ slots_left marks leaf.node n (suc k)
        at_or_behind zero here others =
            let at : n ≡ leaf.slot = omega (arith, low, here) in
            let rest = no_slots_more leaf.node (n + 1) k in
            let first : owed (slot_result (marks ++ more) leaf.node n) + 1 ≤ owed (slot_result marks leaf.node n) = rw at fewer in
            omega (arith, first, rest)
        at_or_behind (suc d) behind others =
            let rest = others (omega (arith, behind)) in
            let first = no_slot_more leaf.node n in
            omega (arith, first, rest)

    fewer_nodes : (node k slots : ℕ) → node ≤ leaf.node → leaf.node < node + k → leaf.slot < slots → nodes_left (marks ++ more) node k slots + 1 ≤ nodes_left marks node k slots
    fewer_nodes node zero slots low high within = absurd (omega (arith, low, high))
    fewer_nodes node (suc k) slots low high within =
        at_or_behind (leaf.node - node) refl (λ behind. fewer_nodes (node + 1) k slots (omega (arith, behind)) (omega (arith, high)) within)
      where
        at_or_behind : (d : ℕ) → leaf.node - node ≡ d → (node < leaf.node → nodes_left (marks ++ more) (node + 1) k slots + 1 ≤ nodes_left marks (node + 1) k slots)
            → nodes_left (marks ++ more) node (suc k) slots + 1 ≤ nodes_left marks node (suc k) slots
        at_or_behind zero here others =
            let at : node ≡ leaf.node = omega (arith, low, here) in
            let rest = no_nodes_more (node + 1) k slots in
            let first : slots_left (marks ++ more) node 0 slots + 1 ≤ slots_left marks node 0 slots = rw at (fewer_slots 0 slots (omega arith) (omega (arith, within))) in
            omega (arith, first, rest)
        at_or_behind (suc d) behind others =
            let rest = others (omega (arith, behind)) in
            let first = no_slots_more node 0 slots in
            omega (arith, first, rest)

owed_code : (zero_code : Bool) → owed (if zero_code then Good else Bad) ≡ 0
owed_code true = refl
owed_code false = refl

owed_ending : (ending : Ending) → owed (of_ending ending) ≡ 0
owed_ending (Code n) = owed_code (nat_eq n 0)
owed_ending NotStarted = refl

-- a leaf that was undone and ended is not
settles : (marks : List Mark) (leaf : Leaf) (ending : Ending) → leaf_result marks leaf ≡ Undone
    → owed (slot_result (marks_with marks leaf ending) leaf.node leaf.slot) + 1 ≤ owed (slot_result marks leaf.node leaf.slot)
settles marks leaf ending undone =
    let ended : leaf_result (marks_with marks leaf ending) leaf ≡ of_ending ending =
    subst (λ hs. leaf_result hs leaf ≡ of_ending ending) (append_assoc marks (Begin leaf ∷ []) (End leaf ending ∷ []))
    (end_more (marks ++ Begin leaf ∷ []) leaf ending (begin_leaves marks leaf leaf ∙ undone)) in
    let none : owed (leaf_result (marks_with marks leaf ending) leaf) ≡ 0 = ap owed ended ∙ owed_ending ending in
    let one : owed (leaf_result marks leaf) ≡ 1 = ap owed undone in
    omega (arith, none, one)

module _ (user : List ℕ) (nodes : List (List ℕ)) (job : DrillJob) (next : List Mark → Play) where
  abbrev left : List Mark → ℕ
  left marks = nodes_left marks 0 (length nodes) (length job.steps)

  abbrev play : ℕ → List Mark → Play
  play most marks = executed most user nodes job marks next

  fewer_left : (marks : List Mark) (leaf : Leaf) (ending : Ending) → first_startable (drill_plan nodes job) marks ≡ Some leaf → left (marks_with marks leaf ending) + 1 ≤ left marks
  fewer_left marks leaf ending found =
      let within = first_within nodes job marks leaf found in
      fewer_nodes marks (Begin leaf ∷ End leaf ending ∷ []) leaf (settles marks leaf ending (first_waits (drill_plan nodes job) marks leaf found))
      0 (length nodes) (length job.steps) (omega arith) (omega (arith, within.0)) within.1

  -- one turn more changes nothing where nothing is left
  one_turn : (marks : List Mark) (more : List Mark → Play) (found : Option Leaf) → first_startable (drill_plan nodes job) marks ≡ found → left marks ≤ 0
      → next marks ≡ next_start found (start_of user nodes job) marks more next
  one_turn marks more None none left_none = refl
  one_turn marks more (Some leaf) found left_none = let fewer = fewer_left marks leaf NotStarted found in absurd (omega (arith, fewer, left_none))

  turn : (some most : ℕ) (marks : List Mark) (endings : List Ending) (found : Option Leaf) → first_startable (drill_plan nodes job) marks ≡ found
      → ((leaf : Leaf) → first_startable (drill_plan nodes job) marks ≡ Some leaf → (ending : Ending) (later : List Ending)
      → transcript (play some (marks_with marks leaf ending)) later ≡ transcript (play most (marks_with marks leaf ending)) later)
      → transcript (next_start found (start_of user nodes job) marks (λ more. play some more) next) endings ≡ transcript (next_start found (start_of user nodes job) marks (λ more. play most more) next) endings
  turn some most marks endings None found rest = refl
  turn some most marks [] (Some leaf) found rest = refl
  turn some most marks (ending ∷ endings) (Some leaf) found rest =
      let start = start_of user nodes job leaf in
      ap (λ t. printed (first_line start) (with_start start (printed (last_line start ending) t))) (rest leaf found ending endings)

  enough : (some most : ℕ) (marks : List Mark) (endings : List Ending) → left marks ≤ some → left marks ≤ most → transcript (play some marks) endings ≡ transcript (play most marks) endings
  enough zero zero marks endings low high = refl
  enough zero (suc most) marks endings low high = ap (λ p. transcript p endings) (one_turn marks (λ more. play most more) (first_startable (drill_plan nodes job) marks) refl low)
  enough (suc some) zero marks endings low high = ap (λ p. transcript p endings) (sym (one_turn marks (λ more. play some more) (first_startable (drill_plan nodes job) marks) refl high))
  enough (suc some) (suc most) marks endings low high =
      turn some most marks endings (first_startable (drill_plan nodes job) marks) refl
      (λ leaf found ending later.
      let fewer = fewer_left marks leaf ending found in
      enough some most (marks_with marks leaf ending) later (omega (arith, fewer, low)) (omega (arith, fewer, high)))

pub starts_suffice : StartsSuffice
starts_suffice most user nodes job next endings enough_turns =
    let all = nodes_at_most [] 0 (length nodes) (length job.steps) in
    enough user nodes job next most (length nodes * length job.steps) [] endings (omega (arith, all, enough_turns)) all
