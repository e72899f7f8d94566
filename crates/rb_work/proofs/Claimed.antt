-- What a Claim adds, and what it is answered.
use Rattle.std.proofs.Common.{◌≡◌, ◌∙◌, ◌≤◌, ◌⊎◌, ℕ, suc, ℤ, List, [], ◌∷◌, ◌++◌, take, length, reverse, Bool, true, false, Option, Some, None, slice_get, option_to_list, ap, sym, refl, inl, inr, if◌then◌else◌}
use Rattle.std.proofs.Math.Seq.{take-length}
use Rattle.std.proofs.lemmas.Bool.{false≢true}
use Rattle.rb_causes.specs.declared.row.Row.{Row}
use Rattle.rb_causes.proofs.Lists.{from_filter}
use Rattle.rb_marks.specs.First.{first_startable}
use Rattle.rb_marks.specs.declared.mark.Leaf.{Leaf}
use Rattle.rb_log.specs.Rows.{is_begin, begin_row, withdraw_row}
use Rattle.rb_log.specs.Tasks.{TaskValue}
use Rattle.rb_log.specs.Executions.{Execution, executions, is_running}
use Rattle.rb_log.specs.LogState.{LogState, log_state, moment, running_executions}
use Rattle.rb_log.specs.Moves.{Moved, only, limited}
use Rattle.rb_log.specs.Claims.{claim, claimed, claim_among, is_closed, leaf_number_in, refused_again, taken, task_of}
use Rattle.rb_log.specs.Records.{IsTrueAnswer, Follows, without_kept}
use Rattle.rb_log.specs.Told.{record_of}
use Rattle.rb_log.specs.declared.answer.Answer.{Answer}
use Rattle.rb_log.specs.declared.answer.Answer.TheVariants as answer
use Rattle.rb_log.specs.declared.call.Call.TheVariants.{Claim}
use Rattle.rb_log.specs.Withdrawals.{is_withdrawal}
use Rattle.rb_log.proofs.RightLaws.{among_need, if_need, unlimited}
use Rattle.rb_work.proofs.Lists.{no_more}

-- ---- the rules of a claim

-- the first leaf that may start, and its Begin
pub record Gives (es : List Execution) (now : ℤ) (worker : ℕ) (t : TaskValue) (row : Option Row)
    : Type 0 where
  pub place : ℕ
  pub execution : Execution
  pub leaf : Leaf
  pub there : slice_get es place ≡ Some execution
  pub first : first_startable execution.accepted.plan execution.marks ≡ Some leaf
  pub task : t ≡ task_of execution leaf worker
  pub row_is : row
      ≡ Some (begin_row now execution.number (leaf_number_in execution leaf) worker)

-- a node is withdrawn, and the row that says so is no Begin
pub record Withdraws (m : Moved) : Type 0 where
  pub row : Row
  pub row_is : m.row ≡ Some row
  pub other : is_begin row ≡ false
  pub word : is_withdrawal m.answer ≡ true

-- no row is added
pub record GivesNone (m : Moved) : Type 0 where
  pub row : m.row ≡ None
  pub word : (m.answer ≡ answer.Idle) ⊎ (m.answer ≡ answer.Closed)

abbrev pub ByRule : List Execution → ℤ → ℕ → Moved → Type 0
ByRule es now worker m =
    ((t : TaskValue) × (m.answer ≡ answer.Task t) × Gives es now worker t m.row)
    ⊎ (Withdraws m ⊎ GivesNone m)

one_on : (e : Execution) (es : List Execution) (now : ℤ) (worker : ℕ) (m : Moved)
    → ByRule es now worker m → ByRule (e ∷ es) now worker m
one_on e es now worker m (inl h) =
    let g = h.2 in
    inl (
      h.0,
      h.1,
      record {
        place = suc g.place;
        execution = g.execution;
        leaf = g.leaf;
        there = g.there;
        first = g.first;
        task = g.task;
        row_is = g.row_is;
      },
    )
one_on e es now worker m (inr h) = inr h

taken_by : (s : LogState) (e : Execution) (es : List Execution) (now : ℤ) (worker : ℕ) (leaf : Leaf)
    (refused : _) → first_startable e.accepted.plan e.marks ≡ Some leaf
    → ByRule (e ∷ es) now worker (taken s e now worker leaf refused)
taken_by s e es now worker leaf [] is =
    inl (
      task_of e leaf worker,
      refl,
      record {
        place = 0;
        execution = e;
        leaf = leaf;
        there = refl;
        first = is;
        task = refl;
        row_is = refl;
      },
    )
taken_by s e es now worker leaf (d ∷ ds) is =
    inr (inl (record {
      row = withdraw_row now e.number leaf.node s.policy_number;
      row_is = refl;
      other = refl;
      word = refl;
    }))

claimed_by : (s : LogState) (e : Execution) (es : List Execution) (now : ℤ) (worker : ℕ)
    (leaf : Option Leaf) (next : Moved) → first_startable e.accepted.plan e.marks ≡ leaf
    → ByRule es now worker next → ByRule (e ∷ es) now worker (claimed s e now worker leaf next)
claimed_by s e es now worker None next is h = one_on e es now worker next h
claimed_by s e es now worker (Some leaf) next is h =
    taken_by s e es now worker leaf (refused_again s e leaf) is

among_by : (s : LogState) (now : ℤ) (worker : ℕ) (es : List Execution)
    → ByRule es now worker (claim_among s now worker es)
among_by s now worker [] = inr (inr (record { row = refl; word = inl refl }))
among_by s now worker (e ∷ es) =
    claimed_by s e es now worker (first_startable e.accepted.plan e.marks)
    (claim_among s now worker es) refl (among_by s now worker es)

if_closed : (b : Bool) (es : List Execution) (now : ℤ) (worker : ℕ) (m : Moved)
    → ByRule es now worker m
    → ByRule es now worker (if b then only answer.Closed else m)
if_closed true es now worker m h = inr (inr (record { row = refl; word = inr refl }))
if_closed false es now worker m h = h

claim_by : (s : LogState) (now : ℤ) (worker : ℕ)
    → ByRule (running_executions s) now worker (claim s now worker)
claim_by s now worker =
    if_closed (is_closed s) (running_executions s) now worker
    (claim_among s now worker (running_executions s))
    (among_by s now worker (running_executions s))

-- none of its rows asks for room
claim_need : (s : LogState) (now : ℤ) (worker : ℕ) → (claim s now worker).need ≡ None
claim_need s now worker =
    if_need (is_closed s) (claim_among s now worker (running_executions s))
    (among_need s now worker (running_executions s))

-- ---- a record of a claim

-- what became of an append is told by no claim
task_plain : (a : Answer) (t : TaskValue) → without_kept a ≡ answer.Task t → a ≡ answer.Task t
task_plain (answer.Reported kept) t h = absurd (let never : ⊥ = cc in never)
task_plain (answer.DoorClosed kept) t h = absurd (let never : ⊥ = cc in never)
task_plain other t h = h

idle_plain : (a : Answer) → without_kept a ≡ answer.Idle → a ≡ answer.Idle
idle_plain (answer.Reported kept) h = absurd (let never : ⊥ = cc in never)
idle_plain (answer.DoorClosed kept) h = absurd (let never : ⊥ = cc in never)
idle_plain other h = h

closed_plain : (a : Answer) → without_kept a ≡ answer.Closed → a ≡ answer.Closed
closed_plain (answer.Reported kept) h = absurd (let never : ⊥ = cc in never)
closed_plain (answer.DoorClosed kept) h = absurd (let never : ⊥ = cc in never)
closed_plain other h = h

withdrawal_plain : (a : Answer) → is_withdrawal (without_kept a) ≡ is_withdrawal a
withdrawal_plain (answer.Reported kept) = refl
withdrawal_plain (answer.DoorClosed kept) = refl
withdrawal_plain other = refl

-- The Begin of a task stands behind the rows that there were, and its leaf is the first that may
-- start of an execution of these.
pub record Began (worker : ℕ) (t : TaskValue) (before : ℕ) (log : List Row) : Type 0 where
  pub now : ℤ
  pub place : ℕ
  pub execution : Execution
  pub leaf : Leaf
  pub there : slice_get (executions (reverse (take before log))) place ≡ Some execution
  pub first : first_startable execution.accepted.plan execution.marks ≡ Some leaf
  pub task : t ≡ task_of execution leaf worker
  pub log_is : log
      ≡ take before log
      ++ begin_row now execution.number (leaf_number_in execution leaf) worker ∷ []

-- no row was added, and one of these words was the answer
pub record WasIdle (a : Answer) (before : ℕ) (log : List Row) : Type 0 where
  pub same : length log ≡ before
  pub word : (a ≡ answer.Idle) ⊎ ((a ≡ answer.Closed)
      ⊎ ((a ≡ answer.StoreFault) ⊎ (a ≡ answer.NoMemory)))

-- the row of a withdrawal stands behind the rows that there were
pub record WasWithdrawn (a : Answer) (before : ℕ) (log : List Row) : Type 0 where
  pub row : Row
  pub other : is_begin row ≡ false
  pub word : is_withdrawal a ≡ true
  pub log_is : log ≡ take before log ++ row ∷ []

abbrev pub WasClaimed : ℕ → Answer → ℕ → List Row → Type 0
WasClaimed worker a before log =
    ((t : TaskValue) × (a ≡ answer.Task t) × Began worker t before log)
    ⊎ (WasWithdrawn a before log ⊎ WasIdle a before log)

-- where no node was withdrawn
abbrev pub WasTold : ℕ → Answer → ℕ → List Row → Type 0
WasTold worker a before log =
    ((t : TaskValue) × (a ≡ answer.Task t) × Began worker t before log) ⊎ WasIdle a before log

pub told_by : (worker : ℕ) (a : Answer) (before : ℕ) (log : List Row) → is_withdrawal a ≡ false
    → WasClaimed worker a before log → WasTold worker a before log
told_by worker a before log none (inl h) = inl h
told_by worker a before log none (inr (inl h)) = absurd (false≢true (sym none ∙ h.word))
told_by worker a before log none (inr (inr h)) = inr h

-- where one was
not_withdrawn : (a b : Answer) → is_withdrawal a ≡ true → a ≡ b → is_withdrawal b ≡ false → ⊥
not_withdrawn a b is same none = false≢true (sym none ∙ (ap is_withdrawal (sym same) ∙ is))

pub withdrawn_by : (worker : ℕ) (a : Answer) (before : ℕ) (log : List Row) → is_withdrawal a ≡ true
    → WasClaimed worker a before log → WasWithdrawn a before log
withdrawn_by worker a before log is (inl h) =
    absurd (not_withdrawn a (answer.Task h.0) is h.1 refl)
withdrawn_by worker a before log is (inr (inl h)) = h
withdrawn_by worker a before log is (inr (inr h)) = absurd (never h.word)
  where
    never : (a ≡ answer.Idle) ⊎ ((a ≡ answer.Closed)
        ⊎ ((a ≡ answer.StoreFault) ⊎ (a ≡ answer.NoMemory))) → ⊥
    never (inl same) = not_withdrawn a answer.Idle is same refl
    never (inr (inl same)) = not_withdrawn a answer.Closed is same refl
    never (inr (inr (inl same))) = not_withdrawn a answer.StoreFault is same refl
    never (inr (inr (inr same))) = not_withdrawn a answer.NoMemory is same refl

module _ (worker room before : ℕ) (at : ℤ) (log : List Row) (within : before ≤ length log) where
  abbrev past : List Row
  past = reverse (take before log)

  abbrev now : ℤ
  now = moment (log_state past) at

  abbrev moved : Moved
  moved = claim (log_state past) now worker

  owed : limited (log_state past) room moved ≡ moved
  owed = unlimited (log_state past) room moved (claim_need (log_state past) now worker)

  rows : (row : Option Row) → take (length log) log ≡ take before log ++ option_to_list row
      → log ≡ take before log ++ option_to_list row
  rows row h = sym (take-length log) ∙ h

  by_rule : (a : Answer) → without_kept a ≡ moved.answer
      → log ≡ take before log ++ option_to_list moved.row
      → ByRule (running_executions (log_state past)) now worker moved
      → WasClaimed worker a before log
  by_rule a says is (inl h) =
      let g = h.2 in
      let there = from_filter is_running (executions past) g.place g.execution g.there in
      inl (
        h.0,
        task_plain a h.0 (says ∙ h.1),
        record {
          now = now;
          place = there.0;
          execution = g.execution;
          leaf = g.leaf;
          there = there.1;
          first = g.first;
          task = g.task;
          log_is = is ∙ ap (λ row. take before log ++ option_to_list row) g.row_is;
        },
      )
  by_rule a says is (inr (inl h)) =
      inr (inl (record {
        row = h.row;
        other = h.other;
        word = sym (withdrawal_plain a) ∙ (ap is_withdrawal says ∙ h.word);
        log_is = is ∙ ap (λ row. take before log ++ option_to_list row) h.row_is;
      }))
  by_rule a says is (inr (inr h)) =
      inr (inr (record {
        same = no_more before log within
            (is ∙ ap (λ row. take before log ++ option_to_list row) h.row);
        word = elim h.word [
          | inl idle ↦ inl (idle_plain a (says ∙ idle))
          | inr closed ↦ inr (inl (closed_plain a (says ∙ closed)))
        ];
      }))

  followed : (a : Answer) → Follows log room (record_of (Claim worker at) a before log)
      → WasClaimed worker a before log
  followed a h =
      by_rule a (h.says ∙ ap (λ (m : Moved). m.answer) owed)
      (rows moved.row
      (h.rows ∙ ap (λ (m : Moved). take before log ++ option_to_list m.row) owed))
      (claim_by (log_state past) now worker)

  pub was_claimed : (a : Answer)
      → IsTrueAnswer a log room (record_of (Claim worker at) a before log)
      → WasClaimed worker a before log
  was_claimed answer.NoMemory h =
      inr (inr (record { same = h.same; word = inr (inr (inr refl)) }))
  was_claimed answer.StoreFault h =
      inr (inr (record { same = h.same; word = inr (inr (inl refl)) }))
  was_claimed other h = followed _ h
