-- A Begin, an End or a withdrawal takes one of the rows that are owed, and changes nothing that is
-- held.
use Rattle.std.proofs.Common.{◌≡◌, ◌∙◌, ◌≤◌, ◌<◌, ℕ, ℤ, List, [], ◌∷◌, ◌++◌, length, reverse, Bool, true, false, nat_eq, Option, Some, None, option_to_list, ap, refl, arith, inl, inr, ◌⊎◌, append-nil, if◌then◌else◌}
use Rattle.std.proofs.lemmas.List.{reverse-append}
use Rattle.rb_causes.specs.declared.ending.Ending.{Ending}
use Rattle.rb_causes.specs.declared.row.Row.{Row}
use Rattle.rb_marks.specs.First.{first_startable}
use Rattle.rb_marks.specs.declared.mark.Leaf.{Leaf}
use Rattle.rb_plan.specs.declared.accepted.Dropped.{Dropped}
use Rattle.rb_plan.specs.declared.world.World.{World}
use Rattle.rb_log.specs.Claims.{claim, claim_among, claimed, is_closed, leaf_number_in, refused_again, taken}
use Rattle.rb_log.specs.Executions.{Execution, executions, running_now}
use Rattle.rb_log.specs.Laws.{RoomIsKept}
use Rattle.rb_log.specs.Legal.{Adds, ComesBy, IsAdded, IsLegalLog, call_named, open_leaf, report_named}
use Rattle.rb_log.specs.LogState.{LogState, execution_at, log_state, moment, running_executions}
use Rattle.rb_log.specs.Moves.{Moved, limited, limited_by, only}
use Rattle.rb_log.specs.Rows.{begin_row, end_row, withdraw_row, ending_of}
use Rattle.rb_log.specs.Turn.{unlimited_turn}
use Rattle.rb_log.specs.declared.answer.Answer.TheVariants as answer
use Rattle.rb_log.specs.declared.call.Call.{Call}
use Rattle.rb_log.specs.declared.call.Call.TheVariants.{Claim, Report}
use Rattle.rb_log.specs.declared.task.OpenLeaf.{OpenLeaf}
use Rattle.rb_log.proofs.TurnLaws.{not_none}
use Rattle.rb_demo.specs.Going.{IsGoing, load}

-- ---- moves that need no room

pub unlimited : (s : LogState) (room : ℕ) (m : Moved) (row : Option Row) → m.row ≡ row
    → m.need ≡ None → limited s room m ≡ m
unlimited s room m (Some row) is none = λ i. limited_by s room m (is i) (none i)
unlimited s room m None is none = λ i. limited_by s room m (is i) (none i)

-- a Begin of the worker, or a withdrawal
abbrev pub IsClaimRow : ℤ → ℕ → Row → Type 0
IsClaimRow now worker row =
    ((e : ℕ) × (l : ℕ) × (row ≡ begin_row now e l worker))
    ⊎ ((e : ℕ) × (node : ℕ) × (number : ℕ) × (row ≡ withdraw_row now e node number))

-- A claim needs no room, and adds such a row or nothing.
pub record IsClaimed (now : ℤ) (worker : ℕ) (m : Moved) : Type 0 where
  pub need : m.need ≡ None
  pub row : (m.row ≡ None) ⊎ ((row : Row) × (m.row ≡ Some row) × IsClaimRow now worker row)

taken_is : (s : LogState) (e : Execution) (now : ℤ) (worker : ℕ) (leaf : Leaf) (ds : List Dropped)
    → IsClaimed now worker (taken s e now worker leaf ds)
taken_is s e now worker leaf [] =
    let number : ℕ = leaf_number_in e leaf in
    let row : Row = begin_row now e.number number worker in
    record { need = refl; row = inr (row, refl, inl (e.number, number, refl)) }
taken_is s e now worker leaf (d ∷ ds) =
    let row : Row = withdraw_row now e.number leaf.node s.policy_number in
    record { need = refl; row = inr (row, refl, inr (e.number, leaf.node, s.policy_number, refl)) }

claimed_by : (s : LogState) (e : Execution) (now : ℤ) (worker : ℕ) (o : Option Leaf)
    (later : Moved) → IsClaimed now worker later
    → IsClaimed now worker (claimed s e now worker o later)
claimed_by s e now worker None later h = h
claimed_by s e now worker (Some leaf) later h =
    taken_is s e now worker leaf (refused_again s e leaf)

claimed_among : (s : LogState) (now : ℤ) (worker : ℕ) (es : List Execution)
    → IsClaimed now worker (claim_among s now worker es)
claimed_among s now worker [] = record { need = refl; row = inl refl }
claimed_among s now worker (e ∷ es) =
    claimed_by s e now worker (first_startable e.accepted.plan e.marks)
    (claim_among s now worker es) (claimed_among s now worker es)

claimed_unless : (b : Bool) (now : ℤ) (worker : ℕ) (m : Moved) → IsClaimed now worker m
    → IsClaimed now worker (if b then only answer.Closed else m)
claimed_unless true now worker m h = record { need = refl; row = inl refl }
claimed_unless false now worker m h = h

pub claim_is : (s : LogState) (now : ℤ) (worker : ℕ) → IsClaimed now worker (claim s now worker)
claim_is s now worker =
    claimed_unless (is_closed s) now worker (claim_among s now worker (running_executions s))
    (claimed_among s now worker (running_executions s))

-- ---- what they owe

added_by : (s : LogState) (b : Bool) (row : Row) → b ≡ false → ComesBy b s row
    → IsAdded s row (call_named s row)
added_by s true row is h = absurd (cc)
added_by s false row is h = h

-- behind a row of a call that needs no room
load_by : RoomIsKept → (past : List Row) (row : Row) (call : Call) → 0 < length past
    → IsLegalLog past → (adds : Adds (log_state past) row call)
    → (unlimited_turn adds.reading (log_state past) call).need ≡ None
    → load (row ∷ past) ≤ load past
load_by law past row call opened legal adds none =
    let s : LogState = log_state past in
    let m : Moved = unlimited_turn adds.reading s call in
    let same : limited s (load past) m ≡ m =
    unlimited s (load past) m (Some row) adds.added none in
    law past (load past) call adds.reading row
    (record {
      legal = legal;
      opened = opened;
      may = adds.asked;
      formed = adds.formed;
      read = adds.may_read;
    })
    (omega arith) (ap (λ (x : Moved). x.row) same ∙ adds.added)

-- behind a row that names a claim
claim_load : RoomIsKept → (past : List Row) (now : ℤ) (worker : ℕ) (row : Row) → 0 < length past
    → IsLegalLog past → Adds (log_state past) row (Claim worker now)
    → load (row ∷ past) ≤ load past
claim_load law past now worker row opened legal adds =
    let s : LogState = log_state past in
    load_by law past row (Claim worker now) opened legal adds
    (claim_is s (moment s now) worker).need

begin_load : RoomIsKept → (past : List Row) (now : ℤ) (e l worker : ℕ) → 0 < length past
    → IsLegalLog (begin_row now e l worker ∷ past)
    → load (begin_row now e l worker ∷ past) ≤ load past
begin_load law past now e l worker opened legal =
    let row : Row = begin_row now e l worker in
    claim_load law past now worker row opened legal.0
    (added_by (log_state past) (nat_eq (length past) 0) row (not_none (length past) opened)
    legal.1.1)

withdraw_load : RoomIsKept → (past : List Row) (now : ℤ) (e node number : ℕ) → 0 < length past
    → IsLegalLog (withdraw_row now e node number ∷ past)
    → load (withdraw_row now e node number ∷ past) ≤ load past
withdraw_load law past now e node number opened legal =
    let row : Row = withdraw_row now e node number in
    claim_load law past now 0 row opened legal.0
    (added_by (log_state past) (nat_eq (length past) 0) row (not_none (length past) opened)
    legal.1.1)

end_load_by : RoomIsKept → (past : List Row) (row : Row) (o : Option OpenLeaf) → 0 < length past
    → IsLegalLog past → IsAdded (log_state past) row (report_named row o)
    → load (row ∷ past) ≤ load past
end_load_by law past row None opened legal adds = absurd adds
end_load_by law past row (Some claimed) opened legal adds =
    load_by law past row
    (Report (record { claimed = claimed; ending = ending_of row.c }) row.at) opened legal adds refl

end_load : RoomIsKept → (past : List Row) (now : ℤ) (e l : ℕ) (ending : Ending) → 0 < length past
    → IsLegalLog (end_row now e l ending ∷ past)
    → load (end_row now e l ending ∷ past) ≤ load past
end_load law past now e l ending opened legal =
    let s : LogState = log_state past in
    let row : Row = end_row now e l ending in
    end_load_by law past row (open_leaf s.leaves e l (execution_at s e)) opened legal.0
    (added_by s (nat_eq (length past) 0) row (not_none (length past) opened) legal.1.1)

-- ---- the demo goes on behind them

pub begin_going : RoomIsKept → (nodes accepted : ℕ) (past : List Row) (now : ℤ) (e l worker : ℕ)
    → IsLegalLog (begin_row now e l worker ∷ past) → IsGoing nodes accepted past
    → IsGoing nodes accepted (begin_row now e l worker ∷ past)
begin_going law nodes accepted past now e l worker legal h =
    let row : Row = begin_row now e l worker in
    let less = begin_load law past now e l worker h.opened legal in
    record {
      legal = legal;
      opened = omega arith;
      running = running_now (executions (row ∷ past));
      world = ap (λ (w : World). record w { running = running_now (executions (row ∷ past)) })
          h.world;
      rows = omega (arith, less, h.rows);
      bytes = omega (arith, h.bytes);
    }

pub withdraw_going : RoomIsKept → (nodes accepted : ℕ) (past : List Row) (now : ℤ)
    (e node number : ℕ) → IsLegalLog (withdraw_row now e node number ∷ past)
    → IsGoing nodes accepted past
    → IsGoing nodes accepted (withdraw_row now e node number ∷ past)
withdraw_going law nodes accepted past now e node number legal h =
    let row : Row = withdraw_row now e node number in
    let less = withdraw_load law past now e node number h.opened legal in
    record {
      legal = legal;
      opened = omega arith;
      running = running_now (executions (row ∷ past));
      world = ap (λ (w : World). record w { running = running_now (executions (row ∷ past)) })
          h.world;
      rows = omega (arith, less, h.rows);
      bytes = omega (arith, h.bytes);
    }

pub end_going : RoomIsKept → (nodes accepted : ℕ) (past : List Row) (now : ℤ) (e l : ℕ)
    (ending : Ending) → IsLegalLog (end_row now e l ending ∷ past) → IsGoing nodes accepted past
    → IsGoing nodes accepted (end_row now e l ending ∷ past)
end_going law nodes accepted past now e l ending legal h =
    let row : Row = end_row now e l ending in
    let less = end_load law past now e l ending h.opened legal in
    record {
      legal = legal;
      opened = omega arith;
      running = running_now (executions (row ∷ past));
      world = ap (λ (w : World). record w { running = running_now (executions (row ∷ past)) })
          h.world;
      rows = omega (arith, less, h.rows);
      bytes = omega (arith, h.bytes);
    }

-- ---- rows that go behind a log

pub behind : (old new : List Row) (o : Option Row) → new ≡ old ++ option_to_list o
    → reverse new ≡ option_to_list o ++ reverse old
behind old new None h = ap reverse (h ∙ append-nil old)
behind old new (Some row) h = ap reverse h ∙ reverse-append old (row ∷ [])

-- of a move that needs no room
pub moved_behind : (s : LogState) (room : ℕ) (m : Moved) (o : Option Row) (old new : List Row)
    → m.row ≡ o → m.need ≡ None → new ≡ old ++ option_to_list (limited s room m).row
    → reverse new ≡ option_to_list o ++ reverse old
moved_behind s room m o old new is none h =
    behind old new o
    (h ∙ ap (λ (x : Moved). old ++ option_to_list x.row) (unlimited s room m o is none)
    ∙ ap (λ r. old ++ option_to_list r) is)
