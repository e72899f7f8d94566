-- What calls on a store add up to.
use Rattle.std.specs.Prelude.{◌≡◌, ◌⊎◌, ◌≤◌, Result, IsTrue, OnOk}
use Rattle.sqlite_disk.specs.Disk.{MoreFaults}
use Rattle.sqlite_trees.specs.View.{doubt}
use Rattle.sqlite.specs.State.{State, HasCleanDisk, KeepsCommit}

-- no fault is forgotten, and a fault alone shuts the store
pub record Passes (old new : State) : Type 0 where
  pub clean : doubt old.is_clean ≤ doubt new.is_clean
  pub counts : old.faults ≤ new.faults
  pub closes : HasCleanDisk new → IsTrue old.is_open → IsTrue new.is_open ⊎ MoreFaults old.faults new.faults

-- what is done within a transaction commits nothing, and where it is not refused it ends none
pub record Stays {T E : Type 0} (old new : State) (result : Result T E) : Type 0 where
  pub passes : Passes old new
  pub kept : HasCleanDisk new → IsTrue old.in_transaction → KeepsCommit old new
  pub inside : HasCleanDisk new → IsTrue old.in_transaction → OnOk result (IsTrue new.in_transaction)

-- the store shows what it showed, unless it is shut
abbrev pub IsAsBefore : State → State → Type 0
IsAsBefore old new = IsTrue new.is_open → new.now ≡ old.now
