-- A call whose answer is decided, on a desk.
use Rattle.std.specs.Prelude.{◌≡◌, ℕ, Bool, true, false, List, reverse, Option, Some, None, Result, Ok}
use Rattle.rb_causes.specs.declared.row.Row.{Row}
use Rattle.rb_log.specs.LogState.{LogState, has_room, log_state}
use Rattle.rb_log.specs.Legal.{IsFormed, MayAsk, rights_of}
use Rattle.rb_log.specs.Records.{is_promised, is_save}
use Rattle.rb_log.specs.declared.answer.Answer.{Answer}
use Rattle.rb_log.specs.declared.call.Call.{Call}
use Rattle.rb_tables.specs.Changes.{Decided, need_of}
use Rattle.rb_desk.specs.DeskState.{DeskState}
use Rattle.rb_tables.specs.declared.change.Change.{Change}

-- the call may be made on this log, whose rows come oldest first
abbrev pub MayAskOn : List Row → Call → Type 0
MayAskOn log call = MayAsk (rights_of (log_state (reverse log))) call

-- The call may be made on this log, and this is decided of it.
pub record IsDecided (log : List Row) (decided : Result Change Answer) (call : Call)
    : Type 0 where
  pub may : MayAskOn log call
  pub formed : IsFormed call
  pub unpromised : is_promised call ≡ false
  pub no_save : is_save call ≡ false
  pub rules : Decided (reverse log) call decided

-- there is room for the row, where room is asked for
abbrev pub row_has_room : LogState → ℕ → Row → Option ℕ → Bool
row_has_room s room row None = true
row_has_room s room row (Some need) = has_room s room need row

-- A change that is decided of a call has room.
pub record CanCommit {K : Type 0} (d : DeskState K) (change : Change) (call : Call) : Type 0 where
  pub is : IsDecided d.log (Ok change) call
  pub fit : row_has_room (log_state (reverse d.log)) d.room change.row (need_of change.effect)
      ≡ true
