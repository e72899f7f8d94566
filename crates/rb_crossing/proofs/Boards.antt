-- A board may be shared by threads where its keeper may cross them.
use denote.RattleType.{RattleType}
use denote.Builtin.{unit}
use denote.Param.{param}
use denote.Param.Send.{IsSend, IsSync, part_keyless, recorded_sync, struct_sync, view_sync}
use denote.Struct.Declared.{shape}
use Rattle.atomic_table.proofs.owned.Table.TheSendSync as Tables
use Rattle.atomic_table.proofs.shared.Seat.TheSendSync as Seats
use Rattle.atomic_table.specs.contracts.shared.Seat as Seat
use Rattle.std.proofs.Crossing.{frees, send, sync}
use Rattle.std.proofs.alloc.Global.TheSendSync as Globals
use Rattle.std.proofs.option.Option.TheSendSync as Options
use Rattle.std.specs.contracts.option.Option as Option
use Rattle.std_heap.specs.contracts.Global as Heap
use Rattle.std_heap.specs.contracts.GlobalAllocator.TheImpl as HeapImpl
use Rattle.rb_causes.specs.declared.keeper.Keeper.{Ghosts}
use Rattle.rb_desk.specs.contracts.desk.Desk as Desk
use Rattle.rb_board.specs.contracts.board.Board as Board
use Rattle.rb_board.specs.contracts.board.Board.TheInside as BoardInside
use Rattle.rb_board.specs.contracts.rule.TurnRule as TurnRule
use Rattle.rb_board.specs.contracts.rule.TurnRuleTableRuleOptionDeskViewUnit.TheImpl as Rule
use Rattle.rb_board.specs.contracts.view.View as View
use Rattle.rb_crossing.proofs.Desks.{desk_send}

-- The slot in which the desk lies.
slot_send : (K : RattleType) (g : Ghosts (param 0 K).Denot) → IsSend (param 0 K)
    → IsSend (Option.the_row (Desk.the_row (param 0 K) g))
slot_send K g k = Options.the_send (Desk.the_row (param 0 K) g) (desk_send K g k)

-- A seat that is shared shows what it owns.
seat_sync : (S V : RattleType) → IsSend S → IsSync (Seat.the_row S V)
seat_sync S V s = record {
  shared = λ d b o ν q. part_keyless (Seat.the_row S V) (Seats.the_send S V s) q d b o;
}

inside_sync : (K : RattleType) (g : Ghosts (param 0 K).Denot) → IsSend (param 0 K)
    → IsSync (BoardInside.the_field (param 0 K) g).row
inside_sync K g k = struct_sync (shape (BoardInside.the_type (param 0 K) g)) (
  Tables.the_field_sync (Option.the_row (Desk.the_row (param 0 K) g)) View.the_row unit
      TurnRule.the_row Heap.the_row (Rule.ghosts (param 0 K) g Rule.no_dict) HeapImpl.ghosts
      (slot_send K g k) send sync frees,
  (
    seat_sync (Option.the_row (Desk.the_row (param 0 K) g)) View.the_row (slot_send K g k),
    (Globals.the_field_sync, tt),
  ),
)

pub board_sync : (K : RattleType) (g : Ghosts (param 0 K).Denot) → IsSend (param 0 K)
    → IsSync (Board.the_row (param 0 K) g)
board_sync K g k =
    view_sync _ _ _ _ _ (recorded_sync _ _ ((BoardInside.the_type (param 0 K) g).to)
    ((BoardInside.the_type (param 0 K) g).to_one) (inside_sync K g k))
