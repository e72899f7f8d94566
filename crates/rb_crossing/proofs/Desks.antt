-- A desk may cross threads where its keeper may.
use denote.RattleType.{RattleType}
use denote.Param.{param}
use denote.Param.Send.{IsSend, sendable, recorded_send, view_send}
use Rattle.rb_causes.specs.declared.keeper.Keeper.{Ghosts}
use Rattle.std.proofs.Crossing.{crosses, Vec-send}
use Rattle.std_alloc.specs.contracts.vec.Vec as Vec
use Rattle.std_heap.specs.contracts.Global as Heap
use Rattle.std_heap.specs.contracts.GlobalAllocator.TheImpl.{ghosts}
use Rattle.rb_causes.specs.contracts.row.Row as Row
use Rattle.rb_crossing.proofs.Parts.{tables_send}
use Rattle.rb_desk.specs.contracts.ledger.Ledger as Ledger
use Rattle.rb_desk.specs.contracts.ledger.Ledger.TheInside as LedgerInside
use Rattle.rb_desk.specs.contracts.desk.Desk as Desk
use Rattle.rb_desk.specs.contracts.desk.Desk.TheInside as DeskInside

pub row_send : IsSend Row.the_row
row_send = search (crosses, sendable) depth 60 fits 20000

rows_send : IsSend (Vec.the_field Row.the_row Heap.the_row ghosts).row
rows_send = search (Vec-send Row.the_row row_send, crosses, sendable) depth 60 fits 20000

pub ledger_inside_send : (K : RattleType) (g : Ghosts (param 0 K).Denot) → IsSend (param 0 K)
    → IsSend (LedgerInside.the_field (param 0 K) g).row
ledger_inside_send K g k = search (k, rows_send, crosses, sendable) depth 60 fits 20000

pub ledger_send : (K : RattleType) (g : Ghosts (param 0 K).Denot) → IsSend (param 0 K)
    → IsSend (Ledger.the_row (param 0 K) g)
ledger_send K g k =
    view_send _ _ _ _ _ (recorded_send _ _ ((LedgerInside.the_type (param 0 K) g).to)
    ((LedgerInside.the_type (param 0 K) g).to_one) (ledger_inside_send K g k))

pub desk_inside_send : (K : RattleType) (g : Ghosts (param 0 K).Denot) → IsSend (param 0 K)
    → IsSend (DeskInside.the_field (param 0 K) g).row
desk_inside_send K g k =
    search (ledger_send K g k, tables_send, crosses, sendable) depth 60 fits 20000

pub desk_send : (K : RattleType) (g : Ghosts (param 0 K).Denot) → IsSend (param 0 K)
    → IsSend (Desk.the_row (param 0 K) g)
desk_send K g k =
    view_send _ _ _ _ _ (recorded_send _ _ ((DeskInside.the_type (param 0 K) g).to)
    ((DeskInside.the_type (param 0 K) g).to_one) (desk_inside_send K g k))
