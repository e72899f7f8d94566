use denote.Param.Send.{IsSend, IsSync, sendable}
use Rattle.std.proofs.Common.{subst, sym}
use Rattle.std.proofs.Crossing.{crosses}
use Rattle.rb_causes.specs.contracts.steady_keeper.SteadyKeeper as Steady
use Rattle.rb_keep.proofs.Crossing.{keeper_send, keeper_sync}
use Rattle.rb_serve.specs.Serving.{AreEnough}
use Rattle.rundeskd.specs.contracts.store.Store as Store
use Rattle.rundeskd.proofs.crew_serving.serve_crew.Goals as goal

pub serve_top-status-requires-clause-enough : goal.serve_top-status-requires-clause-enough
serve_top-status-requires-clause-enough g c κs within =
    subst (λ words. AreEnough words c.in-Ok-tcp_lines.lines.items
    c.in-Ok-child_spawners.spawners.items) (sym c.requires)
    (c.in-Ok-tcp_lines.ensures.count, c.in-Ok-child_spawners.ensures)

-- ---- the store may cross threads, and be shared by them

steady_send : IsSend (Steady.the_field).row
steady_send = search (crosses, sendable) depth 60 fits 20000

store_send : IsSend Store.the_row
store_send = search (steady_send, keeper_send, crosses, sendable) depth 60 fits 20000

pub serve_top-status-requires-send-K : goal.serve_top-status-requires-send-K
serve_top-status-requires-send-K g c κs within =
    search (store_send, crosses, sendable) depth 20

steady_sync : IsSync (Steady.the_field).row
steady_sync = search (crosses, sendable) depth 60 fits 20000

store_sync : IsSync Store.the_row
store_sync = search (steady_sync, keeper_sync, crosses, sendable) depth 60 fits 20000

pub serve_top-status-requires-sync-K : goal.serve_top-status-requires-sync-K
serve_top-status-requires-sync-K g c κs within =
    search (store_sync, crosses, sendable) depth 20
