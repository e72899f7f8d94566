-- A keeper over a file may cross threads, and be shared by them: each of its parts may, from below.
use denote.RattleType.{RattleType}
use denote.Param.Send.{IsSend, IsSync, part_keyless, recorded_send, recorded_sync, sendable, struct_send, struct_sync, view_send, view_sync}
use denote.Struct.Declared.{shape}
use Rattle.std.proofs.Crossing.{crosses}
use Rattle.sqlite_disk.specs.declared.Disk as disk
use Rattle.sqlite_trees.specs.declared.store.Store as store
use Rattle.sqlite_value.specs.contracts.value.Value as Value
use Rattle.sqlite_value.specs.contracts.keys.Order as Order
use Rattle.sqlite_value.specs.contracts.keys.Collation as Collation
use Rattle.sqlite_sql.specs.contracts.query.SortKey as SortKey
use Rattle.sqlite_sql.specs.contracts.query.Aggregate as Aggregate
use Rattle.sqlite_sql.specs.contracts.query.Made as Made
use Rattle.sqlite_schema.specs.contracts.schema.Column as Column
use Rattle.sqlite_schema.specs.contracts.schema.Reference as Reference
use Rattle.sqlite_schema.specs.contracts.code.Op as Op
use Rattle.sqlite_schema.specs.contracts.code.Terms as Terms
use Rattle.sqlite_schema.specs.contracts.code.Terms.TheInside as TermsInside
use Rattle.sqlite_schema.specs.contracts.schema.Stamps as Stamps
use Rattle.sqlite_schema.specs.contracts.schema.Table as Table
use Rattle.sqlite_schema.specs.contracts.schema.Index as Index
use Rattle.sqlite_schema.specs.contracts.schema.View as Viewed
use Rattle.sqlite_schema.specs.contracts.schema.Schema as Schema
use Rattle.sqlite.specs.contracts.history.Mark as Mark
use Rattle.sqlite.specs.contracts.history.History as History
use Rattle.sqlite_schema.specs.contracts.plan.Scan as Scan
use Rattle.sqlite_schema.specs.contracts.plan.Stage as Stage
use Rattle.sqlite_schema.specs.contracts.plan.Groups as Groups
use Rattle.sqlite_schema.specs.contracts.plan.Plan as Plan
use Rattle.sqlite_schema.specs.contracts.plan.Plan.TheInside as PlanInside
use Rattle.sqlite_schema.specs.contracts.program.Table as Selection
use Rattle.sqlite_schema.specs.contracts.program.Program as Program
use Rattle.sqlite_schema.specs.contracts.command.Source as Source
use Rattle.sqlite_schema.specs.contracts.command.Upsert as Upsert
use Rattle.sqlite_schema.specs.contracts.command.Returning as Returning
use Rattle.sqlite_schema.specs.contracts.command.Command as Command
use Rattle.sqlite_resolve.specs.contracts.compiled.Compiled as Compiled
use Rattle.sqlite.specs.contracts.cache.Entry as Entry
use Rattle.sqlite_wal.specs.contracts.index.PageIndex as PageIndex
use Rattle.sqlite_wal.specs.contracts.index.PageIndex.TheInside as PageIndexInside
use Rattle.sqlite_wal.specs.contracts.recover.Mark as LogMark
use Rattle.sqlite_wal.specs.contracts.log.Ahead as Ahead
use Rattle.sqlite_wal.specs.contracts.batch.Batch as LogBatch
use Rattle.sqlite_wal.specs.contracts.log.Point as LogPoint
use Rattle.sqlite_pager.specs.contracts.layers.Layer as Layer
use Rattle.sqlite_pager.specs.contracts.cache.Cache as PageCache
use Rattle.sqlite_pool.specs.contracts.free_set.FreeSet as FreeSet
use Rattle.sqlite_pool.specs.contracts.pool.Mark as PoolMark
use Rattle.sqlite_store.specs.contracts.limits.Limits as Limits
use Rattle.sqlite_store.specs.contracts.catalog.Wanted as Wanted
use Rattle.sqlite_store.specs.contracts.saved.Listed as Listed
use Rattle.sqlite_store.specs.contracts.saved.Saved as Saved
use Rattle.sqlite_btree.specs.contracts.batch.Batch as TreeBatch
use Rattle.sqlite_store.specs.contracts.cursor.Cursor as Cursor
use Rattle.sqlite_btree.specs.contracts.scratch.Scratch as Scratch
use Rattle.sqlite_wal.specs.contracts.log.Log as Log
use Rattle.sqlite_pager.specs.contracts.pager.Pager as Pager
use Rattle.sqlite_pool.specs.contracts.backing.Backing as Backing
use Rattle.sqlite_pool.specs.contracts.pool.Pool as Pool
use Rattle.sqlite_store.specs.contracts.store.FileStore as FileStore
use Rattle.sqlite.specs.contracts.connection.Connection as Connection
use Rattle.sqlite.specs.contracts.connection.Connection.TheInside as ConnectionInside
use Rattle.std.proofs.option.Option.TheSendSync as Options
use Rattle.sqlite_disk.specs.contracts.modelled.Modelled as Modelled
use Rattle.sqlite_disk.specs.contracts.modelled.ModelledDisk.TheImpl as ModelledDisk
use Rattle.sqlite_disk.specs.contracts.start.Unknown as Unknown
use Rattle.sqlite_disk.specs.contracts.start.UnknownStart.TheImpl as UnknownStart
use Rattle.sqlite_std_file.specs.contracts.host.Host as Host
use Rattle.sqlite_std_file.specs.contracts.host.HostCalls.TheImpl as HostCalls
use Rattle.sqlite_std_file.specs.contracts.record.Record as Note
use Rattle.sqlite_store.specs.contracts.store.FileStoreStore.TheImpl as FileStoreStore
use Rattle.rb_causes.specs.contracts.text.Text as Text
use Rattle.rb_keep.specs.contracts.sql_keeper.SqlKeeper as Keeper
use Rattle.rb_keep.specs.contracts.sql_keeper.SqlKeeper.TheInside as KeeperInside

ruleset parts = (crosses, sendable)

-- ---- the file of a keeper, and what is stored in it

abbrev File : RattleType
File = Modelled.the_row Host.the_row Unknown.the_row HostCalls.ghosts UnknownStart.ghosts

abbrev file : disk.Ghosts File.Denot
file =
    ModelledDisk.ghosts Host.the_row Unknown.the_row HostCalls.ghosts ModelledDisk.no_dict
    UnknownStart.ghosts ModelledDisk.no_dict ModelledDisk.no_dict

abbrev Stored : RattleType
Stored = FileStore.the_row File file

abbrev stored : store.Ghosts Stored.Denot
stored = FileStoreStore.ghosts File file FileStoreStore.no_dict

-- ---- to another thread

value_field_send : IsSend (Value.the_field).row
value_field_send = search parts depth 60

value_send : IsSend Value.the_row
value_send = search (value_field_send, parts) depth 60

order_field_send : IsSend (Order.the_field).row
order_field_send = search parts depth 60

order_send : IsSend Order.the_row
order_send = search (order_field_send, parts) depth 60

collation_field_send : IsSend (Collation.the_field).row
collation_field_send = search parts depth 60

collation_send : IsSend Collation.the_row
collation_send = search (collation_field_send, parts) depth 60

sort_key_field_send : IsSend (SortKey.the_field).row
sort_key_field_send = search parts depth 60

sort_key_send : IsSend SortKey.the_row
sort_key_send = search (sort_key_field_send, parts) depth 60

aggregate_field_send : IsSend (Aggregate.the_field).row
aggregate_field_send = search parts depth 60

aggregate_send : IsSend Aggregate.the_row
aggregate_send = search (aggregate_field_send, parts) depth 60

made_field_send : IsSend (Made.the_field).row
made_field_send = search parts depth 60

made_send : IsSend Made.the_row
made_send = search (made_field_send, parts) depth 60

column_field_send : IsSend (Column.the_field).row
column_field_send = search (
  value_field_send,
  value_send,
  collation_field_send,
  collation_send,
  parts,
) depth 60

column_send : IsSend Column.the_row
column_send = search (
  column_field_send,
  value_field_send,
  value_send,
  collation_field_send,
  collation_send,
  parts,
) depth 60

reference_field_send : IsSend (Reference.the_field).row
reference_field_send = search parts depth 60

reference_send : IsSend Reference.the_row
reference_send = search (reference_field_send, parts) depth 60

op_field_send : IsSend (Op.the_field).row
op_field_send = search (value_field_send, value_send, parts) depth 60

op_send : IsSend Op.the_row
op_send = search (op_field_send, value_field_send, value_send, parts) depth 60

terms_inside_send : IsSend (TermsInside.the_field).row
terms_inside_send = search (op_field_send, op_send, parts) depth 60

terms_send : IsSend Terms.the_row
terms_send =
    view_send _ _ _ _ _ (recorded_send _ _ ((TermsInside.the_type).to)
    ((TermsInside.the_type).to_one) terms_inside_send)

stamps_field_send : IsSend (Stamps.the_field).row
stamps_field_send = search (terms_send, parts) depth 60

stamps_send : IsSend Stamps.the_row
stamps_send = search (stamps_field_send, terms_send, parts) depth 60

table_field_send : IsSend (Table.the_field).row
table_field_send = search (
  column_field_send,
  column_send,
  order_field_send,
  order_send,
  terms_send,
  reference_field_send,
  reference_send,
  stamps_field_send,
  stamps_send,
  parts,
) depth 60

table_send : IsSend Table.the_row
table_send = search (
  table_field_send,
  column_field_send,
  column_send,
  order_field_send,
  order_send,
  terms_send,
  reference_field_send,
  reference_send,
  stamps_field_send,
  stamps_send,
  parts,
) depth 60

index_field_send : IsSend (Index.the_field).row
index_field_send = search (order_field_send, order_send, parts) depth 60

index_send : IsSend Index.the_row
index_send = search (index_field_send, order_field_send, order_send, parts) depth 60

viewed_field_send : IsSend (Viewed.the_field).row
viewed_field_send = search parts depth 60

viewed_send : IsSend Viewed.the_row
viewed_send = search (viewed_field_send, parts) depth 60

schema_field_send : IsSend (Schema.the_field).row
schema_field_send = search (
  table_field_send,
  table_send,
  index_field_send,
  index_send,
  viewed_field_send,
  viewed_send,
  parts,
) depth 60

schema_send : IsSend Schema.the_row
schema_send = search (
  schema_field_send,
  table_field_send,
  table_send,
  index_field_send,
  index_send,
  viewed_field_send,
  viewed_send,
  parts,
) depth 60

mark_field_send : IsSend (Mark.the_field).row
mark_field_send = search (schema_field_send, schema_send, parts) depth 60

mark_send : IsSend Mark.the_row
mark_send = search (mark_field_send, schema_field_send, schema_send, parts) depth 60

history_field_send : IsSend (History.the_field).row
history_field_send = search (
  mark_field_send,
  mark_send,
  schema_field_send,
  schema_send,
  parts,
) depth 60

history_send : IsSend History.the_row
history_send = search (
  history_field_send,
  mark_field_send,
  mark_send,
  schema_field_send,
  schema_send,
  parts,
) depth 60

scan_field_send : IsSend (Scan.the_field).row
scan_field_send = search parts depth 60

scan_send : IsSend Scan.the_row
scan_send = search (scan_field_send, parts) depth 60

stage_field_send : IsSend (Stage.the_field).row
stage_field_send = search (
  scan_field_send,
  scan_send,
  made_field_send,
  made_send,
  aggregate_field_send,
  aggregate_send,
  sort_key_field_send,
  sort_key_send,
  parts,
) depth 60

stage_send : IsSend Stage.the_row
stage_send = search (
  stage_field_send,
  scan_field_send,
  scan_send,
  made_field_send,
  made_send,
  aggregate_field_send,
  aggregate_send,
  sort_key_field_send,
  sort_key_send,
  parts,
) depth 60

groups_field_send : IsSend (Groups.the_field).row
groups_field_send = search (
  collation_field_send,
  collation_send,
  aggregate_field_send,
  aggregate_send,
  parts,
) depth 60

groups_send : IsSend Groups.the_row
groups_send = search (
  groups_field_send,
  collation_field_send,
  collation_send,
  aggregate_field_send,
  aggregate_send,
  parts,
) depth 60

plan_inside_send : IsSend (PlanInside.the_field).row
plan_inside_send = search (
  op_field_send,
  op_send,
  stage_field_send,
  stage_send,
  groups_field_send,
  groups_send,
  collation_field_send,
  collation_send,
  sort_key_field_send,
  sort_key_send,
  parts,
) depth 60

plan_send : IsSend Plan.the_row
plan_send =
    view_send _ _ _ _ _ (recorded_send _ _ ((PlanInside.the_type).to)
    ((PlanInside.the_type).to_one) plan_inside_send)

selection_field_send : IsSend (Selection.the_field).row
selection_field_send = search (plan_send, collation_field_send, collation_send, parts) depth 60

selection_send : IsSend Selection.the_row
selection_send = search (
  selection_field_send,
  plan_send,
  collation_field_send,
  collation_send,
  parts,
) depth 60

program_field_send : IsSend (Program.the_field).row
program_field_send = search (selection_field_send, selection_send, plan_send, parts) depth 60

program_send : IsSend Program.the_row
program_send = search (
  program_field_send,
  selection_field_send,
  selection_send,
  plan_send,
  parts,
) depth 60

source_field_send : IsSend (Source.the_field).row
source_field_send = search (terms_send, program_field_send, program_send, parts) depth 60

source_send : IsSend Source.the_row
source_send = search (
  source_field_send,
  terms_send,
  program_field_send,
  program_send,
  parts,
) depth 60

upsert_field_send : IsSend (Upsert.the_field).row
upsert_field_send = search (program_field_send, program_send, parts) depth 60

upsert_send : IsSend Upsert.the_row
upsert_send = search (upsert_field_send, program_field_send, program_send, parts) depth 60

returning_field_send : IsSend (Returning.the_field).row
returning_field_send = search (source_field_send, source_send, parts) depth 60

returning_send : IsSend Returning.the_row
returning_send = search (returning_field_send, source_field_send, source_send, parts) depth 60

command_field_send : IsSend (Command.the_field).row
command_field_send = search (
  program_field_send,
  program_send,
  source_field_send,
  source_send,
  upsert_field_send,
  upsert_send,
  parts,
) depth 60 fits 20000

command_send : IsSend Command.the_row
command_send = search (
  command_field_send,
  program_field_send,
  program_send,
  source_field_send,
  source_send,
  upsert_field_send,
  upsert_send,
  parts,
) depth 60

compiled_field_send : IsSend (Compiled.the_field).row
compiled_field_send = search (
  command_field_send,
  command_send,
  returning_field_send,
  returning_send,
  parts,
) depth 60

compiled_send : IsSend Compiled.the_row
compiled_send = search (
  compiled_field_send,
  command_field_send,
  command_send,
  returning_field_send,
  returning_send,
  parts,
) depth 60

entry_field_send : IsSend (Entry.the_field).row
entry_field_send = search (compiled_field_send, compiled_send, parts) depth 60

entry_send : IsSend Entry.the_row
entry_send = search (entry_field_send, compiled_field_send, compiled_send, parts) depth 60

page_index_inside_send : IsSend (PageIndexInside.the_field).row
page_index_inside_send = search parts depth 60

page_index_send : IsSend PageIndex.the_row
page_index_send =
    view_send _ _ _ _ _ (recorded_send _ _ ((PageIndexInside.the_type).to)
    ((PageIndexInside.the_type).to_one) page_index_inside_send)

log_mark_field_send : IsSend (LogMark.the_field).row
log_mark_field_send = search parts depth 60

log_mark_send : IsSend LogMark.the_row
log_mark_send = search (log_mark_field_send, parts) depth 60

ahead_field_send : IsSend (Ahead.the_field).row
ahead_field_send = search (page_index_send, parts) depth 60

ahead_send : IsSend Ahead.the_row
ahead_send = search (ahead_field_send, page_index_send, parts) depth 60

log_batch_field_send : IsSend (LogBatch.the_field).row
log_batch_field_send = search (page_index_send, parts) depth 60

log_batch_send : IsSend LogBatch.the_row
log_batch_send = search (log_batch_field_send, page_index_send, parts) depth 60

log_point_field_send : IsSend (LogPoint.the_field).row
log_point_field_send = search parts depth 60

log_point_send : IsSend LogPoint.the_row
log_point_send = search (log_point_field_send, parts) depth 60

layer_field_send : IsSend (Layer.the_field).row
layer_field_send = search (log_batch_field_send, log_batch_send, parts) depth 60

layer_send : IsSend Layer.the_row
layer_send = search (layer_field_send, log_batch_field_send, log_batch_send, parts) depth 60

page_cache_field_send : IsSend (PageCache.the_field).row
page_cache_field_send = search parts depth 60

page_cache_send : IsSend PageCache.the_row
page_cache_send = search (page_cache_field_send, parts) depth 60

free_set_field_send : IsSend (FreeSet.the_field).row
free_set_field_send = search parts depth 60

free_set_send : IsSend FreeSet.the_row
free_set_send = search (free_set_field_send, parts) depth 60

pool_mark_field_send : IsSend (PoolMark.the_field).row
pool_mark_field_send = search parts depth 60

pool_mark_send : IsSend PoolMark.the_row
pool_mark_send = search (pool_mark_field_send, parts) depth 60

limits_field_send : IsSend (Limits.the_field).row
limits_field_send = search parts depth 60

limits_send : IsSend Limits.the_row
limits_send = search (limits_field_send, parts) depth 60

wanted_field_send : IsSend (Wanted.the_field).row
wanted_field_send = search parts depth 60

wanted_send : IsSend Wanted.the_row
wanted_send = search (wanted_field_send, parts) depth 60

listed_field_send : IsSend (Listed.the_field).row
listed_field_send = search (wanted_field_send, wanted_send, parts) depth 60

listed_send : IsSend Listed.the_row
listed_send = search (listed_field_send, wanted_field_send, wanted_send, parts) depth 60

saved_field_send : IsSend (Saved.the_field).row
saved_field_send = search (
  wanted_field_send,
  wanted_send,
  listed_field_send,
  listed_send,
  parts,
) depth 60

saved_send : IsSend Saved.the_row
saved_send = search (
  saved_field_send,
  wanted_field_send,
  wanted_send,
  listed_field_send,
  listed_send,
  parts,
) depth 60

tree_batch_field_send : IsSend (TreeBatch.the_field).row
tree_batch_field_send = search parts depth 60

tree_batch_send : IsSend TreeBatch.the_row
tree_batch_send = search (tree_batch_field_send, parts) depth 60

cursor_field_send : IsSend (Cursor.the_field).row
cursor_field_send = search (tree_batch_field_send, tree_batch_send, parts) depth 60

cursor_send : IsSend Cursor.the_row
cursor_send = search (cursor_field_send, tree_batch_field_send, tree_batch_send, parts) depth 60

scratch_field_send : IsSend (Scratch.the_field).row
scratch_field_send = search parts depth 60

scratch_send : IsSend Scratch.the_row
scratch_send = search (scratch_field_send, parts) depth 60

-- ---- over any disk that may

log_field_send : (D : RattleType) (g : disk.Ghosts D.Denot) → IsSend D
    → IsSend (Log.the_field D g).row
log_field_send D g d = struct_send (shape (Log.the_type D g)) (
  d,
  (
    d,
    (
      search parts depth 60,
      (
        search (page_index_send, parts) depth 60,
        (
          search parts depth 60,
          (
            search parts depth 60,
            (
              search (log_mark_field_send, parts) depth 60,
              (
                search parts depth 60,
                (
                  search parts depth 60,
                  (
                    search parts depth 60,
                    (
                      search parts depth 60,
                      (
                        search (ahead_field_send, parts) depth 60,
                        (
                          search parts depth 60,
                          tt,
                        ),
                      ),
                    ),
                  ),
                ),
              ),
            ),
          ),
        ),
      ),
    ),
  ),
)

pager_field_send : (D : RattleType) (g : disk.Ghosts D.Denot) → IsSend D
    → IsSend (Pager.the_field D g).row
pager_field_send D g d = struct_send (shape (Pager.the_type D g)) (
  log_field_send D g d,
  (
    search (log_batch_field_send, parts) depth 60,
    (
      search parts depth 60,
      (
        search (log_point_field_send, log_point_send, parts) depth 60,
        (
          search (layer_field_send, layer_send, parts) depth 60,
          (
            search parts depth 60,
            (
              search (log_batch_field_send, log_batch_send, parts) depth 60,
              (
                search (page_cache_field_send, parts) depth 60,
                (
                  search parts depth 60,
                  (
                    search parts depth 60,
                    (
                      search parts depth 60,
                      (
                        search parts depth 60,
                        (
                          search parts depth 60,
                          (
                            search parts depth 60,
                            tt,
                          ),
                        ),
                      ),
                    ),
                  ),
                ),
              ),
            ),
          ),
        ),
      ),
    ),
  ),
)

backing_field_send : (D : RattleType) (g : disk.Ghosts D.Denot) → IsSend D
    → IsSend (Backing.the_field D g).row
backing_field_send D g d = struct_send (shape (Backing.the_type D g)) (
  pager_field_send D g d,
  (
    search parts depth 60,
    (
      search parts depth 60,
      (
        search parts depth 60,
        (
          search parts depth 60,
          tt,
        ),
      ),
    ),
  ),
)

pool_field_send : (D : RattleType) (g : disk.Ghosts D.Denot) → IsSend D
    → IsSend (Pool.the_field D g).row
pool_field_send D g d = struct_send (shape (Pool.the_type D g)) (
  backing_field_send D g d,
  (
    search (free_set_field_send, parts) depth 60,
    (
      search parts depth 60,
      (
        search parts depth 60,
        (
          search (pool_mark_field_send, pool_mark_send, parts) depth 60,
          (
            search parts depth 60,
            (
              search parts depth 60,
              tt,
            ),
          ),
        ),
      ),
    ),
  ),
)

file_store_field_send : (D : RattleType) (g : disk.Ghosts D.Denot) → IsSend D
    → IsSend (FileStore.the_field D g).row
file_store_field_send D g d = struct_send (shape (FileStore.the_type D g)) (
  pool_field_send D g d,
  (
    search parts depth 60,
    (
      search (wanted_field_send, wanted_send, parts) depth 60,
      (
        search parts depth 60,
        (
          search (saved_field_send, saved_send, parts) depth 60,
          (
            search parts depth 60,
            (
              search (cursor_field_send, cursor_send, parts) depth 60,
              (
                search (scratch_field_send, parts) depth 60,
                (
                  search parts depth 60,
                  (
                    search parts depth 60,
                    (
                      search (limits_field_send, parts) depth 60,
                      (
                        search parts depth 60,
                        tt,
                      ),
                    ),
                  ),
                ),
              ),
            ),
          ),
        ),
      ),
    ),
  ),
)

file_store_send : (D : RattleType) (g : disk.Ghosts D.Denot) → IsSend D
    → IsSend (FileStore.the_row D g)
file_store_send D g d = search (d, file_store_field_send D g d, parts) depth 60

connection_inside_send : (S : RattleType) (g : store.Ghosts S.Denot) → IsSend S
    → IsSend (ConnectionInside.the_field S g).row
connection_inside_send S g s = struct_send (shape (ConnectionInside.the_type S g)) (
  s,
  (
    schema_field_send,
    (
      history_field_send,
      (
        search parts depth 60,
        (
          search parts depth 60,
          (
            search parts depth 60,
            (
              search (entry_field_send, entry_send, parts) depth 60,
              (
                search parts depth 60,
                (
                  search parts depth 60,
                  (
                    search parts depth 60,
                    (
                      search parts depth 60,
                      (
                        search parts depth 60 fits 20000,
                        (
                          search parts depth 60 fits 20000,
                          (
                            search parts depth 60,
                            tt,
                          ),
                        ),
                      ),
                    ),
                  ),
                ),
              ),
            ),
          ),
        ),
      ),
    ),
  ),
)

connection_send : (S : RattleType) (g : store.Ghosts S.Denot) → IsSend S
    → IsSend (Connection.the_row S g)
connection_send S g s =
    view_send _ _ _ _ _ (recorded_send _ _ ((ConnectionInside.the_type S g).to)
    ((ConnectionInside.the_type S g).to_one) (connection_inside_send S g s))

text_send : IsSend Text.the_row
text_send = search parts depth 60

note_send : IsSend Note.the_row
note_send = search parts depth 60

file_send : IsSend File
file_send = search parts depth 60

keeper_inside_send : IsSend (KeeperInside.the_field).row
keeper_inside_send = struct_send (shape (KeeperInside.the_type)) (
  search parts depth 60,
  (
    search (text_send, parts) depth 60,
    (
      Options.the_field_send (Connection.the_row Stored stored)
          (connection_send Stored stored (file_store_send File file file_send)),
      (
        search parts depth 60,
        (
          search parts depth 60,
          tt,
        ),
      ),
    ),
  ),
)

-- a keeper over a file may cross threads
pub keeper_send : IsSend Keeper.the_row
keeper_send =
    view_send _ _ _ _ _ (recorded_send _ _ ((KeeperInside.the_type).to)
    ((KeeperInside.the_type).to_one) keeper_inside_send)

-- ---- to several threads

value_field_sync : IsSync (Value.the_field).row
value_field_sync = search parts depth 60

value_sync : IsSync Value.the_row
value_sync = search (value_field_sync, parts) depth 60

order_field_sync : IsSync (Order.the_field).row
order_field_sync = search parts depth 60

order_sync : IsSync Order.the_row
order_sync = search (order_field_sync, parts) depth 60

collation_field_sync : IsSync (Collation.the_field).row
collation_field_sync = search parts depth 60

collation_sync : IsSync Collation.the_row
collation_sync = search (collation_field_sync, parts) depth 60

sort_key_field_sync : IsSync (SortKey.the_field).row
sort_key_field_sync = search parts depth 60

sort_key_sync : IsSync SortKey.the_row
sort_key_sync = search (sort_key_field_sync, parts) depth 60

aggregate_field_sync : IsSync (Aggregate.the_field).row
aggregate_field_sync = search parts depth 60

aggregate_sync : IsSync Aggregate.the_row
aggregate_sync = search (aggregate_field_sync, parts) depth 60

made_field_sync : IsSync (Made.the_field).row
made_field_sync = search parts depth 60

made_sync : IsSync Made.the_row
made_sync = search (made_field_sync, parts) depth 60

column_field_sync : IsSync (Column.the_field).row
column_field_sync = search (
  value_field_sync,
  value_sync,
  collation_field_sync,
  collation_sync,
  parts,
) depth 60

column_sync : IsSync Column.the_row
column_sync = search (
  column_field_sync,
  value_field_sync,
  value_sync,
  collation_field_sync,
  collation_sync,
  parts,
) depth 60

reference_field_sync : IsSync (Reference.the_field).row
reference_field_sync = search parts depth 60

reference_sync : IsSync Reference.the_row
reference_sync = search (reference_field_sync, parts) depth 60

op_field_sync : IsSync (Op.the_field).row
op_field_sync = search (value_field_sync, value_sync, parts) depth 60

op_sync : IsSync Op.the_row
op_sync = search (op_field_sync, value_field_sync, value_sync, parts) depth 60

terms_inside_sync : IsSync (TermsInside.the_field).row
terms_inside_sync = search (op_field_sync, op_sync, parts) depth 60

terms_sync : IsSync Terms.the_row
terms_sync =
    view_sync _ _ _ _ _ (recorded_sync _ _ ((TermsInside.the_type).to)
    ((TermsInside.the_type).to_one) terms_inside_sync)

stamps_field_sync : IsSync (Stamps.the_field).row
stamps_field_sync = search (terms_sync, parts) depth 60

stamps_sync : IsSync Stamps.the_row
stamps_sync = search (stamps_field_sync, terms_sync, parts) depth 60

table_field_sync : IsSync (Table.the_field).row
table_field_sync = search (
  column_field_sync,
  column_sync,
  order_field_sync,
  order_sync,
  terms_sync,
  reference_field_sync,
  reference_sync,
  stamps_field_sync,
  stamps_sync,
  parts,
) depth 60

table_sync : IsSync Table.the_row
table_sync = search (
  table_field_sync,
  column_field_sync,
  column_sync,
  order_field_sync,
  order_sync,
  terms_sync,
  reference_field_sync,
  reference_sync,
  stamps_field_sync,
  stamps_sync,
  parts,
) depth 60

index_field_sync : IsSync (Index.the_field).row
index_field_sync = search (order_field_sync, order_sync, parts) depth 60

index_sync : IsSync Index.the_row
index_sync = search (index_field_sync, order_field_sync, order_sync, parts) depth 60

viewed_field_sync : IsSync (Viewed.the_field).row
viewed_field_sync = search parts depth 60

viewed_sync : IsSync Viewed.the_row
viewed_sync = search (viewed_field_sync, parts) depth 60

schema_field_sync : IsSync (Schema.the_field).row
schema_field_sync = search (
  table_field_sync,
  table_sync,
  index_field_sync,
  index_sync,
  viewed_field_sync,
  viewed_sync,
  parts,
) depth 60

schema_sync : IsSync Schema.the_row
schema_sync = search (
  schema_field_sync,
  table_field_sync,
  table_sync,
  index_field_sync,
  index_sync,
  viewed_field_sync,
  viewed_sync,
  parts,
) depth 60

mark_field_sync : IsSync (Mark.the_field).row
mark_field_sync = search (schema_field_sync, schema_sync, parts) depth 60

mark_sync : IsSync Mark.the_row
mark_sync = search (mark_field_sync, schema_field_sync, schema_sync, parts) depth 60

history_field_sync : IsSync (History.the_field).row
history_field_sync = search (
  mark_field_sync,
  mark_sync,
  schema_field_sync,
  schema_sync,
  parts,
) depth 60

history_sync : IsSync History.the_row
history_sync = search (
  history_field_sync,
  mark_field_sync,
  mark_sync,
  schema_field_sync,
  schema_sync,
  parts,
) depth 60

scan_field_sync : IsSync (Scan.the_field).row
scan_field_sync = search parts depth 60

scan_sync : IsSync Scan.the_row
scan_sync = search (scan_field_sync, parts) depth 60

stage_field_sync : IsSync (Stage.the_field).row
stage_field_sync = search (
  scan_field_sync,
  scan_sync,
  made_field_sync,
  made_sync,
  aggregate_field_sync,
  aggregate_sync,
  sort_key_field_sync,
  sort_key_sync,
  parts,
) depth 60

stage_sync : IsSync Stage.the_row
stage_sync = search (
  stage_field_sync,
  scan_field_sync,
  scan_sync,
  made_field_sync,
  made_sync,
  aggregate_field_sync,
  aggregate_sync,
  sort_key_field_sync,
  sort_key_sync,
  parts,
) depth 60

groups_field_sync : IsSync (Groups.the_field).row
groups_field_sync = search (
  collation_field_sync,
  collation_sync,
  aggregate_field_sync,
  aggregate_sync,
  parts,
) depth 60

groups_sync : IsSync Groups.the_row
groups_sync = search (
  groups_field_sync,
  collation_field_sync,
  collation_sync,
  aggregate_field_sync,
  aggregate_sync,
  parts,
) depth 60

plan_inside_sync : IsSync (PlanInside.the_field).row
plan_inside_sync = search (
  op_field_sync,
  op_sync,
  stage_field_sync,
  stage_sync,
  groups_field_sync,
  groups_sync,
  collation_field_sync,
  collation_sync,
  sort_key_field_sync,
  sort_key_sync,
  parts,
) depth 60

plan_sync : IsSync Plan.the_row
plan_sync =
    view_sync _ _ _ _ _ (recorded_sync _ _ ((PlanInside.the_type).to)
    ((PlanInside.the_type).to_one) plan_inside_sync)

selection_field_sync : IsSync (Selection.the_field).row
selection_field_sync = search (plan_sync, collation_field_sync, collation_sync, parts) depth 60

selection_sync : IsSync Selection.the_row
selection_sync = search (
  selection_field_sync,
  plan_sync,
  collation_field_sync,
  collation_sync,
  parts,
) depth 60

program_field_sync : IsSync (Program.the_field).row
program_field_sync = search (selection_field_sync, selection_sync, plan_sync, parts) depth 60

program_sync : IsSync Program.the_row
program_sync = search (
  program_field_sync,
  selection_field_sync,
  selection_sync,
  plan_sync,
  parts,
) depth 60

source_field_sync : IsSync (Source.the_field).row
source_field_sync = search (terms_sync, program_field_sync, program_sync, parts) depth 60

source_sync : IsSync Source.the_row
source_sync = search (
  source_field_sync,
  terms_sync,
  program_field_sync,
  program_sync,
  parts,
) depth 60

upsert_field_sync : IsSync (Upsert.the_field).row
upsert_field_sync = search (program_field_sync, program_sync, parts) depth 60

upsert_sync : IsSync Upsert.the_row
upsert_sync = search (upsert_field_sync, program_field_sync, program_sync, parts) depth 60

returning_field_sync : IsSync (Returning.the_field).row
returning_field_sync = search (source_field_sync, source_sync, parts) depth 60

returning_sync : IsSync Returning.the_row
returning_sync = search (returning_field_sync, source_field_sync, source_sync, parts) depth 60

command_field_sync : IsSync (Command.the_field).row
command_field_sync = search (
  program_field_sync,
  program_sync,
  source_field_sync,
  source_sync,
  upsert_field_sync,
  upsert_sync,
  parts,
) depth 60 fits 20000

command_sync : IsSync Command.the_row
command_sync = search (
  command_field_sync,
  program_field_sync,
  program_sync,
  source_field_sync,
  source_sync,
  upsert_field_sync,
  upsert_sync,
  parts,
) depth 60

compiled_field_sync : IsSync (Compiled.the_field).row
compiled_field_sync = search (
  command_field_sync,
  command_sync,
  returning_field_sync,
  returning_sync,
  parts,
) depth 60

compiled_sync : IsSync Compiled.the_row
compiled_sync = search (
  compiled_field_sync,
  command_field_sync,
  command_sync,
  returning_field_sync,
  returning_sync,
  parts,
) depth 60

entry_field_sync : IsSync (Entry.the_field).row
entry_field_sync = search (compiled_field_sync, compiled_sync, parts) depth 60

entry_sync : IsSync Entry.the_row
entry_sync = search (entry_field_sync, compiled_field_sync, compiled_sync, parts) depth 60

page_index_inside_sync : IsSync (PageIndexInside.the_field).row
page_index_inside_sync = search parts depth 60

page_index_sync : IsSync PageIndex.the_row
page_index_sync =
    view_sync _ _ _ _ _ (recorded_sync _ _ ((PageIndexInside.the_type).to)
    ((PageIndexInside.the_type).to_one) page_index_inside_sync)

log_mark_field_sync : IsSync (LogMark.the_field).row
log_mark_field_sync = search parts depth 60

log_mark_sync : IsSync LogMark.the_row
log_mark_sync = search (log_mark_field_sync, parts) depth 60

ahead_field_sync : IsSync (Ahead.the_field).row
ahead_field_sync = search (page_index_sync, parts) depth 60

ahead_sync : IsSync Ahead.the_row
ahead_sync = search (ahead_field_sync, page_index_sync, parts) depth 60

log_batch_field_sync : IsSync (LogBatch.the_field).row
log_batch_field_sync = search (page_index_sync, parts) depth 60

log_batch_sync : IsSync LogBatch.the_row
log_batch_sync = search (log_batch_field_sync, page_index_sync, parts) depth 60

log_point_field_sync : IsSync (LogPoint.the_field).row
log_point_field_sync = search parts depth 60

log_point_sync : IsSync LogPoint.the_row
log_point_sync = search (log_point_field_sync, parts) depth 60

layer_field_sync : IsSync (Layer.the_field).row
layer_field_sync = search (log_batch_field_sync, log_batch_sync, parts) depth 60

layer_sync : IsSync Layer.the_row
layer_sync = search (layer_field_sync, log_batch_field_sync, log_batch_sync, parts) depth 60

page_cache_field_sync : IsSync (PageCache.the_field).row
page_cache_field_sync = search parts depth 60

page_cache_sync : IsSync PageCache.the_row
page_cache_sync = search (page_cache_field_sync, parts) depth 60

free_set_field_sync : IsSync (FreeSet.the_field).row
free_set_field_sync = search parts depth 60

free_set_sync : IsSync FreeSet.the_row
free_set_sync = search (free_set_field_sync, parts) depth 60

pool_mark_field_sync : IsSync (PoolMark.the_field).row
pool_mark_field_sync = search parts depth 60

pool_mark_sync : IsSync PoolMark.the_row
pool_mark_sync = search (pool_mark_field_sync, parts) depth 60

limits_field_sync : IsSync (Limits.the_field).row
limits_field_sync = search parts depth 60

limits_sync : IsSync Limits.the_row
limits_sync = search (limits_field_sync, parts) depth 60

wanted_field_sync : IsSync (Wanted.the_field).row
wanted_field_sync = search parts depth 60

wanted_sync : IsSync Wanted.the_row
wanted_sync = search (wanted_field_sync, parts) depth 60

listed_field_sync : IsSync (Listed.the_field).row
listed_field_sync = search (wanted_field_sync, wanted_sync, parts) depth 60

listed_sync : IsSync Listed.the_row
listed_sync = search (listed_field_sync, wanted_field_sync, wanted_sync, parts) depth 60

saved_field_sync : IsSync (Saved.the_field).row
saved_field_sync = search (
  wanted_field_sync,
  wanted_sync,
  listed_field_sync,
  listed_sync,
  parts,
) depth 60

saved_sync : IsSync Saved.the_row
saved_sync = search (
  saved_field_sync,
  wanted_field_sync,
  wanted_sync,
  listed_field_sync,
  listed_sync,
  parts,
) depth 60

tree_batch_field_sync : IsSync (TreeBatch.the_field).row
tree_batch_field_sync = search parts depth 60

tree_batch_sync : IsSync TreeBatch.the_row
tree_batch_sync = search (tree_batch_field_sync, parts) depth 60

cursor_field_sync : IsSync (Cursor.the_field).row
cursor_field_sync = search (tree_batch_field_sync, tree_batch_sync, parts) depth 60

cursor_sync : IsSync Cursor.the_row
cursor_sync = search (cursor_field_sync, tree_batch_field_sync, tree_batch_sync, parts) depth 60

scratch_field_sync : IsSync (Scratch.the_field).row
scratch_field_sync = search parts depth 60

scratch_sync : IsSync Scratch.the_row
scratch_sync = search (scratch_field_sync, parts) depth 60

-- ---- over any disk that may be shared

log_field_sync : (D : RattleType) (g : disk.Ghosts D.Denot) → IsSync D
    → IsSync (Log.the_field D g).row
log_field_sync D g d = struct_sync (shape (Log.the_type D g)) (
  d,
  (
    d,
    (
      search parts depth 60,
      (
        search (page_index_sync, parts) depth 60,
        (
          search parts depth 60,
          (
            search parts depth 60,
            (
              search (log_mark_field_sync, parts) depth 60,
              (
                search parts depth 60,
                (
                  search parts depth 60,
                  (
                    search parts depth 60,
                    (
                      search parts depth 60,
                      (
                        search (ahead_field_sync, parts) depth 60,
                        (
                          search parts depth 60,
                          tt,
                        ),
                      ),
                    ),
                  ),
                ),
              ),
            ),
          ),
        ),
      ),
    ),
  ),
)

pager_field_sync : (D : RattleType) (g : disk.Ghosts D.Denot) → IsSync D
    → IsSync (Pager.the_field D g).row
pager_field_sync D g d = struct_sync (shape (Pager.the_type D g)) (
  log_field_sync D g d,
  (
    search (log_batch_field_sync, parts) depth 60,
    (
      search parts depth 60,
      (
        search (log_point_field_sync, log_point_sync, parts) depth 60,
        (
          search (layer_field_sync, layer_sync, parts) depth 60,
          (
            search parts depth 60,
            (
              search (log_batch_field_sync, log_batch_sync, parts) depth 60,
              (
                search (page_cache_field_sync, parts) depth 60,
                (
                  search parts depth 60,
                  (
                    search parts depth 60,
                    (
                      search parts depth 60,
                      (
                        search parts depth 60,
                        (
                          search parts depth 60,
                          (
                            search parts depth 60,
                            tt,
                          ),
                        ),
                      ),
                    ),
                  ),
                ),
              ),
            ),
          ),
        ),
      ),
    ),
  ),
)

backing_field_sync : (D : RattleType) (g : disk.Ghosts D.Denot) → IsSync D
    → IsSync (Backing.the_field D g).row
backing_field_sync D g d = struct_sync (shape (Backing.the_type D g)) (
  pager_field_sync D g d,
  (
    search parts depth 60,
    (
      search parts depth 60,
      (
        search parts depth 60,
        (
          search parts depth 60,
          tt,
        ),
      ),
    ),
  ),
)

pool_field_sync : (D : RattleType) (g : disk.Ghosts D.Denot) → IsSync D
    → IsSync (Pool.the_field D g).row
pool_field_sync D g d = struct_sync (shape (Pool.the_type D g)) (
  backing_field_sync D g d,
  (
    search (free_set_field_sync, parts) depth 60,
    (
      search parts depth 60,
      (
        search parts depth 60,
        (
          search (pool_mark_field_sync, pool_mark_sync, parts) depth 60,
          (
            search parts depth 60,
            (
              search parts depth 60,
              tt,
            ),
          ),
        ),
      ),
    ),
  ),
)

file_store_field_sync : (D : RattleType) (g : disk.Ghosts D.Denot) → IsSync D
    → IsSync (FileStore.the_field D g).row
file_store_field_sync D g d = struct_sync (shape (FileStore.the_type D g)) (
  pool_field_sync D g d,
  (
    search parts depth 60,
    (
      search (wanted_field_sync, wanted_sync, parts) depth 60,
      (
        search parts depth 60,
        (
          search (saved_field_sync, saved_sync, parts) depth 60,
          (
            search parts depth 60,
            (
              search (cursor_field_sync, cursor_sync, parts) depth 60,
              (
                search (scratch_field_sync, parts) depth 60,
                (
                  search parts depth 60,
                  (
                    search parts depth 60,
                    (
                      search (limits_field_sync, parts) depth 60,
                      (
                        search parts depth 60,
                        tt,
                      ),
                    ),
                  ),
                ),
              ),
            ),
          ),
        ),
      ),
    ),
  ),
)

file_store_sync : (D : RattleType) (g : disk.Ghosts D.Denot) → IsSync D
    → IsSync (FileStore.the_row D g)
file_store_sync D g d = search (d, file_store_field_sync D g d, parts) depth 60

connection_inside_sync : (S : RattleType) (g : store.Ghosts S.Denot) → IsSync S
    → IsSync (ConnectionInside.the_field S g).row
connection_inside_sync S g s = struct_sync (shape (ConnectionInside.the_type S g)) (
  s,
  (
    schema_field_sync,
    (
      history_field_sync,
      (
        search parts depth 60,
        (
          search parts depth 60,
          (
            search parts depth 60,
            (
              search (entry_field_sync, entry_sync, parts) depth 60,
              (
                search parts depth 60,
                (
                  search parts depth 60,
                  (
                    search parts depth 60,
                    (
                      search parts depth 60,
                      (
                        search parts depth 60 fits 20000,
                        (
                          search parts depth 60 fits 20000,
                          (
                            search parts depth 60,
                            tt,
                          ),
                        ),
                      ),
                    ),
                  ),
                ),
              ),
            ),
          ),
        ),
      ),
    ),
  ),
)

connection_sync : (S : RattleType) (g : store.Ghosts S.Denot) → IsSync S
    → IsSync (Connection.the_row S g)
connection_sync S g s =
    view_sync _ _ _ _ _ (recorded_sync _ _ ((ConnectionInside.the_type S g).to)
    ((ConnectionInside.the_type S g).to_one) (connection_inside_sync S g s))

text_sync : IsSync Text.the_row
text_sync = search parts depth 60

-- what is noted of a file is shown as what it owns
note_sync : IsSync Note.the_row
note_sync = record { shared = λ d b o ν q. part_keyless Note.the_row note_send q d b o }

host_field_sync : IsSync (Host.the_field).row
host_field_sync = search (note_sync, parts) depth 60

host_sync : IsSync Host.the_row
host_sync = search (host_field_sync, note_sync, parts) depth 60

file_sync : IsSync File
file_sync = search (host_sync, host_field_sync, note_sync, parts) depth 60

keeper_inside_sync : IsSync (KeeperInside.the_field).row
keeper_inside_sync = struct_sync (shape (KeeperInside.the_type)) (
  search parts depth 60,
  (
    search (text_sync, parts) depth 60,
    (
      Options.the_field_sync (Connection.the_row Stored stored)
          (connection_sync Stored stored (file_store_sync File file file_sync)),
      (
        search parts depth 60,
        (
          search parts depth 60,
          tt,
        ),
      ),
    ),
  ),
)

-- a keeper over a file may be shared by them
pub keeper_sync : IsSync Keeper.the_row
keeper_sync =
    view_sync _ _ _ _ _ (recorded_sync _ _ ((KeeperInside.the_type).to)
    ((KeeperInside.the_type).to_one) keeper_inside_sync)
