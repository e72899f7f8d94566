use Rattle.std.proofs.Common.{◌∙◌, ◌+◌, ◌-◌, slice_get, ap, sym, arith}
use Rattle.rb_log.specs.Executions.{Execution as LoggedExecution}
use Rattle.rb_tables.specs.Leaves.{HasFewLeaves}
use Rattle.rb_tables.specs.Running.{IsOwing, IsTold, MayOwe, owed_if_running, running_after}
use Rattle.rb_tables.specs.declared.tables.Tables.{Tables}
use Rattle.rb_tables.proofs.Lists.{set_there}
use Rattle.rb_changes.proofs.retiring.retire.Goals as goal
use Rattle.rb_changes.proofs.retiring.retire.Goals.{After-close_if_over}

pub close_if_over-requires-clause-place : goal.close_if_over-requires-clause-place
close_if_over-requires-clause-place c = c.requires.place

pub close_if_over-requires-clause-told : goal.close_if_over-requires-clause-told
close_if_over-requires-clause-told c = (c.requires.told.0, c.requires.told.1)

-- what is owed is as before, where the execution was closed
owing_at : (c : After-close_if_over) (l : LoggedExecution)
    → IsTold c.args.tables.now c.args.place l → HasFewLeaves l
    → MayOwe c.args.tables.now c.args.before
    → IsOwing c.close_if_over.new.tables c.args.place l c.args.before
owing_at c l told few may =
    let closes = c.close_if_over.ensures l told in
    let owed = ap (λ (t : Tables). t.owed_by_running) closes.rest in record {
      execution = closes.execution;
      found = ap (λ es. slice_get es c.args.place) closes.executions
          ∙ set_there c.args.tables.now.executions.items c.args.place closes.execution
          c.requires.place;
      entry = closes.entry;
      few = few;
      may = (omega (arith, owed, may.0), omega (arith, owed, may.1));
    }

pub owe_anew-requires : goal.owe_anew-requires
owe_anew-requires c = record {
  entry = (
    c.requires.told.0,
    owing_at (goal.at.owe_anew-requires c).After-close_if_over c.requires.told.0
        c.requires.told.1 c.requires.told.2 c.requires.owed,
  );
}

pub returns : goal.returns
returns c l told few =
    let old = c.args.tables.now in
    let closes = c.close_if_over.ensures l told in
    let owes = c.owe_anew.ensures l
    (owing_at (goal.at.returns c).After-close_if_over l told few c.requires.owed) in
    let stays = ap (λ (t : Tables). t.executions) owes in record {
      execution = closes.execution;
      entry = closes.entry;
      executions = ap (λ es. es.items) stays ∙ closes.executions;
      rest = owes
          ∙ ap (λ (t : Tables). record t {
            owed_by_running = t.owed_by_running - c.args.before + owed_if_running l;
          }) closes.rest
          ∙ ap (λ es. record old {
            executions = es;
            owed_by_running = old.owed_by_running - c.args.before + owed_if_running l;
            world = record old.world { running = running_after l old.world.running };
          }) (sym stays);
    }
