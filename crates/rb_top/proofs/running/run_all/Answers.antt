use Rattle.std.proofs.Common.{sym, ◌∙◌}
use Rattle.rb_causes.specs.declared.trouble.Trouble.TheVariants.{NoMemory}
use Rattle.rb_top.specs.Access.{script_policies}
use Rattle.rb_top.specs.Drill.{all_runs}
use Rattle.rb_top.proofs.Judging.{tells_script, same_run, run_at, run_cut_at, runs_more, runs_cut, runs_none, runs_unmade, some_runs}
use Rattle.rb_top.proofs.PlayedLemmas.{plays_handed, broke_here, played_nothing}
use Rattle.rb_top.proofs.running.run_all.Goals as goal

pub returns-then-is_empty : goal.returns-then-is_empty
returns-then-is_empty g c =
    let script = c.args.script.now in
    runs_none (script_policies script) script.jobs script.runs _ _ (sym c.is_empty.ensures ∙ c.if-is_empty.true)

pub returns-in_err-access : goal.returns-in_err-access
returns-in_err-access g c =
    let script = c.args.script.now in
    plays_handed c.from_residual.result NoMemory c.from_residual.ensures.1 _ _ _ _ _ _
    (broke_here (all_runs (script_policies script) script.jobs 1 script.runs) _ _
    (runs_unmade (script_policies script) script.jobs script.runs 1 (some_runs script.runs (sym c.is_empty.ensures ∙ c.if-is_empty.false)) c.requires.steps))

pub returns-in_err-places : goal.returns-in_err-places
returns-in_err-places g c =
    let script = c.args.script.now in
    plays_handed c.from_residual-in_err-places.result NoMemory c.from_residual-in_err-places.ensures.1 _ _ _ _ _ _
    (broke_here (all_runs (script_policies script) script.jobs 1 script.runs) _ _
    (runs_unmade (script_policies script) script.jobs script.runs 1 (some_runs script.runs (sym c.is_empty.ensures ∙ c.if-is_empty.false)) c.requires.steps))

pub loop-index-init : goal.loop-index-init
loop-index-init g c = let script = c.args.script.now in played_nothing (all_runs (script_policies script) script.jobs 1 script.runs) _ _

pub returns-in_err-run_one : goal.returns-in_err-run_one
returns-in_err-run_one g c =
    let script = c.args.script.now in
    let at = same_run c.as_slice-run-items.result.now script.runs c.loop-index.index c.run-item.result c.as_slice-run-items.ensures c.loop-index-test.true c.run-item.is in
    plays_handed c.from_residual-in_err-run_one.result c.in_err-run_one.field-0.0 c.from_residual-in_err-run_one.ensures.1 _ _ _ _ _ _
    (runs_cut (script_policies script) script.jobs script.runs c.loop-index.index c.run-item.result at.0 at.1 (all_runs (script_policies script) script.jobs 1 script.runs) c.loop-index.invariant
    (run_cut_at (script_policies script) _ c.run-item.result c.as_slice-in-loop-index.ensures
    (c.in_err-run_one.ensures (script_policies script) (tells_script c.as_slice.result.now script c.in_ok-access.access c.as_slice.ensures c.in_ok-access.ensures))))

pub loop-index-preserved : goal.loop-index-preserved
loop-index-preserved g c =
    let script = c.args.script.now in
    let at = same_run c.as_slice-run-items.result.now script.runs c.loop-index.index c.run-item.result c.as_slice-run-items.ensures c.loop-index-test.true c.run-item.is in
    runs_more (script_policies script) script.jobs script.runs c.loop-index.index c.run-item.result at.0 at.1 (all_runs (script_policies script) script.jobs 1 script.runs) c.loop-index.invariant
    (run_at (script_policies script) _ c.run-item.result c.as_slice-in-loop-index.ensures
    (c.in_ok-run_one.ensures (script_policies script) (tells_script c.as_slice.result.now script c.in_ok-access.access c.as_slice.ensures c.in_ok-access.ensures)))
