use Rattle.rb_causes.specs.declared.trouble.Trouble.TheVariants.{NoMemory}
use Rattle.rb_top.specs.Play.{Start}
use Rattle.rb_causes.proofs.RanLaws.{ran_readied}
use Rattle.rb_top.proofs.PlayedLemmas.{plays_handed}
use Rattle.rb_top.proofs.Stretches.{start_played, start_unmade, start_cut, end_cut, run_of_words}
use Rattle.rb_top.proofs.starting.start.Goals as goal

pub returns-in_err-ready : goal.returns-in_err-ready
returns-in_err-ready g c user =
    plays_handed c.from_residual.result NoMemory c.from_residual.ensures.1 _ _ _ _ _ _ (start_unmade _ (ran_readied _ _ c.ready.ensures.runs c.ready.ensures.faults))

pub returns-in_err-owned : goal.returns-in_err-owned
returns-in_err-owned g c user =
    plays_handed c.from_residual-in_err-owned.result NoMemory c.from_residual-in_err-owned.ensures.1 _ _ _ _ _ _ (start_unmade _ (ran_readied _ _ c.ready.ensures.runs c.ready.ensures.faults))

pub returns-in_err-print_start : goal.returns-in_err-print_start
returns-in_err-print_start g c user =
    plays_handed c.from_residual-in_err-print_start.result c.in_err-print_start.field-0.0 c.from_residual-in_err-print_start.ensures.1 _ _ _ _ _ _
    (start_cut _ (ran_readied _ _ c.ready.ensures.runs c.ready.ensures.faults) c.in_err-print_start.field-0.0 c.in_err-print_start.ensures)

pub returns-in_err-print_end : goal.returns-in_err-print_end
returns-in_err-print_end g c user =
    let start : Start = record { user = user; node = c.args.node.now; step = c.args.step; words = c.args.words.now } in
    plays_handed c.from_residual-in_err-print_end.result c.in_err-print_end.field-0.0 c.from_residual-in_err-print_end.ensures.1 _ _ _ _ _ _
    (end_cut start (ran_readied _ _ c.ready.ensures.runs c.ready.ensures.faults) c.in_err-print_end.field-0.0 c.run-ending.result _ _ _ c.in_ok-print_start.ensures
    (run_of_words start c.run-ending.result _ _ _ c.in_ok-owned.ensures c.run-ending.ensures) c.in_err-print_end.ensures)

pub returns : goal.returns
returns g c user =
    let start : Start = record { user = user; node = c.args.node.now; step = c.args.step; words = c.args.words.now } in
    start_played start (ran_readied _ _ c.ready.ensures.runs c.ready.ensures.faults) c.run-ending.result _ _ _ c.in_ok-print_start.ensures
    (run_of_words start c.run-ending.result _ _ _ c.in_ok-owned.ensures c.run-ending.ensures) c.in_ok-print_end.ensures
