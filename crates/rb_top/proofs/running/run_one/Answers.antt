use Rattle.std.proofs.Common.{ap, sym, ◌∙◌}
use Rattle.rb_causes.specs.declared.trouble.Trouble.TheVariants.{NoMemory}
use Rattle.rb_top.specs.Access.{allowed_of}
use Rattle.rb_top.specs.Table.{told_on}
use Rattle.rb_top.proofs.Judging.{decided_targets, decided_nodes, run_played, run_broke, run_cut, run_unmade}
use Rattle.rb_top.proofs.PlayedLemmas.{plays_handed, plays_map}
use Rattle.rb_top.proofs.Sizes.{found_numbered, allowed_numbered}
use Rattle.rb_top.proofs.running.run_one.Goals as goal

pub returns-in_err-decisions : goal.returns-in_err-decisions
returns-in_err-decisions g c policies tells =
    plays_handed c.from_residual.result NoMemory c.from_residual.ensures.1 _ _ _ _ _ _
    (run_unmade policies c.args.number c.args.run.now _ c.in-Some.job.now c.in-Some.ensures _ _)

pub returns-in_err-allowed : goal.returns-in_err-allowed
returns-in_err-allowed g c policies tells =
    plays_handed c.from_residual-in_err-allowed.result NoMemory c.from_residual-in_err-allowed.ensures.1 _ _ _ _ _ _
    (run_unmade policies c.args.number c.args.run.now _ c.in-Some.job.now c.in-Some.ensures _ _)

pub returns-in_err-print_run : goal.returns-in_err-print_run
returns-in_err-print_run g c policies tells =
    plays_handed c.from_residual-in_err-print_run.result c.in_err-print_run.field-0.0 c.from_residual-in_err-print_run.ensures.1 _ _ _ _ _ _
    (run_cut policies c.args.number c.args.run.now _ c.in-Some.job.now c.in-Some.ensures _ _ _ c.in_err-print_run.ensures)

pub returns : goal.returns
returns g c policies tells =
    let user = c.args.run.now.user in
    let job = c.in-Some.job.now in
    let asked = decided_nodes policies c.args.access.now user tells job _ _ _ c.as_slice.ensures c.in_ok-decisions.ensures c.as_slice-2.ensures.value in
    let decided = decided_nodes policies c.args.access.now user tells job _ _ _ c.as_slice.ensures c.in_ok-decisions.ensures c.as_slice-3.ensures.value in
    let allowed = decided_targets policies user job _ _ _ asked c.in_ok-allowed.ensures c.as_slice-4.ensures in
    plays_map _
    (λ done played. run_played policies c.args.number c.args.run.now _ job c.in-Some.ensures _ c.in_ok-print_run.ensures played)
    (λ trouble broke. run_broke policies c.args.number c.args.run.now _ job c.in-Some.ensures _ c.in_ok-print_run.ensures broke)
    (rw (decided, allowed) at (c.authorize.ensures user))

pub authorize-requires-clause-numbered : goal.authorize-requires-clause-numbered
authorize-requires-clause-numbered g c =
    let job = c.in-Some.job.now in
    let numbered = found_numbered c.args.jobs.now c.args.run.now.job job c.requires.jobs (sym c.in-Some.ensures) in
    let decided = c.as_slice-2.ensures.value ∙ c.in_ok-decisions.ensures ∙ ap (told_on c.args.access.now c.args.run.now.user) c.as_slice.ensures in
    (allowed_numbered c.args.access.now c.args.run.now.user job.nodes _ (c.as_slice-4.ensures ∙ c.in_ok-allowed.ensures ∙ ap allowed_of decided) numbered.0, numbered.1)
