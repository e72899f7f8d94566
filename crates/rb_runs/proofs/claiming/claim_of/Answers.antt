use Rattle.std.proofs.Common.{◌≡◌, ◌∙◌, w64, to_z, ap, refl, arith, List}
use Rattle.std.proofs.lemmas.Int.{to_z-of_z}
use Rattle.rb_causes.specs.declared.row.Row.{Row}
use Rattle.rb_log.specs.Executions.{Execution}
use Rattle.rb_log.specs.Rows.{begin_row}
use Rattle.rb_runs.specs.Claiming.{IsStart}
use Rattle.rb_tables.specs.Tables.{IsEntry, IsTabled}
use Rattle.rb_tables.specs.declared.change.Outcome.TheVariants.{Task}
use Rattle.rb_tables.proofs.FewLeaves.{has_few, has_leaf}
use Rattle.rb_tables.proofs.Saying.{desk_low, read_is}
use Rattle.rb_runs.proofs.Claimed.{beginning_is_claim}
use Rattle.rb_runs.proofs.SecondCheck.{starts_run}
use Rattle.rb_runs.proofs.claiming.claim_of.Goals as goal
use Rattle.rb_runs.proofs.claiming.claim_of.Goals.{After-index-execution}

same_at : (c : After-index-execution) (past : List Row) → IsTabled c.args.tables.now past
    → (start : IsStart past c.args.start)
    → IsEntry c.index-execution.result.now start.execution
same_at c past tabled start =
    read_is c.args.tables.now past tabled.says c.args.start.place start.execution start.found
    c.index-execution.result.now c.index-execution.ensures

pub index-execution-requires : goal.index-execution-requires
index-execution-requires c =
    let start = c.requires.2 in
    let low = desk_low c.args.tables.now c.requires.0 c.requires.1.says c.args.start.place
    start.execution start.found in
    omega (arith, low, c.args.tables.now.executions.ok.0)

pub words-requires : goal.words-requires
words-requires c =
    let start = c.requires.2 in (
      start.execution,
      (same_at (goal.at.words-requires c).After-index-execution c.requires.0 c.requires.1 start).is,
      has_leaf c.log_laws.ensures c.requires.0 c.args.start.place start.execution
          c.args.start.leaf c.requires.1.legal start.found start.first,
    )

pub leaf_number-requires : goal.leaf_number-requires
leaf_number-requires c =
    let start = c.requires.2 in (
      start.execution,
      (same_at (goal.at.leaf_number-requires c).After-index-execution c.requires.0 c.requires.1
          start).is,
      has_few c.log_laws.ensures c.requires.0 c.args.start.place start.execution
          c.requires.1.legal start.found,
    )

pub returns : goal.returns
returns c past tabled start kept =
    let e : Execution = start.execution in
    let x = c.index-execution.result.now in
    let leaf = c.args.start.leaf in
    let laws = c.log_laws.ensures in
    let is = (same_at (goal.at.returns c).After-index-execution past tabled start).is in
    let has = has_leaf laws past c.args.start.place e leaf tabled.legal start.found start.first in
    let runs = starts_run laws past c.args.start.place e leaf tabled.legal start.found
    start.first in
    let number : x.number ≡ e.number = ap (λ (z : Execution). z.number) is.same in
    let words = c.in_ok-words.words in
    beginning_is_claim laws past c.args.start c.args.at c.args.worker _ tabled.legal start
    (kept e start.found) (record {
      outcome = ap (λ n. Task (record { execution = n; leaf = leaf; worker = c.args.worker })
          words) number
          ∙ ap (Task (record { execution = e.number; leaf = leaf; worker = c.args.worker }))
          (c.in_ok-words.ensures e is has runs);
      row = c.begin_row-row.ensures
          ∙ ap (λ z. begin_row z x.number c.leaf_number.result c.args.worker)
          (to_z-of_z w64 c.args.at c.ranges.at)
          ∙ ap (λ n. begin_row c.args.at n c.leaf_number.result c.args.worker) number
          ∙ ap (λ n. begin_row c.args.at e.number n c.args.worker)
          (c.leaf_number.ensures e is has.few runs);
      does = refl;
    })
