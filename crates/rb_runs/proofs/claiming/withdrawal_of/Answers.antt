use Rattle.std.proofs.Common.{◌≡◌, ◌∙◌, Some, ap, refl, sym, arith, w64}
use Rattle.std.proofs.lemmas.Int.{to_z-of_z}
use Rattle.rb_plan.specs.declared.world.World.{World}
use Rattle.rb_log.specs.Executions.{Execution}
use Rattle.rb_log.specs.LogState.{log_state}
use Rattle.rb_log.specs.Readings.{decision_text}
use Rattle.rb_log.specs.Rows.{withdraw_row}
use Rattle.rb_tables.specs.declared.change.Outcome.TheVariants.{Withdrawn}
use Rattle.rb_tables.proofs.Saying.{desk_low}
use Rattle.rb_runs.proofs.Checking.{clause_named, entry, name_low, name_there}
use Rattle.rb_runs.proofs.Claimed.{withdrawal_is_claim}
use Rattle.rb_runs.proofs.SecondCheck.{refused_is}
use Rattle.rb_runs.proofs.claiming.withdrawal_of.Goals as goal

pub index-execution-requires : goal.index-execution-requires
index-execution-requires c =
    let start = c.requires.2 in
    let low = desk_low c.args.tables.now c.requires.0 c.requires.1.says c.args.start.place
    start.execution start.found in
    omega (arith, low, c.args.tables.now.executions.ok.0)

pub bounds-as_slice-node : goal.bounds-as_slice-node
bounds-as_slice-node c =
    name_low c.args.tables.now c.requires.0 c.requires.1 c.args.start c.requires.2
    c.index-execution.result.now c.index-execution.ensures c.log_laws.ensures
    c.as_slice.result.now c.as_slice.ensures

pub decision_text-requires : goal.decision_text-requires
decision_text-requires c =
    let start = c.requires.2 in
    clause_named c.args.tables.now c.requires.0 c.requires.1 c.args.start start
    c.index-execution.result.now c.index-execution.ensures c.args.decision
    (refused_is (log_state c.requires.0) start.execution c.args.start.leaf c.args.decision
    (c.requires.3 start.execution start.found))

pub returns : goal.returns
returns c past worker tabled start checked =
    let x = c.index-execution.result.now in
    let is = (entry c.args.tables.now past tabled c.args.start start x
    c.index-execution.ensures).is in
    let number : x.number ≡ start.execution.number =
    ap (λ (e : Execution). e.number) is.same in
    let leaf = c.args.start.leaf in
    let at = to_z-of_z w64 c.args.at c.ranges.at in
    withdrawal_is_claim past c.args.start c.args.decision c.args.at worker _ start
    (record {
      name = c.in_ok-name.name;
      named = name_there c.args.tables.now past tabled c.args.start start x
          c.index-execution.ensures c.log_laws.ensures c.as_slice.result.now
          c.index-as_slice-node.result c.as_slice.ensures c.index-as_slice-node.is
          ∙ ap Some (sym c.in_ok-name.ensures);
      outcome = ap (λ n. Withdrawn n c.in_ok-name.name c.args.decision) number;
      row = c.withdraw_row.ensures
          ∙ ap (λ z. withdraw_row z x.number leaf.node c.args.tables.now.world.policy_number) at
          ∙ ap (λ n. withdraw_row c.args.at n leaf.node c.args.tables.now.world.policy_number)
          number
          ∙ ap (λ (w : World). withdraw_row c.args.at start.execution.number leaf.node
          w.policy_number) tabled.says.world;
      effect = record {
        place = c.args.start.place;
        new = record { node = leaf.node; clause = c.in_ok-clause.clause };
      };
      does = refl;
      place = refl;
      new = ap (λ t. record { node = leaf.node; clause = t })
          (c.in_ok-clause.ensures
          ∙ ap (λ (w : World). decision_text w.policies c.args.decision) tabled.says.world);
    })
    (refused_is (log_state past) start.execution leaf c.args.decision
    (checked start.execution start.found))
