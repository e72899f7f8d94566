use Rattle.std.proofs.Common.{◌≡◌, ◌∙◌, ◌+◌, ℤ, length, ap, refl, to_z, of_z, w64}
use Rattle.std.proofs.Math.Facts.{to_z-of_z}
use Rattle.rb_plan.specs.Acceptance.{acceptance}
use Rattle.rb_log.specs.Asks.{ask_text}
use Rattle.rb_log.specs.Executions.{started}
use Rattle.rb_log.specs.Rows.{accept_row}
use Rattle.rb_log.specs.World.{count_of, latest_of}
use Rattle.rb_runs.proofs.asking.begin_run.Goals as goal

pub returns : goal.returns
returns c =
    let a = acceptance c.args.accepted in
    let at : ℤ = to_z w64 (of_z w64 c.args.at) in
    let is : at ≡ c.args.at = to_z-of_z c.ranges.at in
    let world = c.args.tables.now.world in
    let next = length c.args.tables.now.executions.items + 1 in
    let text = ask_text c.args.ask.now c.args.due in
    let job = c.args.ask.now.job in
    let caller = c.args.caller in
    let made = c.in_ok-effect.ensures in record {
      effect = c.in_ok-effect.effect;
      runs = refl;
      execution = made.execution;
      is = made.is
          ∙ ap (λ n. started world n at caller a) c.next_number-number.ensures.number
          ∙ ap (λ t. started world next t caller a) is;
      entry = made.entry;
      outcome = c.in_ok-outcome.ensures made.execution made.entry.is;
      row =
          c.in_ok-row.ensures
          ∙ ap (λ n. accept_row at n world.policy_number c.nodes_number-inventory.result job caller
          text) c.next_number-number.ensures.number
          ∙ ap (λ i. accept_row at next world.policy_number i job caller text)
          (c.nodes_number-inventory.ensures
          ∙ ap (λ p. count_of (latest_of p c.args.tables.now.nodes.items)) c.as_str.ensures)
          ∙ ap (λ t. accept_row t next world.policy_number
          (count_of (latest_of c.args.accepted.project c.args.tables.now.nodes.items)) job caller
          text) is;
      need = made.need;
      fired = made.fired;
      new = made.new;
      empty = made.empty;
      memory = made.memory;
    }
