-- What a tick gives of the first job that is due: it is fired or skipped.
use Rattle.std.proofs.Common.{◌≡◌, ◌∙◌, ◌<◌, ◌+◌, ◌^◌, ℕ, ℤ, List, length, Some, None, Ok, Err, IsTrue, ap, sym, subst, refl}
use Rattle.rb_causes.specs.declared.row.Row.{Row}
use Rattle.rb_acl.specs.declared.policy.Caller.{Caller}
use Rattle.rb_plan.specs.Acceptance.{Acceptance}
use Rattle.rb_plan.specs.Refusals.{refusal_number}
use Rattle.rb_plan.specs.Verdict.{verdict_of}
use Rattle.rb_plan.specs.declared.refusal.Refusal.{Refusal}
use Rattle.rb_cron.specs.Next.{natural_of}
use Rattle.rb_plan.specs.declared.world.HeldJob.{HeldJob}
use Rattle.rb_plan.specs.declared.world.RunAsk.{RunAsk}
use Rattle.rb_plan.specs.declared.world.World.{World}
use Rattle.rb_log.specs.Asks.{scheduled_ask}
use Rattle.rb_log.specs.LogState.{LogState, log_state, moment, moment_by}
use Rattle.rb_log.specs.Rows.{is_clean_caller, skipped_row}
use Rattle.rb_log.specs.Runs.{next_execution, next_number, run_accepted}
use Rattle.rb_log.specs.Ticks.{DueJob as LoggedDue, first_by_id, first_due, instant_number, tick, tick_by, tick_on}
use Rattle.rb_log.specs.World.{count_of, latest_of, projects_at}
use Rattle.rb_log.specs.declared.answer.Answer.TheVariants as answer
use Rattle.rb_log.specs.declared.call.Call.TheVariants as calls
use Rattle.rb_tables.specs.Changes.{Decided, IsEffect, IsSettled, IsSkipEffect, answer_of, need_of}
use Rattle.rb_tables.specs.Tables.{IsTabled}
use Rattle.rb_tables.specs.declared.change.Change.{Change}
use Rattle.rb_tables.specs.declared.tables.Tables.{Tables}
use Rattle.rb_runs.specs.Asking.{BeginsExecution}
use Rattle.rb_runs.specs.RunLaws.{RunLaws}
use Rattle.rb_runs.specs.Ticking.{IsJobAt, IsSkipped, IsTick, MayBeDueJob, due_among}
use Rattle.rb_runs.specs.declared.ticking.DueJob.{DueJob}
use Rattle.rb_runs.proofs.Changed.{moved_is}
use Rattle.rb_runs.proofs.DueJobs.{due_same, job_is, none_due, some_due}
use Rattle.rb_runs.proofs.Runs.{IsAccepted, begins_effect, begins_moved, begins_there, moment_is, some_reading, verdict_is}

module _ (t : Tables) (past : List Row) (due : LoggedDue) (at : ℤ) (draw : ℕ) (c : Change)
    (tabled : IsTabled t past) (drawn : draw ≡ t.draw + (length t.executions.items + 1)) where
  abbrev s : LogState
  s = log_state past

  abbrev ask : RunAsk
  ask = scheduled_ask due.held.id

  pub fired_is_tick : RunLaws → (n : ℕ) (accepted : Acceptance) → instant_number due ≡ n
      → n < 2 ^ 64 → IsTrue (is_clean_caller due.held.importer)
      → verdict_of t.world due.held.importer ask draw ≡ Ok accepted
      → BeginsExecution t.world (length t.executions.items)
      (count_of (latest_of accepted.project t.nodes.items)) at due.held.importer ask (Some n)
      accepted c → IsTick past at due c
  fired_is_tick laws n accepted instant low clean verdict b =
      let caller : Caller = due.held.importer in
      let is : IsAccepted past caller ask (Some n) accepted = record {
        legal = tabled.legal;
        clean = clean;
        kept = laws.due_asks ask n low;
        verdict = verdict_is t past tabled caller ask draw drawn ∙ verdict;
      } in
      let begins = begins_there t past caller ask (Some n) at accepted c tabled b in
      record {
        moved = ap (tick_by s at due) is.verdict
            ∙ ap (λ i. run_accepted s ask (Some i) (answer.Fired (next_number s))
            (next_execution s at caller accepted)) instant
            ∙ begins_moved past caller ask (Some n) at accepted c begins;
        effect = begins_effect past caller ask (Some n) at accepted c begins laws is;
      }

  pub skipped_is_tick : (n : ℕ) (refusal : Refusal) → instant_number due ≡ n
      → verdict_of t.world due.held.importer ask draw ≡ Err refusal
      → IsSkipped due.held n refusal at c → IsTick past at due c
  skipped_is_tick n refusal instant verdict k =
      let row : Row = skipped_row at n (refusal_number refusal) due.held.id in
      let effect : IsSkipEffect row due.held.id = record { kind = refl; named = refl } in
      record {
        moved = ap (tick_by s at due)
            (verdict_is t past tabled due.held.importer ask draw drawn ∙ verdict)
            ∙ ap (λ i. record {
              answer = answer.Fired 0;
              row = Some (skipped_row at i (refusal_number refusal) due.held.id);
              need = Some 1;
            }) instant
            ∙ moved_is c (answer.Fired 0) row (Some 1) (ap answer_of k.outcome) k.row
            (ap need_of k.does);
        effect = subst (IsEffect past c.row) (sym k.does)
            (subst (λ r. IsSkipEffect r due.held.id) (sym k.row) effect);
      }

  -- as the tables name them
  pub fired_on : RunLaws → (n : ℕ) (accepted : Acceptance) → instant_number due ≡ n
      → n < 2 ^ 64 → IsTrue (is_clean_caller due.held.importer) → (held : HeldJob)
      → due.held ≡ held → (importer : Caller) → importer ≡ held.importer → (asks : RunAsk)
      → asks ≡ scheduled_ask held.id → (now : ℤ) → now ≡ at
      → verdict_of t.world held.importer asks draw ≡ Ok accepted
      → BeginsExecution t.world (length t.executions.items)
      (count_of (latest_of accepted.project t.nodes.items)) now importer asks (Some n) accepted c
      → IsTick past at due c
  fired_on laws n accepted instant low clean held same importer imported asks asked now here
      verdict b =
      let begins : ℤ → Caller → RunAsk → Type 0 =
      λ m k a. BeginsExecution t.world (length t.executions.items)
      (count_of (latest_of accepted.project t.nodes.items)) m k a (Some n) accepted c in
      let ask_is : asks ≡ ask = asked ∙ ap (λ (h : HeldJob). scheduled_ask h.id) (sym same) in
      fired_is_tick laws n accepted instant low clean
      (ap (λ (h : HeldJob). verdict_of t.world h.importer ask draw) same
      ∙ ap (λ a. verdict_of t.world held.importer a draw) (sym ask_is) ∙ verdict)
      (subst (λ m. begins m due.held.importer ask) here
      (subst (λ k. begins now k ask)
      (imported ∙ ap (λ (h : HeldJob). h.importer) (sym same))
      (subst (λ a. begins now importer a) ask_is b)))

  pub skipped_on : (n : ℕ) (refusal : Refusal) → instant_number due ≡ n → (held : HeldJob)
      → due.held ≡ held → (asks : RunAsk) → asks ≡ scheduled_ask held.id → (now : ℤ) → now ≡ at
      → verdict_of t.world held.importer asks draw ≡ Err refusal
      → IsSkipped held n refusal now c → IsTick past at due c
  skipped_on n refusal instant held same asks asked now here verdict k =
      let ask_is : asks ≡ ask = asked ∙ ap (λ (h : HeldJob). scheduled_ask h.id) (sym same) in
      skipped_is_tick n refusal instant
      (ap (λ (h : HeldJob). verdict_of t.world h.importer ask draw) same
      ∙ ap (λ a. verdict_of t.world held.importer a draw) (sym ask_is) ∙ verdict)
      (subst (λ h. IsSkipped h n refusal at c) (sym same)
      (subst (λ m. IsSkipped held n refusal m c) here k))

-- ---- which job it is

module _ (t : Tables) (past : List Row) (tabled : IsTabled t past) (at now : ℤ)
    (here : now ≡ moment_by t.last at) where
  first_is : first_by_id (due_among now t.world.projects) ≡ first_due (log_state past) now
  first_is =
      ap (λ (w : World). first_by_id (due_among now w.projects)) tabled.says.world
      ∙ ap first_by_id (due_same now (projects_at past))

  at_moment : tick (log_state past) (moment (log_state past) at)
      ≡ tick_on (log_state past) now (first_due (log_state past) now)
  at_moment = ap (tick (log_state past)) (sym (here ∙ moment_is t past tabled at))

  pub quiet_is_settled
      : MayBeDueJob t.world.projects None (first_by_id (due_among now t.world.projects))
      → IsSettled past (calls.Tick at) answer.Quiet
  quiet_is_settled h = record {
    reading = some_reading;
    may_read = tt;
    says = at_moment ∙ ap (tick_on (log_state past) now)
        (sym first_is ∙ none_due t.world.projects (first_by_id (due_among now t.world.projects)) h);
  }

  pub tick_is_decided : RunLaws → (d : DueJob)
      → MayBeDueJob t.world.projects (Some d) (first_by_id (due_among now t.world.projects))
      → (held : HeldJob) → IsJobAt t.world.projects d.place held → (n : ℕ)
      → n ≡ natural_of d.instant → (c : Change)
      → ((due : LoggedDue) → due.held ≡ held → instant_number due ≡ n
      → IsTrue (is_clean_caller due.held.importer) → IsTick past now due c)
      → Decided past (calls.Tick at) (Ok c)
  tick_is_decided laws d h held job n number c ticks =
      let x = some_due t.world.projects d (first_by_id (due_among now t.world.projects)) h in
      let first : first_due (log_state past) now ≡ Some x.0 = sym first_is ∙ x.1 in
      let made = ticks x.0 (job_is t.world.projects d.place x.0.held held x.2.held job)
      (ap natural_of (sym x.2.instant) ∙ sym number)
      (laws.importers past x.0.held tabled.legal
      (laws.first (log_state past) now x.0 first).held) in (
        record {
          reading = some_reading;
          may_read = tt;
          says = at_moment ∙ ap (tick_on (log_state past) now) first ∙ made.moved;
        },
        made.effect,
      )
