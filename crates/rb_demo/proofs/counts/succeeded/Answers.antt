use Rattle.std.proofs.Common.{◌≡◌, ◌∙◌, ◌≤◌, ◌<◌, ◌+◌, ℕ, suc, Bool, true, false, List, ap, refl, arith, filter, length, reverse, take}
use mir.Val.{bool_byte}
use Rattle.rb_causes.specs.declared.row.Row.{Row}
use Rattle.rb_log.specs.Executions.{executions}
use Rattle.rb_log.specs.LogState.{log_state}
use Rattle.rb_desk.specs.Statuses.{status_in}
use Rattle.rb_demo.specs.Counting.{has_succeeded, is_succeeded}
use Rattle.rb_demo.proofs.Counted.{bit, success_more}
use Rattle.rb_demo.proofs.counts.succeeded.Goals as goal

bit_of : (b : Bool) → bool_byte b ≡ bit b
bit_of true = refl
bit_of false = refl

at_most_one : (b : Bool) → bit b ≤ 1
at_most_one true = omega arith
at_most_one false = omega arith

pub loop-before-preserved : goal.loop-before-preserved
loop-before-preserved c =
    let past : List Row = reverse c.args.desk.now.log in
    let before : ℕ = c.loop-before.before in
    let next : before + 1 ≡ suc before = omega arith in
    let low : before < length (executions past) = omega (arith, c.requires) in
    let told : c.from-count.result ≡ bit (is_succeeded (status_in (log_state past) (suc before))) =
    c.from-count.ensures ∙ bit_of c.is_succeeded.result ∙ ap bit c.is_succeeded.ensures
    ∙ ap (λ o. bit (is_succeeded o)) c.status.ensures
    ∙ ap (λ n. bit (is_succeeded (status_in (log_state past) n))) next in
    let step = success_more c.executions_are_numbered.ensures past before low in
    let few = at_most_one (is_succeeded (status_in (log_state past) (suc before))) in
    let whole : length (filter has_succeeded (take (before + 1) (executions past)))
    ≡ length (filter has_succeeded (take (suc before) (executions past))) =
    ap (λ n. length (filter has_succeeded (take n (executions past)))) next in
    record {
      counted = omega (arith, c.loop-before.invariant.counted, told, step, whole);
      few = omega (arith, c.loop-before.invariant.few, told, few);
    }
