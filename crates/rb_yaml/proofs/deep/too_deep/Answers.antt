use Rattle.std.proofs.Common.{◌≡◌, ◌<◌, ◌+◌, ◌-◌, zero, length, ap, sym, ◌∙◌, arith}
use Rattle.rb_yaml.specs.declared.flaw.Flaw.TheVariants.{TooDeep}
use Rattle.rb_yaml.specs.Faults.{fault_at}
use Rattle.rb_yaml.specs.Deep.{too_deep}
use Rattle.rb_yaml.proofs.NodeFacts.{deep_found, deep_more, deep_end}
use Rattle.rb_yaml.proofs.deep.too_deep.Goals as goal

pub returns-in-Some : goal.returns-in-Some
returns-in-Some c =
    let l : c.loop-turn._turn < length c.args.head.now.text + 1 = omega (arith, c.loop-turn-test.true, ap length c.text.ensures) in
    deep_found (length c.args.head.now.text + 1) c.loop-turn._turn c.loop-turn.line c.args.lines.now c.in-Some.fault (too_deep (length c.args.head.now.text + 1) c.args.head.now c.args.lines.now)
    l (sym c.in_ok-fault.ensures.exact ∙ c.in-Some.is) c.loop-turn.invariant

pub loop-turn-preserved : goal.loop-turn-preserved
loop-turn-preserved c =
    let l : c.loop-turn._turn < length c.args.head.now.text + 1 = omega (arith, c.loop-turn-test.true, ap length c.text.ensures) in
    deep_more (length c.args.head.now.text + 1) c.loop-turn._turn c.loop-turn.line c.behind_item-line.result c.args.lines.now (too_deep (length c.args.head.now.text + 1) c.args.head.now c.args.lines.now)
    l (sym c.in_ok-fault.ensures.exact ∙ c.in_default.is) c.behind_item-line.ensures c.loop-turn.invariant

pub returns : goal.returns
returns c =
    let none : length c.args.head.now.text + 1 - c.loop-turn._turn ≡ zero = omega (arith, c.loop-turn-test.false, ap length c.text.ensures) in
    c.fault_at.ensures ∙ ap (λ n. fault_at n TooDeep) c.number.ensures
    ∙ deep_end (length c.args.head.now.text + 1) c.loop-turn._turn c.loop-turn.line c.args.lines.now (too_deep (length c.args.head.now.text + 1) c.args.head.now c.args.lines.now) none c.loop-turn.invariant
