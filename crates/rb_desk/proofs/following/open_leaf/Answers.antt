use Rattle.std.proofs.Common.{◌≡◌, ◌∙◌, List, [], true, drop, find, get_or, length, Contains, ap, sym, subst, arith}
use Rattle.std.proofs.lemmas.List.Elements.{Contains-get_or}
use Rattle.rb_causes.proofs.Lists.{nothing_left}
use Rattle.rb_log.specs.Executions.{executions}
use Rattle.rb_log.specs.Legal.{open_leaf}
use Rattle.rb_log.specs.LogState.{execution_at, log_state}
use Rattle.rb_log.specs.declared.task.OpenLeaf.{OpenLeaf}
use Rattle.rb_desk.specs.Following.{has_numbers}
use Rattle.rb_desk.proofs.OpenLeaves.{found_open, found_there}
use Rattle.rb_desk.proofs.following.open_leaf.Goals as goal

pub returns-then-is_leaf : goal.returns-then-is_leaf
returns-then-is_leaf c past tabled =
    let items : List OpenLeaf = c.deref-claimed-items.result.now in
    let i = c.loop-claimed.claimed-index in
    let low = c.loop-claimed-test.true in
    let none : OpenLeaf =
    record { execution = 0; leaf = record { node = 0; slot = 0 }; worker = 0 } in
    let test = has_numbers (executions past) c.args.execution c.args.leaf in
    let is = c.deref-claimed-items.ensures.value in
    let has : Contains (log_state past).leaves (get_or items i none) =
    subst (λ (l : List OpenLeaf). Contains l (get_or items i none)) (is ∙ tabled.says.leaves)
    (Contains-get_or items i none low) in
    let passes : test (get_or items i none) ≡ true = sym (c.if-is_leaf.ensures past tabled has) in
    sym (found_there test items i none low passes)
    ∙ ap (λ l. find test (drop i l)) is ∙ c.loop-claimed.invariant past tabled
    ∙ found_open (executions past) c.args.execution c.args.leaf c.args.tables.now.leaves.items
    ∙ ap (λ l. open_leaf l c.args.execution c.args.leaf
    (execution_at (log_state past) c.args.execution)) tabled.says.leaves

pub returns : goal.returns
returns c past tabled =
    let leaves : List OpenLeaf = c.args.tables.now.leaves.items in
    let i = c.loop-claimed.claimed-index in
    let test = has_numbers (executions past) c.args.execution c.args.leaf in
    let long = ap length c.deref-claimed-items.ensures.value in
    let left : drop i leaves ≡ [] =
    nothing_left leaves i (omega (arith, c.loop-claimed-test.false, long)) in
    sym (ap (find test) left) ∙ c.loop-claimed.invariant past tabled
    ∙ found_open (executions past) c.args.execution c.args.leaf leaves
    ∙ ap (λ l. open_leaf l c.args.execution c.args.leaf
    (execution_at (log_state past) c.args.execution)) tabled.says.leaves
