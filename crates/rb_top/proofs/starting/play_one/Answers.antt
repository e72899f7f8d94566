use Rattle.std.proofs.Common.{ap, ◌+◌}
use Rattle.rb_causes.specs.declared.trouble.Trouble.TheVariants.{NoMemory}
use Rattle.rb_marks.specs.FlowState.{FlowState}
use Rattle.rb_top.proofs.Leaves.{first_within}
use Rattle.rb_top.proofs.PlayedLemmas.{broke_handed}
use Rattle.rb_top.proofs.Stretches.{no_turn, turn_played, turn_unmade, turn_broke, start_is, first_of_plan, marks_behind}
use Rattle.rb_top.proofs.starting.play_one.Goals as goal

pub returns-in_default-clause-none : goal.returns-in_default-clause-none
returns-in_default-clause-none g c user fuel e =
    no_turn user c.args.nodes.now c.args.job.now fuel c.args.flow.now.marks _ _ (first_of_plan _ _ c.args.flow.now.marks _ c.requires c.in_default.ensures)

pub returns-in_err-ready-clause-err : goal.returns-in_err-ready-clause-err
returns-in_err-ready-clause-err g c user fuel =
    broke_handed c.from_residual.result NoMemory c.from_residual.ensures.1 _ _ _ _ _
    (turn_unmade user c.args.nodes.now c.args.job.now fuel c.args.flow.now.marks c.in-Some.leaf (first_of_plan _ _ c.args.flow.now.marks _ c.requires c.in-Some.ensures) _ _)

pub bounds-nodes-leaf : goal.bounds-nodes-leaf
bounds-nodes-leaf g c =
    (first_within c.args.nodes.now c.args.job.now c.args.flow.now.marks c.in-Some.leaf (first_of_plan _ _ c.args.flow.now.marks _ c.requires c.in-Some.ensures)).0

pub bounds-as_slice-leaf : goal.bounds-as_slice-leaf
bounds-as_slice-leaf g c =
    rw c.as_slice.ensures
    ((first_within c.args.nodes.now c.args.job.now c.args.flow.now.marks c.in-Some.leaf (first_of_plan _ _ c.args.flow.now.marks _ c.requires c.in-Some.ensures)).1)

pub returns-in_err-ending-clause-err : goal.returns-in_err-ending-clause-err
returns-in_err-ending-clause-err g c user fuel =
    let nodes = c.args.nodes.now in
    let job = c.args.job.now in
    let marks = c.args.flow.now.marks in
    let leaf = c.in-Some.leaf in
    let node = c.index-nodes-leaf.result in
    let words = c.as_slice-words.result.now in
    let first = first_of_plan _ _ marks _ c.requires c.in-Some.ensures in
    let within = first_within nodes job marks leaf first in
    broke_handed c.from_residual-in_err-ending.result c.in_err-ending.field-0.0 c.from_residual-in_err-ending.ensures.1 _ _ _ _ _
    (turn_broke user nodes job fuel marks c.in_err-ending.field-0.0 leaf (record { user = user; node = node; step = c.from.result + 1; words = words }) first
    (start_is user nodes job leaf node c.from.result c.as_slice.result.now c.index-as_slice-leaf.result words within.0 within.1
    c.index-nodes-leaf.is c.from.ensures c.as_slice.ensures c.index-as_slice-leaf.is c.as_slice-words.ensures)
    (c.in_err-ending.ensures user))

pub returns-clause-more : goal.returns-clause-more
returns-clause-more g c user fuel e =
    let nodes = c.args.nodes.now in
    let job = c.args.job.now in
    let marks = c.args.flow.now.marks in
    let leaf = c.in-Some.leaf in
    let node = c.index-nodes-leaf.result in
    let words = c.as_slice-words.result.now in
    let first = first_of_plan _ _ marks _ c.requires c.in-Some.ensures in
    let within = first_within nodes job marks leaf first in
    turn_played user nodes job fuel marks leaf (record { user = user; node = node; step = c.from.result + 1; words = words }) c.in_ok-ending.ending c.finish.new.self.marks first
    (start_is user nodes job leaf node c.from.result c.as_slice.result.now c.index-as_slice-leaf.result words within.0 within.1
    c.index-nodes-leaf.is c.from.ensures c.as_slice.ensures c.index-as_slice-leaf.is c.as_slice-words.ensures)
    (marks_behind marks c.ready.new.self c.begin.new.self c.finish.new.self leaf c.in_ok-ending.ending (ap (λ (f : FlowState). f.marks) c.in_ok-ready.ensures.ok)
    (ap (λ (f : FlowState). f.marks) c.begin.ensures.state) (ap (λ (f : FlowState). f.marks) c.finish.ensures))
    (c.in_ok-ending.ensures user)
