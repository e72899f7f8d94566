use Rattle.std.proofs.Common.{sym, ◌∙◌, subst, arith}
use Rattle.rb_marks.specs.Units.{outline}
use Rattle.rb_flow.specs.Choice.{may_go_by}
use Rattle.rb_flow.specs.Order.{IsFirstPlace}
use Rattle.rb_flow.proofs.Firsts.{first_of_both, none_first, first_within, first_is}
use Rattle.rb_flow.proofs.choosing.first_unit.Goals as goal

pub returns-in_err-place : goal.returns-in_err-place
returns-in_err-place c =
    let p = outline c.args.plan.now in
    let all = c.args.tally.now.states.items in
    let was = c.in_err-place.was in
    let first = subst (IsFirstPlace (may_go_by p all) all) (sym c.lesser_place.ensures ∙ was)
    (first_of_both p all all c.first_going.result c.first_entering.result c.first_going.ensures
    c.first_entering.ensures) in
    c.from_residual.ensures ∙ none_first p all all first

pub index-requires : goal.index-requires
index-requires c =
    let p = outline c.args.plan.now in
    let t = c.args.tally.now in
    let all = t.states.items in
    let was = c.in_ok-place.was in
    let first = subst (IsFirstPlace (may_go_by p all) all) (sym c.lesser_place.ensures ∙ was)
    (first_of_both p all all c.first_going.result c.first_entering.result c.first_going.ensures
    c.first_entering.ensures) in
    let l = first_within p all all c.in_ok-place.place first in
    let ok = t.states.ok.0 in
    omega (arith, l, ok)

pub returns : goal.returns
returns c =
    let p = outline c.args.plan.now in
    let all = c.args.tally.now.states.items in
    let was = c.in_ok-place.was in
    let first = subst (IsFirstPlace (may_go_by p all) all) (sym c.lesser_place.ensures ∙ was)
    (first_of_both p all all c.first_going.result c.first_entering.result c.first_going.ensures
    c.first_entering.ensures) in
    first_is p all c.in_ok-place.place c.index.result.now first c.index.ensures
