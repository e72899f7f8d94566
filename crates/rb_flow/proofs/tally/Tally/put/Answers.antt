use Rattle.std.proofs.Common.{◌+◌, ◌*◌, length, set, length-set, arith, refl, ap, sym, ◌∙◌}
use Rattle.rb_marks.specs.Units.{is_bad}
use Rattle.rb_marks.specs.First.{is_good}
use Rattle.rb_flow.specs.Tally.{places_from, works_from}
use Rattle.rb_flow.proofs.TallyPuts.{place_within, as_before, same_unit, works_are, works_many, count_put, group_before, groups_put}
use Rattle.rb_flow.proofs.tally.Tally.put.Goals as goal

pub put_place-requires-clause-places : goal.put_place-requires-clause-places
put_place-requires-clause-places c =
    let t = c.args.self.now in
    c.requires.is.places
    ∙ ap (places_from 0) (sym (as_before t.states.items c.as_slice-states.result.now _
    c.args.state c.index-old.result.now c.as_slice-states.ensures.value c.index-old.ensures))

pub put_work-self-requires-clause-node : goal.put_work-self-requires-clause-node
put_work-self-requires-clause-node c =
    let t = c.args.self.now in
    let within = place_within c.args.group c.args.state.unit.node t.nodes _ _ c.requires.group
    c.requires.node c.requires.is.size in
    let same = same_unit t.states.items _ c.args.state c.index-old.result.now within
    c.index-old.ensures c.requires.stands.unit in
    omega (
      arith,
      ap (λ u. u.node) same,
      works_many t.states.items t.nodes t.works.items c.requires.is.works,
      c.requires.node,
    )

pub put_work-self-requires-clause-works : goal.put_work-self-requires-clause-works
put_work-self-requires-clause-works c =
    let t = c.args.self.now in
    works_are t.states.items _ t.nodes t.works.items c.requires.is.works
    (as_before t.states.items c.as_slice-states.result.now _ c.args.state c.index-old.result.now
    c.as_slice-states.ensures.value c.index-old.ensures)

pub put_group-requires-clause-group : goal.put_group-requires-clause-group
put_group-requires-clause-group c =
    let t = c.args.self.now in
    group_before t.nodes c.args.group c.args.state.unit.node _ _ t.states.items
    c.as_slice-states.result.now c.index-old.result.now t.groups.items c.index.result.now refl
    c.requires.node
    (as_before t.states.items c.as_slice-states.result.now _ c.args.state c.index-old.result.now
    c.as_slice-states.ensures.value c.index-old.ensures)
    (omega arith) c.requires.is.groups c.requires.group c.index.ensures

pub returns-clause-is : goal.returns-clause-is
returns-clause-is c =
    let t = c.args.self.now in
    let was = c.requires.is in
    let node = c.args.state.unit.node in
    let place = c.args.group * t.nodes + node in
    let old = c.index-old.result.now in
    let within =
    place_within c.args.group node t.nodes _ _ c.requires.group c.requires.node was.size in
    let are = c.as_slice-states.ensures.value in
    record {
      places = c.put_place.ensures.places ∙ ap (places_from 0) are;
      room = omega (arith, c.put_place.ensures.room, ap length are);
      works = c.put_work-self.ensures.works ∙ ap (λ xs. works_from xs 0 (length t.works.items)) are
          ∙ ap (works_from (set t.states.items place c.args.state) 0)
          (works_many t.states.items t.nodes t.works.items was.works);
      busy = c.put_work-self.ensures.busy;
      bad = count_put (λ s. is_bad s.outcome) t.states.items place c.args.state old t.bad
          c.recount-self.result c.is_bad.result c.is_bad-2.result within c.index-old.ensures was.bad
          c.is_bad.ensures c.is_bad-2.ensures c.recount-self.ensures;
      good = count_put (λ s. is_good s.outcome) t.states.items place c.args.state old t.good
          c.recount-self-2.result c.is_good.result c.is_good-2.result within c.index-old.ensures
          was.good c.is_good.ensures c.is_good-2.ensures c.recount-self-2.ensures;
      running = count_put (λ s. s.running) t.states.items place c.args.state old t.running
          c.recount-self-3.result old.running c.args.state.running within c.index-old.ensures
          was.running refl refl c.recount-self-3.ensures;
      groups = groups_put t.nodes c.args.group node place _ t.states.items
          c.as_slice-states.result.now c.args.state t.groups.items c.put_group.result refl
          c.requires.node are (omega arith) was.groups c.requires.group c.put_group.ensures;
      size = length-set t.states.items place c.args.state ∙ was.size
          ∙ ap (λ n. n * t.nodes) (sym (length-set t.groups.items c.args.group c.put_group.result));
    }
