use Rattle.std.proofs.Common.{ap, ◌∙◌, arith, length, set}
use Rattle.rb_flow.proofs.TallyPlaces.{rank, places_not_fall, left_now, within_now}
use Rattle.rb_flow.proofs.recount.leave.Goals as goal

pub rank-at-requires : goal.rank-at-requires
rank-at-requires c =
    places_not_fall (set c.args.states.now c.args.place c.args.old) c.as_slice.result.now
    (c.as_slice.ensures.value ∙ c.requires.places)

pub remove-requires : goal.remove-requires
remove-requires c =
    let same = c.as_slice.ensures.value ∙ c.requires.places in
    let at = c.rank-at.ensures ∙ ap (rank c.args.place) same in
    omega (
      arith,
      at,
      ap length same,
      within_now c.args.states.now c.args.place c.args.old c.requires.place c.requires.was,
      c.as_slice.ensures.len,
    )

pub returns-clause-places : goal.returns-clause-places
returns-clause-places c =
    let h = c.requires in
    left_now c.args.states.now c.args.place c.args.old c.args.places.now.items
    c.remove.new.self.items c.rank-at.result h.place h.was h.is h.places
    (c.rank-at.ensures ∙ ap (rank c.args.place) c.as_slice.ensures.value) c.remove.ensures.items
