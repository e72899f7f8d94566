use Rattle.std.proofs.Common.{nat_lt, ap, ◌∙◌, arith, length, set}
use Rattle.std.proofs.lemmas.List.Sums.{prefix_len-le-length}
use Rattle.rb_flow.proofs.TallyPlaces.{rank, places_not_fall, entered_now, room_now, inserted}
use Rattle.rb_flow.proofs.recount.enter.Goals as goal

pub rank-at-requires : goal.rank-at-requires
rank-at-requires c =
    places_not_fall (set c.args.states.now c.args.place c.args.old) c.as_slice.result.now
    (c.as_slice.ensures.value ∙ c.requires.places)

pub insert-requires : goal.insert-requires
insert-requires c =
    let within = prefix_len-le-length (λ p. nat_lt p c.args.place) c.as_slice.result.now in
    omega (arith, within, c.rank-at.ensures, c.as_slice.ensures.len)

pub returns-clause-places : goal.returns-clause-places
returns-clause-places c =
    let places = c.args.places.now.items in
    let place = c.args.place in
    let h = c.requires in
    let room = room_now c.args.states.now place c.args.old h.place h.was h.is in
    let ok = c.insert.ensures.succeeds
    (omega (
      arith,
      room,
      h.room,
      c.as_slice.ensures.len,
      ap length c.as_slice.ensures.value,
      ap length h.places,
    )) in
    entered_now c.args.states.now place c.args.old places c.insert.new.self.items
    c.rank-at.result h.place h.was h.is h.places
    (c.rank-at.ensures ∙ ap (rank place) c.as_slice.ensures.value)
    (inserted c.insert.new.self.items places _ c.rank-at.result place c.insert.ensures.items ok)
