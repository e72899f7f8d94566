use Rattle.std.proofs.Common.{sym, ap, ◌∙◌}
use Rattle.std.proofs.lemmas.List.{get_or_default}
use Rattle.rb_flow.specs.Tally.{is_in_work}
use Rattle.rb_flow.proofs.TallyPlaces.{kept_now, same_tests}
use Rattle.rb_flow.proofs.recount.put_place.Goals as goal

pub returns-then-is-is_in_work-clause-places : goal.returns-then-is-is_in_work-clause-places
returns-then-is-is_in_work-clause-places c =
    c.requires.places
    ∙ kept_now c.args.states.now c.args.place c.args.old c.requires.place
    (ap is_in_work (get_or_default c.args.states.now c.args.place c.args.old _ c.requires.place)
    ∙ sym c.is_in_work-is.ensures ∙ same_tests _ _ c.if-is-is_in_work.true
    ∙ c.is_in_work.ensures)
