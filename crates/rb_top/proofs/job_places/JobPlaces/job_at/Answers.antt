use Rattle.std.proofs.Common.{◌≡◌, Some, None, ap, sym, ◌∙◌}
use Rattle.std.specs.BTreeMap.{get_by_text}
use Rattle.std.specs.Option.{option_copied}
use Rattle.rb_top.proofs.Places.{looked, found_none, found_some}
use Rattle.rb_top.proofs.job_places.JobPlaces.job_at.Goals as goal

pub returns-in_err-place : goal.returns-in_err-place
returns-in_err-place c =
    let missing : get_by_text c.args.self.now.places c.args.id.now ≡ None = ap (get_by_text c.args.self.now.places) (sym c.as_str.ensures) ∙ sym c.in_err-place.ensures.value in
    ap option_copied c.from_residual.ensures ∙ sym (found_none (λ j. j.id) c.args.jobs.now c.args.id.now (sym (c.requires c.args.id.now) ∙ missing))

pub returns : goal.returns
returns c =
    let at : get_by_text c.args.self.now.places c.args.id.now ≡ Some c.in_ok-place.place.now = ap (get_by_text c.args.self.now.places) (sym c.as_str.ensures) ∙ sym c.in_ok-place.ensures.value in
    looked c.get-2.result c.args.jobs.now c.in_ok-place.place.now c.get-2.ensures.lookup.0 c.get-2.ensures.lookup.1
    ∙ sym (found_some (λ j. j.id) c.args.jobs.now c.args.id.now c.in_ok-place.place.now (sym (c.requires c.args.id.now) ∙ at))
