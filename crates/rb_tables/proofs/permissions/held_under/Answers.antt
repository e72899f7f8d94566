use Rattle.std.proofs.Common.{◌∙◌, Some, ap, sym, option_map}
use Rattle.rb_tables.proofs.Rights.{as_job, held_is_found}
use Rattle.rb_tables.proofs.permissions.held_under.Goals as goal

pub returns-in-Some : goal.returns-in-Some
returns-in-Some c =
    ap (λ f. Some (as_job f)) c.found.view_is ∙ ap (option_map as_job) c.in-Some.ensures
    ∙ sym (held_is_found c.args.id.now c.args.projects.now)

pub returns-in-None : goal.returns-in-None
returns-in-None c =
    ap (option_map as_job) c.in-None.ensures
    ∙ sym (held_is_found c.args.id.now c.args.projects.now)
