use Rattle.std.proofs.Common.{[], refl}
use Rattle.rb_reply.proofs.Printing.{printed_as}
use Rattle.rb_route.specs.declared.route.Route.TheVariants.{ImportJobs}
use Rattle.rb_api.proofs.Printed.{imported_plain}
use Rattle.rb_api.proofs.replying.jobs_imported.Goals as goal

pub returns : goal.returns
returns c =
    printed_as c.printed.result _ _ _ _ refl c.in_ok-imported_value.ensures
    (imported_plain ImportJobs [] c.args.version c.args.jobs.now) c.printed.ensures
