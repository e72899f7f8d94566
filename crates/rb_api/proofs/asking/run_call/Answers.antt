use Rattle.rb_api.proofs.Stepping.{filter_refused}
use Rattle.rb_api.proofs.asking.run_call.Goals as goal

pub returns-in_err-filter : goal.returns-in_err-filter
returns-in_err-filter c =
    filter_refused c.args.caller c.args.job.now c.args.body.now c.args.at
    c.in_ok-options.field-0 c.in_ok-given.given c.in_ok-options.ensures c.in_ok-given.ensures
    c.from_residual-in_err-filter.result c.in_err-filter.field-0.0
    c.from_residual-in_err-filter.ensures.1 c.in_err-filter.ensures
