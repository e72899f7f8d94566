use Rattle.std.proofs.Common.{rules}
use Rattle.rb_plan.proofs.Told.{job_told}
use Rattle.rb_plan.proofs.wording.put_job_names.Goals as goal

pub returns : goal.returns
returns c =
    job_told _ _ _ _ _ _ _ _ _ _ _ c.args.project.now _ _ c.args.user.now c.in_ok-put_own_names.ensures
    c.as_str-name.ensures c.as_str-group.ensures c.as_str.ensures
    c.in_ok-put_name.ensures c.in_ok-put_name-2.ensures (search rules) c.in_ok-put_name-3.ensures
