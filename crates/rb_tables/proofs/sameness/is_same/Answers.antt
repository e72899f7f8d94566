use Rattle.std.proofs.lemmas.Bool.Decides.{same_from_decides}
use Rattle.rb_log.specs.Sameness.{same_job}
use Rattle.rb_tables.proofs.sameness.is_same.Goals as goal

-- both tell whether the jobs are equal
pub returns : goal.returns
returns c =
    let this = c.args.this.now in
    let other = c.args.other.now in
    same_from_decides c.same_job.result (same_job this other) c.same_job.ensures
    (c.sameness_decides.ensures this other)
