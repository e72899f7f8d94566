use Rattle.std.proofs.Common.{◌≡◌, IfOk, subst}
use Rattle.std.proofs.Math.Facts.{to_z-of_z}
use Rattle.rb_tables.specs.Worlds.{held_by}
use Rattle.rb_imports.proofs.held_jobs.held_job.Goals as goal

pub returns : goal.returns
returns c =
    subst (λ looked. IfOk c.with_head.result
    (λ held. held ≡ held_by c.args.project.now c.args.importer.now looked c.args.job))
    (to_z-of_z c.ranges.looked)
    (c.with_head.ensures c.args.project.now c.args.importer.now c.head_of-made.ensures)
