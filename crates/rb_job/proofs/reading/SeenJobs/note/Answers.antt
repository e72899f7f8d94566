use Rattle.std.proofs.lemmas.Result.{on_ok_weaker}
use Rattle.rb_job.proofs.JobFacts.{seen_more}
use Rattle.rb_job.proofs.reading.SeenJobs.note.Goals as goal

pub returns : goal.returns
returns c =
    on_ok_weaker c.note.result (λ put. λ before seen is.
    seen_more c.args.self.now.ids c.note_id.new.ids c.args.self.now.paths c.note.new.self before c.args.job.now c.args.path.now c.in_ok-note_id.ensures put is seen)
    c.note.ensures
