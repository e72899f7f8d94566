use Rattle.rb_job.proofs.SoundJobs.{jobs_are_sound_law}
use Rattle.rb_job.proofs.laws.jobs_are_sound.Goals as goal

pub returns : goal.returns
returns c = jobs_are_sound_law
