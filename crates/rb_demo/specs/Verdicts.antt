-- The verdicts on the runs that are asked for in the demo.
use Rattle.std.specs.Prelude.{◌≡◌, ℕ, false, List, [], map, length, None, Ok, Err, codes}
use Rattle.std.specs.List.{AllByRecursion as Each}
use Rattle.rb_acl.specs.declared.policy.Caller.{Caller}
use Rattle.rb_acl.specs.declared.policy.Decision.TheVariants.{NoneAllows}
use Rattle.rb_job.specs.declared.job.Job.{Job}
use Rattle.rb_orch.specs.Ranking.{ranked}
use Rattle.rb_plan.specs.Verdict.{Asked, accepted_of, verdict_of}
use Rattle.rb_plan.specs.declared.refusal.Refusal.TheVariants.{NoNodeAllowed}
use Rattle.rb_plan.specs.declared.world.RunAsk.{RunAsk}
use Rattle.rb_log.specs.World.{imported_by, job_id}
use Rattle.rb_demo.specs.Read.{demo_node, demo_jobs}
use Rattle.rb_demo.specs.Rights.{even_numbers}
use Rattle.rb_demo.specs.Settings.{Setting, IsSetting, project, jobs_added, demo_project, demo_world}

-- a user in some groups
abbrev pub user_in : List ℕ → List (List ℕ) → Caller
user_in user groups = record { user = user; groups = groups }

-- the ask for a job: nothing is given, and it has no filter of its own
abbrev pub ask_for : Job → RunAsk
ask_for job = record { job = job_id project job; given = []; filter = None }

-- what a verdict looks at, where a caller asks for a job of the demo
abbrev pub asked_in : Setting → Caller → ℕ → Job → Asked
asked_in d caller draw job = record {
  world = demo_world d;
  caller = caller;
  ask = ask_for job;
  draw = draw;
  found = record { project = demo_project d; held = imported_by (jobs_added d) job };
}

-- ann's run of a job is accepted, on the nodes whose draw is even, in rank order
pub record IsAcceptedIn (d : Setting) (groups : List (List ℕ)) (draw : ℕ) (job : Job)
    : Type 0 where
  pub verdict : verdict_of (demo_world d) (user_in (codes "ann") groups) (ask_for job) draw
      ≡ Ok (accepted_of (asked_in d (user_in (codes "ann") groups) draw job))
  pub nodes : (accepted_of (asked_in d (user_in (codes "ann") groups) draw job)).nodes
      ≡ ranked None false (map demo_node (even_numbers d.nodes))
  pub count : length (accepted_of (asked_in d (user_in (codes "ann") groups) draw job)).nodes
      ≡ length (even_numbers d.nodes)
  pub slots : (accepted_of (asked_in d (user_in (codes "ann") groups) draw job)).plan.slots ≡ 2

-- so is her run of each job
abbrev pub AnnIsAccepted : Type 0
AnnIsAccepted =
    (d : Setting) → IsSetting d → (groups : List (List ℕ)) (draw : ℕ) →
    Each (IsAcceptedIn d groups draw) demo_jobs

-- bob's run of each job is refused, since no clause allows the first node
abbrev pub BobIsRefused : Type 0
BobIsRefused =
    (d : Setting) → IsSetting d → (groups : List (List ℕ)) (draw : ℕ) →
    Each (λ job. verdict_of (demo_world d) (user_in (codes "bob") groups) (ask_for job) draw
    ≡ Err (NoNodeAllowed (codes "n1") NoneAllows)) demo_jobs
