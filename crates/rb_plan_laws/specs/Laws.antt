-- What a verdict means further: nothing of a job is left out, and of several references the first
-- is told.
use Rattle.std.specs.Prelude.{◌≡◌, ◌≤◌, ◌⊎◌, ℕ, Bool, true, false, not, List, [], ◌∷◌, ◌++◌, length, filter, Contains}
use Rattle.rb_acl.specs.declared.policy.Decision.{Decision}
use Rattle.rb_acl.specs.Deciding.{is_allowed}
use Rattle.rb_job.specs.declared.job.JobAct.{JobAct}
use Rattle.rb_job.specs.declared.job.JobAct.TheVariants.{Exec, Script, Refer}
use Rattle.rb_plan.specs.Acceptance.{Acceptance}
use Rattle.rb_plan.specs.Holds.{Reaches}
use Rattle.rb_plan.specs.Inlined.{Site, command_at}
use Rattle.rb_plan.specs.Laws.{Does, RunIsAccepted, IsAsked, RunIsRefused}
use Rattle.rb_plan.specs.References.{Visit, command, reference, fault, visits}
use Rattle.rb_plan.specs.Resolved.{Path}
use Rattle.rb_plan.specs.Verdict.{Asked, may_run, steps_of}
use Rattle.rb_plan.specs.declared.world.HeldJob.{HeldJob}
use Rattle.rb_plan.specs.declared.refusal.RefCause.{RefCause}
use Rattle.rb_plan.specs.declared.refusal.RefCause.TheVariants.{TooMany}
use Rattle.rb_plan.specs.declared.refusal.Refusal.TheVariants.{BadReference, ReferenceDenied}

-- a command or a script, and no reference to another job
abbrev pub IsOwn : JobAct → Type 0
IsOwn (Exec words) = Unit {0}
IsOwn (Script text args) = Unit {0}
IsOwn (Refer group name args) = ⊥

-- each command and script of a job to which a path of references leads, and each handler, has a
-- command with that job's names and values
abbrev pub ActsHaveCommands : Type 0
ActsHaveCommands = (a : Asked) (accepted : Acceptance) (path : Path) (end : Site) (act : JobAct)
    → IsAsked a → RunIsAccepted a accepted → Reaches a path end → Does end.held act → IsOwn act
    → Contains accepted.commands (command_at end act)

-- all that the walk over the references comes to, from the asked job down
abbrev pub walk_of : Asked → List Visit
walk_of a = visits [] (steps_of a)

abbrev pub is_command : Visit → Bool
is_command (command path) = true
is_command (reference path held) = false
is_command (fault path cause) = false

abbrev pub is_fault : Visit → Bool
is_fault (command path) = false
is_fault (reference path held) = false
is_fault (fault path cause) = true

-- a reference to a job that may not be run
abbrev pub is_denied : (HeldJob → Decision) → Visit → Bool
is_denied decide (command path) = false
is_denied decide (reference path held) = not (is_allowed (decide held))
is_denied decide (fault path cause) = false

-- a walk stops at a reference that cannot be resolved, at most so many commands behind its begin
abbrev pub IsUnresolved : ℕ → List Visit → Visit → Path → RefCause → Type 0
IsUnresolved most before stop path cause =
    (stop ≡ fault path cause) × (length (filter is_command before) ≤ most)

-- or at the first command past so many
abbrev pub IsPastMost : ℕ → List Visit → Visit → Path → RefCause → Type 0
IsPastMost most before stop path cause =
    (stop ≡ command path) × (cause ≡ TooMany) × (length (filter is_command before) ≡ most)

-- where it stops, with nothing at fault before
abbrev pub FirstBad : ℕ → List Visit → Path → RefCause → Type 0
FirstBad most vs path cause = (before : List Visit) × (stop : Visit) × (after : List Visit)
    × (vs ≡ before ++ stop ∷ after) × (filter is_fault before ≡ [])
    × (IsUnresolved most before stop path cause ⊎ IsPastMost most before stop path cause)

-- the reference that is told as bad is where the walk stops
abbrev pub FirstBadIsTold : Type 0
FirstBadIsTold = (a : Asked) (path : Path) (cause : RefCause) → IsAsked a
    → RunIsRefused a (BadReference path cause) → FirstBad 1000 (walk_of a) path cause

-- of the references to jobs that may not be run it is the first
abbrev pub FirstDenied : (HeldJob → Decision) → List Visit → Path → Decision → Type 0
FirstDenied decide vs path decision = (held : HeldJob) × (rest : List Visit)
    × (filter (is_denied decide) vs ≡ reference path held ∷ rest) × (decision ≡ decide held)

-- that one is told as denied
abbrev pub FirstDeniedIsTold : Type 0
FirstDeniedIsTold = (a : Asked) (path : Path) (decision : Decision) → IsAsked a
    → RunIsRefused a (ReferenceDenied path decision)
    → FirstDenied (may_run a) (walk_of a) path decision
