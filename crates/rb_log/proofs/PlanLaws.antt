-- The plans of a legal log can be run.
use Rattle.std.proofs.Common.{◌≡◌, ◌∙◌, inl, inr, ℕ, ◌+◌, zero, suc, ℤ, List, [], ◌∷◌, ◌++◌, length, map, Bool, true, false, Option, Some, None, Result, Ok, Err, slice_get, unwrap_or, ap, sym, subst, refl, arith, if◌then◌else◌}
use Rattle.std.proofs.lemmas.Option.{slice_get-map}
use Rattle.rb_causes.specs.declared.row.Row.{Row}
use Rattle.rb_causes.proofs.Lists.{get_append}
use Rattle.rb_acl.specs.declared.policy.Caller.{Caller}
use Rattle.rb_acl.specs.declared.policy.Policies.{Policies}
use Rattle.rb_marks.specs.Sound.{IsSound}
use Rattle.rb_plan.specs.Acceptance.{Acceptance}
use Rattle.rb_plan.specs.Laws.{AcceptedIsSound}
use Rattle.rb_plan.specs.Sound.{IsSoundWorld, HasSoundLeaves}
use Rattle.rb_plan.specs.Verdict.{verdict_of, verdict_on}
use Rattle.rb_plan.specs.Worlds.{Found, job_found}
use Rattle.rb_plan.specs.declared.refusal.Refusal.{Refusal}
use Rattle.rb_plan.specs.declared.world.RunAsk.{RunAsk}
use Rattle.rb_plan.specs.declared.world.World.{World}
use Rattle.rb_log.specs.Rows.{is_accept, row_caller}
use Rattle.rb_log.specs.Asks.{DueAsk, ask_of}
use Rattle.rb_log.specs.Executions.{Execution, executions, marked, asked, started_if, started, world_before, draw_of}
use Rattle.rb_log.specs.Legal.{IsLegalLog}
use Rattle.rb_log.specs.Laws.{PlansAreSound, LeavesAreSound}
use Rattle.rb_log.proofs.EndLaws.{policies_before}
use Rattle.rb_log.proofs.MarkLaws.{from_map_by}
use Rattle.rb_log.proofs.WorldLaws.{world_sound}

-- its plan can be run, and its leaves have words
abbrev IsSoundRun : Acceptance → Type 0
IsSoundRun accepted = IsSound accepted.plan × HasSoundLeaves accepted

-- a run that is accepted asks for a job that is held
verdict_sound_by : AcceptedIsSound → (world : World) (caller : Caller) (ask : RunAsk) (draw : ℕ)
    (accepted : Acceptance) (found : Option Found) → IsSoundWorld world
    → job_found world ask.job ≡ found
    → verdict_on world caller ask draw found ≡ Ok accepted → IsSoundRun accepted
verdict_sound_by law world caller ask draw accepted None sound is h = absurd (grind (arith, h))
verdict_sound_by law world caller ask draw accepted (Some found) sound is h =
    (law (record { world = world; caller = caller; ask = ask; draw = draw; found = found }) accepted
    sound is (ap (verdict_on world caller ask draw) is ∙ h))

verdict_sound : AcceptedIsSound → (world : World) (caller : Caller) (ask : RunAsk) (draw : ℕ)
    (accepted : Acceptance) → IsSoundWorld world → verdict_of world caller ask draw ≡ Ok accepted
    → IsSoundRun accepted
verdict_sound law world caller ask draw accepted sound h =
    verdict_sound_by law world caller ask draw accepted (job_found world ask.job) sound refl h

abbrev AllPlanned : List Execution → Type 0
AllPlanned es = (j : ℕ) (e : Execution) → slice_get es j ≡ Some e → IsSoundRun e.accepted

none_planned : AllPlanned []
none_planned j e h = absurd (grind (arith, h))

one_planned : (x : Execution) → IsSoundRun x.accepted → AllPlanned (x ∷ [])
one_planned x is zero e h =
    subst (λ (o : Option Execution). IsSoundRun (unwrap_or o x).accepted) h is
one_planned x is (suc j) e h = absurd (grind (arith, h))

started_planned : AcceptedIsSound → (world : World) (number draw : ℕ) (at : ℤ) (caller : Caller)
    (ask : RunAsk) (r : Result Acceptance Refusal) → IsSoundWorld world
    → verdict_of world caller ask draw ≡ r → AllPlanned (started_if world number at caller r)
started_planned law world number draw at caller ask (Ok accepted) sound is =
    one_planned (started world number at caller accepted)
    (verdict_sound law world caller ask draw accepted sound is)
started_planned law world number draw at caller ask (Err refusal) sound is = none_planned

asked_planned : AcceptedIsSound → (world : World) (number draw : ℕ) (row : Row)
    (ask : Option DueAsk) → IsSoundWorld world → AllPlanned (asked world number draw row ask)
asked_planned law world number draw row None sound = none_planned
asked_planned law world number draw row (Some ask) sound =
    started_planned law world number (draw + number) row.at (row_caller row) ask.0
    (verdict_of world (row_caller row) ask.0 (draw + number)) sound refl

planned_in : (b : Bool) (es new : List Execution) (p : Policies) (row : Row) → AllPlanned es
    → AllPlanned new → AllPlanned (if b then es ++ new else map (marked p row) es)
planned_in true es new p row h k j e get = elim (get_append es new j e get) [
  | inl old ↦ h j e old
  | inr here ↦ k here.0 e here.1
]
planned_in false es new p row h k j e get =
    let m = from_map_by p row (slice_get es j) e (sym (slice_get-map (marked p row) es j) ∙ get) in
    subst (λ (z : Execution). IsSoundRun z.accepted) (sym m.2) (h j m.0 m.1)

runs_are_sound : AcceptedIsSound → (past : List Row) → IsLegalLog past
    → AllPlanned (executions past)
runs_are_sound law [] h k e get = none_planned k e get
runs_are_sound law (row ∷ past) h k e get =
    planned_in (is_accept row) (executions past)
    (asked (world_before past (executions past)) (length (executions past) + 1) (draw_of past)
    row (ask_of row.name row.body)) (policies_before past) row (runs_are_sound law past h.0)
    (asked_planned law (world_before past (executions past)) (length (executions past) + 1)
    (draw_of past) row (ask_of row.name row.body) (world_sound past h.0)) k e get

pub plans_are_sound : AcceptedIsSound → PlansAreSound
plans_are_sound law past k e h get = (runs_are_sound law past h k e get).0

pub leaves_are_sound : AcceptedIsSound → LeavesAreSound
leaves_are_sound law past k e h get = (runs_are_sound law past h k e get).1
