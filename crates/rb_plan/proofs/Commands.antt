-- Where the commands of a run come from.
use Rattle.std.proofs.Common.{◌≡◌, ◌⊎◌, inl, inr, ℕ, zero, suc, List, [], ◌∷◌, ◌++◌, Option, Some, None, refl, sym, subst}
use Rattle.std.specs.List.{Contains}
use Rattle.rb_causes.specs.declared.items.Prop.{Prop}
use Rattle.rb_job.specs.declared.job.JobStep.{JobStep}
use Rattle.rb_job.specs.declared.job.JobAct.{JobAct}
use Rattle.rb_job.specs.declared.job.JobAct.TheVariants.{Exec, Script, Refer}
use Rattle.rb_plan.specs.Acceptance.{Acceptance}
use Rattle.rb_plan.specs.Holds.{Leads, Reaches, RefersTo}
use Rattle.rb_plan.specs.Inlined.{Site, site_below, command_at, commands, act_commands, handler_commands}
use Rattle.rb_plan.specs.Laws.{IsAsked, RunIsAccepted, Does}
use Rattle.rb_plan.specs.Resolved.{Path, Resolver, label, resolved, resolved_act, resolved_steps, resolved_reference}
use Rattle.rb_plan.specs.Verdict.{Asked, site_of, steps_of}
use Rattle.rb_plan.specs.Worlds.{referred_job}
use Rattle.rb_plan.specs.declared.world.Project.{Project}
use Rattle.rb_plan.specs.declared.world.HeldJob.{HeldJob}
use Rattle.rb_plan.specs.declared.accepted.Command.{Command}
use Rattle.rb_plan.proofs.Accepting.{accepted_is}
use Rattle.rb_plan.proofs.Coming.{split}
use Rattle.rb_plan.proofs.Served.{Member, member_of, contains_of}

abbrev FromCommand : Project → Site → Command → Type 0
FromCommand project site c = (titles : Path) × (end : Site) × Leads project site titles end × Does end.held c.act × (c ≡ command_at end c.act)

own_command : (project : Project) (site : Site) (s : JobStep) (act : JobAct) (c : Command) → Contains site.held.job.steps s → (s.act ≡ act) ⊎ (s.handler ≡ Some act)
    → c ≡ command_at site act → FromCommand project site c
own_command project site s act c has is e =
    subst (FromCommand project site) (sym e) ([], site, refl, (s, has, is), refl)

of_command_handler : (project : Project) (site : Site) (s : JobStep) (c : Command) (handler : Option JobAct) → Contains site.held.job.steps s → s.handler ≡ handler
    → Member c (handler_commands site handler) → FromCommand project site c
of_command_handler project site s c None has is m = absurd m
of_command_handler project site s c (Some act) has is (inl e) = own_command project site s act c has (inr is) e
of_command_handler project site s c (Some act) has is (inr m) = absurd m

of_command_act : (below : Option Resolver) (project : Project) (site : Site) (path : Path) (s : JobStep) (c : Command) (act : JobAct) → Contains site.held.job.steps s → s.act ≡ act
    → ((group name : List ℕ) (args : List Prop) → RefersTo site.held group name args
    → Member c (act_commands site (resolved_reference below (path ++ label group name ∷ []) args (referred_job project group name))) → FromCommand project site c)
    → Member c (act_commands site (resolved_act below project path act)) → FromCommand project site c
of_command_act below project site path s c (Exec words) has is at (inl e) = own_command project site s (Exec words) c has (inl is) e
of_command_act below project site path s c (Exec words) has is at (inr m) = absurd m
of_command_act below project site path s c (Script text args) has is at (inl e) = own_command project site s (Script text args) c has (inl is) e
of_command_act below project site path s c (Script text args) has is at (inr m) = absurd m
of_command_act below project site path s c (Refer group name args) has is at m = at group name args (s, has, is) m

of_command_steps : (below : Option Resolver) (project : Project) (site : Site) (path : Path) (c : Command) (ss : List JobStep)
    → ((s : JobStep) → Member s ss → Member s site.held.job.steps)
    → ((group name : List ℕ) (args : List Prop) → RefersTo site.held group name args
    → Member c (act_commands site (resolved_reference below (path ++ label group name ∷ []) args (referred_job project group name))) → FromCommand project site c)
    → Member c (commands site (resolved_steps below project path ss)) → FromCommand project site c
of_command_steps below project site path c [] among at m = absurd m
of_command_steps below project site path c (s ∷ ss) among at m =
    let has : Contains site.held.job.steps s = contains_of site.held.job.steps s (among s (inl refl)) in
    elim (split (act_commands site (resolved_act below project path s.act)) _ c m) [
      | inl k ↦ of_command_act below project site path s c s.act has refl at k
      | inr k ↦ elim (split (handler_commands site s.handler) _ c k) [
        | inl h ↦ of_command_handler project site s c s.handler has refl h
        | inr h ↦ of_command_steps below project site path c ss (λ x i. among x (inr i)) at h
      ]
    ]

none_below : (project : Project) (site : Site) (path : Path) (c : Command) (args : List Prop) (o : Option HeldJob) → Member c (act_commands site (resolved_reference None path args o)) → ⊥
none_below project site path c args None m = m
none_below project site path c args (Some next) m = m

some_below : (levels : ℕ) (project : Project) (site : Site) (path : Path) (c : Command) (group name : List ℕ) (args : List Prop) (o : Option HeldJob)
    → ((site : Site) (path : Path) → Member c (commands site (resolved levels project path site.held.job.steps)) → FromCommand project site c)
    → RefersTo site.held group name args → referred_job project group name ≡ o
    → Member c (act_commands site (resolved_reference (Some (resolved levels project)) path args o)) → FromCommand project site c
some_below levels project site path c group name args None below refers found m = absurd m
some_below levels project site path c group name args (Some next) below refers found m =
    let k = below (site_below site args next) path m in
    (label group name ∷ k.0, k.1, (group, name, args, next, refers, refl, found, k.2), k.3, k.4)

command_is : (levels : ℕ) (project : Project) (c : Command) (site : Site) (path : Path) → Member c (commands site (resolved levels project path site.held.job.steps)) → FromCommand project site c
command_is zero project c site path m =
    of_command_steps None project site path c site.held.job.steps (λ s i. i)
    (λ group name args refers k. absurd (none_below project site (path ++ label group name ∷ []) c args (referred_job project group name) k)) m
command_is (suc levels) project c site path m =
    of_command_steps (Some (resolved levels project)) project site path c site.held.job.steps (λ s i. i)
    (λ group name args refers k. some_below levels project site (path ++ label group name ∷ []) c group name args (referred_job project group name) (command_is levels project c) refers refl k) m

-- each command is what a job does to which a path leads
pub are_reached : (a : Asked) (accepted : Acceptance) (command : Command) → IsAsked a → RunIsAccepted a accepted → Contains accepted.commands command
    → (path : Path) × (end : Site) × Reaches a path end × Does end.held command.act × (command ≡ command_at end command.act)
are_reached a accepted command asked ok has =
    let same = (accepted_is a accepted asked ok).1 in
    command_is 8 a.found.project command (site_of a) [] (member_of (commands (site_of a) (steps_of a)) command (subst (λ x. Contains x.commands command) same has))
