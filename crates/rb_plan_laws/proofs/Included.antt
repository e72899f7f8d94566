-- Nothing of a job is left out of a run.
use Rattle.std.proofs.Common.{arith, ◌≤◌, ◌⊎◌, inl, inr, ℕ, zero, suc, length, List, [], ◌∷◌, ◌++◌, Option, Some, None, refl, sym, subst}
use Rattle.rb_job.specs.declared.job.JobStep.{JobStep}
use Rattle.rb_job.specs.declared.job.JobAct.{JobAct}
use Rattle.rb_job.specs.declared.job.JobAct.TheVariants.{Exec, Script, Refer}
use Rattle.rb_plan.specs.Holds.{Leads}
use Rattle.rb_plan.specs.Inlined.{Site, site_below, command_at, commands, act_commands, handler_commands}
use Rattle.rb_plan.specs.Laws.{Does}
use Rattle.rb_plan.specs.Resolved.{Path, Resolver, label, resolved, resolved_act, resolved_steps, resolved_reference}
use Rattle.rb_plan.specs.Verdict.{site_of}
use Rattle.rb_plan.specs.declared.world.Project.{Project}
use Rattle.rb_plan.specs.declared.accepted.Command.{Command}
use Rattle.rb_plan.proofs.Accepting.{accepted_is}
use Rattle.rb_plan.proofs.Reaching.{left_of, right_of, may_all_be_run}
use Rattle.rb_plan.proofs.Served.{Member, member_of, contains_of}
use Rattle.rb_plan_laws.specs.Laws.{IsOwn, ActsHaveCommands}

-- what a step has the steps have
in_commands : (below : Option Resolver) (project : Project) (site : Site) (path : Path) (ss : List JobStep) (s : JobStep) (c : Command) → Member s ss
    → Member c (act_commands site (resolved_act below project path s.act)) ⊎ Member c (handler_commands site s.handler)
    → Member c (commands site (resolved_steps below project path ss))
in_commands below project site path [] s c h m = absurd h
in_commands below project site path (y ∷ ys) s c (inl e) m =
    elim m [
      | inl k ↦ left_of (act_commands site (resolved_act below project path y.act)) _ c (subst (λ z. Member c (act_commands site (resolved_act below project path z.act))) e k)
      | inr k ↦ right_of (act_commands site (resolved_act below project path y.act)) _ c
          (left_of (handler_commands site y.handler) _ c (subst (λ z. Member c (handler_commands site z.handler)) e k))
    ]
in_commands below project site path (y ∷ ys) s c (inr h) m =
    right_of (act_commands site (resolved_act below project path y.act)) _ c
    (right_of (handler_commands site y.handler) _ c (in_commands below project site path ys s c h m))

own_at : (below : Option Resolver) (project : Project) (site : Site) (path : Path) (act : JobAct) → IsOwn act
    → Member (command_at site act) (act_commands site (resolved_act below project path act))
own_at below project site path (Exec words) is = inl refl
own_at below project site path (Script text args) is = inl refl
own_at below project site path (Refer group name args) is = absurd is

act_in : (below : Option Resolver) (project : Project) (site : Site) (path : Path) (act : JobAct) → Does site.held act → IsOwn act
    → Member (command_at site act) (commands site (resolved_steps below project path site.held.job.steps))
act_in below project site path act (s, has, how) is =
    in_commands below project site path site.held.job.steps s (command_at site act) (member_of site.held.job.steps s has) (elim how [
      | inl e ↦ inl (subst (λ x. Member (command_at site act) (act_commands site (resolved_act below project path x))) (sym e) (own_at below project site path act is))
      | inr e ↦ inr (subst (λ o. Member (command_at site act) (handler_commands site o)) (sym e) (inl refl))
    ])

-- along a path that is no longer than there are levels
along : (levels : ℕ) (project : Project) (site end : Site) (path titles : Path) (act : JobAct) → length titles ≤ levels → Leads project site titles end
    → Does end.held act → IsOwn act → Member (command_at end act) (commands site (resolved levels project path site.held.job.steps))
along zero project site end path [] act low is does own =
    subst (λ s. Member (command_at end act) (commands s (resolved zero project path s.held.job.steps))) is (act_in None project end path act does own)
along (suc levels) project site end path [] act low is does own =
    subst (λ s. Member (command_at end act) (commands s (resolved (suc levels) project path s.held.job.steps))) is
    (act_in (Some (resolved levels project)) project end path act does own)
along zero project site end path (title ∷ titles) act low leads does own = absurd (omega (arith, low))
along (suc levels) project site end path (title ∷ titles) act low (group, name, args, next, refers, is, found, rest) does own =
    let under : Path = path ++ label group name ∷ [] in
    let deep = along levels project (site_below site args next) end under titles act (omega (arith, low)) rest does own in
    in_commands (Some (resolved levels project)) project site path site.held.job.steps refers.0 (command_at end act) (member_of site.held.job.steps refers.0 refers.1)
    (inl (subst (λ x. Member (command_at end act) (act_commands site (resolved_act (Some (resolved levels project)) project path x))) (sym refers.2)
    (subst (λ o. Member (command_at end act) (act_commands site (resolved_reference (Some (resolved levels project)) under args o))) (sym found) deep)))

pub acts_have : ActsHaveCommands
acts_have a accepted path end act asked ok leads does own =
    let same = (accepted_is a accepted asked ok).1 in
    let few = (may_all_be_run a accepted path end asked ok leads).1 in
    contains_of accepted.commands (command_at end act)
    (subst (λ x. Member (command_at end act) x.commands) (sym same) (along 8 a.found.project (site_of a) end [] path act few leads does own))
