-- In a sound project the commands of a run are sound.
use Rattle.std.proofs.Common.{◌≡◌, ℕ, zero, suc, true, false, not, ◌&&◌, ◌||◌, bytes_eq, map, List, [], ◌∷◌, ◌++◌, Option, Some, None, refl, sym, ap, ◌∙◌}
use Rattle.std.specs.List.{list_all, list_any}
use Rattle.std.proofs.lemmas.Bool.{and_parts, not-true, and_from}
use Rattle.std.proofs.lemmas.List.Folds.{list_all-append}
use Rattle.rb_causes.specs.Texts.{differ, has_text}
use Rattle.rb_causes.specs.declared.items.Prop.{Prop}
use Rattle.rb_job.specs.Sound.{is_sound_job, is_sound_handler, names_differ, refers}
use Rattle.rb_job.specs.declared.job.JobStep.{JobStep}
use Rattle.rb_job.specs.declared.job.JobAct.{JobAct}
use Rattle.rb_job.specs.declared.job.JobAct.TheVariants.{Exec, Script, Refer}
use Rattle.rb_option.specs.declared.option_def.OptionDef.{OptionDef}
use Rattle.rb_option.proofs.Settled.{settled_names_differ}
use Rattle.rb_plan.specs.Inlined.{Site, site_below, given_at, command_at, act_commands, handler_commands, commands}
use Rattle.rb_plan.specs.Resolved.{Path, Resolver, label, resolved, resolved_act, resolved_steps, resolved_reference}
use Rattle.rb_plan.specs.Sound.{is_sound_command}
use Rattle.rb_plan.specs.Worlds.{referred_job}
use Rattle.rb_plan.specs.declared.accepted.Command.{Command}
use Rattle.rb_plan.specs.declared.world.Project.{Project}
use Rattle.rb_plan.specs.declared.world.HeldJob.{HeldJob}
use Rattle.rb_plan.proofs.Whole.{referred_is_sound}

any_named : (options : List OptionDef) (title : List ℕ) → has_text (map (λ option. option.name) options) title ≡ list_any (λ other. bytes_eq other.name title) options
any_named [] title = refl
any_named (o ∷ os) title = ap (λ b. bytes_eq o.name title || b) (any_named os title)

-- options whose names differ
pub names_are_apart : (options : List OptionDef) → names_differ options ≡ differ (map (λ option. option.name) options)
names_are_apart [] = refl
names_are_apart (o ∷ os) =
    ap (λ b. not b && names_differ os) (sym (any_named os o.name)) ∙ ap (λ b. not (has_text (map (λ option. option.name) os) o.name) && b) (names_are_apart os)

-- the names of a site's values differ
abbrev pub HasApartValues : Site → Type 0
HasApartValues site = differ (map (λ value. value.key) site.values) ≡ true

-- the names of a sound job's options differ, so those of its values do
pub options_apart : (held : HeldJob) → is_sound_job held.job ≡ true → differ (map (λ option. option.name) held.job.options) ≡ true
options_apart held h = sym (names_are_apart held.job.options) ∙ (and_parts _ _ (and_parts _ _ h).1).0

pub below_is_apart : (site : Site) (args : List Prop) (held : HeldJob) → is_sound_job held.job ≡ true → HasApartValues (site_below site args held)
below_is_apart site args held h = settled_names_differ held.job.options (given_at site args) (options_apart held h)

-- the handlers of a sound job's steps refer to no job
abbrev pub HasSoundHandlers : List JobStep → Type 0
HasSoundHandlers ss = list_all (λ step. is_sound_handler step.handler) ss ≡ true

pub handlers_sound : (held : HeldJob) → is_sound_job held.job ≡ true → HasSoundHandlers held.job.steps
handlers_sound held h = (and_parts _ _ (and_parts _ _ h).0).1

own_sound : (site : Site) (act : JobAct) → refers act ≡ false → HasApartValues site → is_sound_command (command_at site act) ≡ true
own_sound site act none apart = ap (λ b. not b && differ (map (λ value. value.key) site.values)) none ∙ apart

one_sound : (site : Site) (act : JobAct) → refers act ≡ false → HasApartValues site → list_all is_sound_command (command_at site act ∷ []) ≡ true
one_sound site act none apart = ap (λ b. b && true) (own_sound site act none apart)

handler_sound : (site : Site) (handler : Option JobAct) → is_sound_handler handler ≡ true → HasApartValues site → list_all is_sound_command (handler_commands site handler) ≡ true
handler_sound site None h apart = refl
handler_sound site (Some act) h apart = one_sound site act (not-true (refers act) h) apart

act_sound : (below : Option Resolver) (project : Project) (site : Site) (path : Path) (act : JobAct) → HasApartValues site
    → ((group name : List ℕ) (args : List Prop)
    → list_all is_sound_command (act_commands site (resolved_reference below (path ++ label group name ∷ []) args (referred_job project group name))) ≡ true)
    → list_all is_sound_command (act_commands site (resolved_act below project path act)) ≡ true
act_sound below project site path (Exec words) apart at = one_sound site (Exec words) refl apart
act_sound below project site path (Script text args) apart at = one_sound site (Script text args) refl apart
act_sound below project site path (Refer group name args) apart at = at group name args

joined_sound : (xs ys : List Command) → list_all is_sound_command xs ≡ true → list_all is_sound_command ys ≡ true → list_all is_sound_command (xs ++ ys) ≡ true
joined_sound xs ys h k = list_all-append is_sound_command xs ys ∙ and_from (list_all is_sound_command xs) (list_all is_sound_command ys) h k

steps_sound : (below : Option Resolver) (project : Project) (site : Site) (path : Path) (ss : List JobStep) → HasApartValues site → HasSoundHandlers ss
    → ((group name : List ℕ) (args : List Prop)
    → list_all is_sound_command (act_commands site (resolved_reference below (path ++ label group name ∷ []) args (referred_job project group name))) ≡ true)
    → list_all is_sound_command (commands site (resolved_steps below project path ss)) ≡ true
steps_sound below project site path [] apart handlers at = refl
steps_sound below project site path (s ∷ ss) apart handlers at =
    let h = and_parts (is_sound_handler s.handler) (list_all (λ step. is_sound_handler step.handler) ss) handlers in
    joined_sound (act_commands site (resolved_act below project path s.act)) _ (act_sound below project site path s.act apart at)
    (joined_sound (handler_commands site s.handler) _ (handler_sound site s.handler h.0 apart) (steps_sound below project site path ss apart h.1 at))

none_sound : (site : Site) (path : Path) (args : List Prop) (o : Option HeldJob) → list_all is_sound_command (act_commands site (resolved_reference None path args o)) ≡ true
none_sound site path args None = refl
none_sound site path args (Some held) = refl

some_sound : (levels : ℕ) (project : Project) (site : Site) (path : Path) (args : List Prop) (o : Option HeldJob)
    → ((held : HeldJob) → o ≡ Some held → is_sound_job held.job ≡ true)
    → ((site : Site) (path : Path) (ss : List JobStep) → HasApartValues site → HasSoundHandlers ss → list_all is_sound_command (commands site (resolved levels project path ss)) ≡ true)
    → list_all is_sound_command (act_commands site (resolved_reference (Some (resolved levels project)) path args o)) ≡ true
some_sound levels project site path args None sound below = refl
some_sound levels project site path args (Some held) sound below =
    below (site_below site args held) path held.job.steps (below_is_apart site args held (sound held refl)) (handlers_sound held (sound held refl))

pub commands_sound : (levels : ℕ) (project : Project) → list_all (λ held. is_sound_job held.job) project.jobs ≡ true
    → (site : Site) (path : Path) (ss : List JobStep) → HasApartValues site → HasSoundHandlers ss → list_all is_sound_command (commands site (resolved levels project path ss)) ≡ true
commands_sound zero project all site path ss apart handlers =
    steps_sound None project site path ss apart handlers (λ group name args. none_sound site (path ++ label group name ∷ []) args (referred_job project group name))
commands_sound (suc levels) project all site path ss apart handlers =
    steps_sound (Some (resolved levels project)) project site path ss apart handlers
    (λ group name args. some_sound levels project site (path ++ label group name ∷ []) args (referred_job project group name)
    (λ held found. referred_is_sound project group name held all found) (commands_sound levels project all))
