-- A rule that does not refuse does not hold.
use Rattle.std.proofs.Common.{arith, ◌≡◌, inl, inr, ℕ, ◌+◌, zero, suc, length, Bool, true, false, cond, List, [], ◌∷◌, ◌++◌, append_assoc, append-nil, Option, Some, None, option_map, refl, sym, ap, ◌∙◌, subst}
use Rattle.std.proofs.lemmas.Option.{none-some}
use Rattle.std.proofs.lemmas.Bool.{true≢false}
use Rattle.rb_acl.specs.Deciding.{is_allowed}
use Rattle.rb_causes.specs.declared.items.Prop.{Prop}
use Rattle.rb_job.specs.declared.job.JobStep.{JobStep}
use Rattle.rb_node.specs.declared.node.Node.{Node}
use Rattle.rb_option.specs.Settled.{settling_fault}
use Rattle.rb_plan.specs.Holds.{Leads, RefersTo, RuleHolds}
use Rattle.rb_plan.specs.Inlined.{Site, site_below, given_at, refused_option, option_in_act, option_in_steps}
use Rattle.rb_plan.specs.References.{Visit, reference, fault, visits, act_visits, first_bad, bad_reference, denied_reference}
use Rattle.rb_plan.specs.Refusals.{already_running, none_selected, none_allowed}
use Rattle.rb_plan.specs.Resolved.{Path, Resolver, label, resolved, resolved_act, resolved_steps, resolved_reference}
use Rattle.rb_plan.specs.Verdict.{Asked, may_run, may_run_on, site_of, steps_of, chosen_of, runnable_of}
use Rattle.rb_plan.specs.Walked.{deeper, all_visits}
use Rattle.rb_plan.specs.Worlds.{referred_job, running_of}
use Rattle.rb_plan.specs.declared.world.Project.{Project}
use Rattle.rb_plan.specs.declared.world.HeldJob.{HeldJob}
use Rattle.rb_plan.specs.declared.refusal.RefCause.TheVariants.{NotFound, TooDeep, TooMany}
use Rattle.rb_plan.specs.declared.refusal.Refusal.TheVariants.{BadReference, ReferenceDenied, AlreadyRunning, BadOption, NoNodeSelected, NoNodeAllowed}
use Rattle.rb_plan.proofs.Accepting.{none_of, steps_few}
use Rattle.rb_plan.proofs.Holding.{none_lowest}
use Rattle.rb_plan.proofs.Reaching.{NoFault, in_steps, reached, no_fault, all_allowed}
use Rattle.rb_plan.proofs.Served.{Member, member_of, contains_of, into_filter, member_filter}
use Rattle.rb_plan.proofs.Walks.{resolved_is}

-- what the walk comes to in a reference, whatever it is found to be
in_found : (below : Option Resolver) (project : Project) (path : Path) (held : HeldJob) (group name : List ℕ) (args : List Prop) (o : Option HeldJob) (v : Visit)
    → RefersTo held group name args → referred_job project group name ≡ o
    → Member v (act_visits path (resolved_reference below (path ++ label group name ∷ []) args o)) → Member v (all_visits below project path held.job.steps)
in_found below project path held group name args o v refers found m =
    in_steps below project path held.job.steps refers.0 v (member_of held.job.steps refers.0 refers.1)
    (subst (λ act. Member v (act_visits path (resolved_act below project path act))) (sym refers.2)
    (subst (λ o. Member v (act_visits path (resolved_reference below (path ++ label group name ∷ []) args o))) (sym found) m))

-- no option is refused in a step, where none is in the steps
option_none : (below : Option Resolver) (project : Project) (site : Site) (path : Path) (ss : List JobStep) (s : JobStep)
    → option_in_steps site (resolved_steps below project path ss) ≡ None → Member s ss → option_in_act site (resolved_act below project path s.act) ≡ None
option_none below project site path [] s h m = absurd m
option_none below project site path (y ∷ ys) s h (inl e) = subst (λ z. option_in_act site (resolved_act below project path z.act) ≡ None) (sym e) (none_of _ _ h).0
option_none below project site path (y ∷ ys) s h (inr m) = option_none below project site path ys s (none_of _ _ h).1 m

option_refers : (below : Option Resolver) (project : Project) (site : Site) (path : Path) (group name : List ℕ) (args : List Prop) (o : Option HeldJob)
    → option_in_steps site (resolved_steps below project path site.held.job.steps) ≡ None → RefersTo site.held group name args → referred_job project group name ≡ o
    → option_in_act site (resolved_reference below (path ++ label group name ∷ []) args o) ≡ None
option_refers below project site path group name args o h refers found =
    subst (λ o. option_in_act site (resolved_reference below (path ++ label group name ∷ []) args o) ≡ None) found
    (subst (λ act. option_in_act site (resolved_act below project path act) ≡ None) refers.2
    (option_none below project site path site.held.job.steps refers.0 h (member_of site.held.job.steps refers.0 refers.1)))

-- where nothing is at fault, a path leads into the walk: it comes to all that the end's own walk
-- comes to
abbrev Inside : ℕ → Project → Site → Path → Path → Site → Type 0
Inside levels project site path titles end =
    (left : ℕ) × (levels ≡ length titles + left)
    × ((v : Visit) → Member v (all_visits (deeper left project) project (path ++ titles) end.held.job.steps) → Member v (all_visits (deeper levels project) project path site.held.job.steps))
    × (option_in_steps site (resolved_steps (deeper levels project) project path site.held.job.steps) ≡ None
    → option_in_steps end (resolved_steps (deeper left project) project (path ++ titles) end.held.job.steps) ≡ None)

inside : (levels : ℕ) (project : Project) (site end : Site) (path titles : Path)
    → NoFault (all_visits (deeper levels project) project path site.held.job.steps) → Leads project site titles end → Inside levels project site path titles end
inside levels project site end path [] sound is =
    subst (λ s. Inside levels project site path [] s) (sym is) (
      levels,
      omega arith,
      (λ v m. subst (λ p. Member v (all_visits (deeper levels project) project p site.held.job.steps)) (append-nil path) m),
      (λ h. subst (λ p. option_in_steps site (resolved_steps (deeper levels project) project p site.held.job.steps) ≡ None) (sym (append-nil path)) h),
    )
inside zero project site end path (title ∷ titles) sound (group, name, args, next, refers, is, found, rest) =
    absurd (sound (path ++ label group name ∷ []) TooDeep
    (in_found None project path site.held group name args (Some next) (fault (path ++ label group name ∷ []) TooDeep) refers found (inl refl)))
inside (suc levels) project site end path (title ∷ titles) sound (group, name, args, next, refers, is, found, rest) =
    let under : Path = path ++ label group name ∷ [] in
    let enters : (v : Visit) → Member v (all_visits (deeper levels project) project under next.job.steps) → Member v (all_visits (deeper (suc levels) project) project path site.held.job.steps) =
    λ v m. in_found (Some (resolved levels project)) project path site.held group name args (Some next) v refers found
    (inr (subst (λ vs. Member v vs) (sym (resolved_is levels project under next.job.steps)) m)) in
    let deep = inside levels project (site_below site args next) end under titles (λ q c m. sound q c (enters (fault q c) m)) rest in
    let whole : under ++ titles ≡ path ++ title ∷ titles = append_assoc path (label group name ∷ []) titles ∙ ap (λ t. path ++ t ∷ titles) (sym is) in (
      deep.0,
      omega (arith, deep.1),
      (λ v m. enters v (deep.2 v (subst (λ p. Member v (all_visits (deeper deep.0 project) project p end.held.job.steps)) (sym whole) m))),
      (λ h. subst (λ p. option_in_steps end (resolved_steps (deeper deep.0 project) project p end.held.job.steps) ≡ None) whole
          (deep.3 (option_below levels project (site_below site args next) under next.job.steps
          (none_of _ _ (option_refers (Some (resolved levels project)) project site path group name args (Some next) h refers found)).1))),
    )
  where
    option_below : (levels : ℕ) (project : Project) (site : Site) (path : Path) (ss : List JobStep) → option_in_steps site (resolved levels project path ss) ≡ None
        → option_in_steps site (resolved_steps (deeper levels project) project path ss) ≡ None
    option_below zero project site path ss h = h
    option_below (suc levels) project site path ss h = h

-- the walk of the asked job, where no reference is bad
sound_walk : (a : Asked) → bad_reference (steps_of a) ≡ None → NoFault (all_visits (deeper 8 a.found.project) a.found.project [] a.found.held.job.steps)
sound_walk a h path cause m = no_fault 1000 (visits [] (steps_of a)) h path cause (subst (λ vs. Member (fault path cause) vs) (sym (resolved_is 8 a.found.project [] a.found.held.job.steps)) m)

into_asked : (a : Asked) → bad_reference (steps_of a) ≡ None → (end : Site) (titles : Path) → Leads a.found.project (site_of a) titles end → Inside 8 a.found.project (site_of a) [] titles end
into_asked a h end titles leads = inside 8 a.found.project (site_of a) end [] titles (sound_walk a h) leads

pub no_bad : (a : Asked) → bad_reference (steps_of a) ≡ None → (q : Path) (cause : _) → RuleHolds a (BadReference q cause) → ⊥
no_bad a h q NotFound (site, group, name, args, ends, none) =
    let k = into_asked a h site ends.0 ends.2 in
    sound_walk a h (ends.0 ++ label group name ∷ []) NotFound
    (k.2 (fault (ends.0 ++ label group name ∷ []) NotFound) (in_found (deeper k.0 a.found.project) a.found.project ends.0 site.held group name args None _ ends.3 none (at_end (deeper k.0 a.found.project))))
  where
    at_end : (below : Option Resolver) → Member (fault (ends.0 ++ label group name ∷ []) NotFound) (act_visits ends.0 (resolved_reference below (ends.0 ++ label group name ∷ []) args None))
    at_end None = inl refl
    at_end (Some below) = inl refl
no_bad a h q TooDeep (end, reaches, nine) = let k = into_asked a h end q reaches in absurd (omega (arith, k.1, nine))
no_bad a h q TooMany (end, reaches, many) =
    let few = steps_few 1000 [] (steps_of a) [] (ap (first_bad 1000) (append-nil (visits [] (steps_of a))) ∙ h) in absurd (omega (arith, few.1, many))

pub no_denied : (a : Asked) → bad_reference (steps_of a) ≡ None → denied_reference (may_run a) (steps_of a) ≡ None → (q : Path) (d : _) → RuleHolds a (ReferenceDenied q d) → ⊥
no_denied a h none [] d (end, reaches, some, is, not_so) = absurd (omega (arith, some))
no_denied a h none (title ∷ titles) d (end, reaches, some, is, not_so) =
    let here = reached 8 a.found.project (site_of a) end [] title titles (sound_walk a h) reaches in
    true≢false (sym (all_allowed (may_run a) (visits [] (steps_of a)) none (title ∷ titles) end.held
    (subst (λ vs. Member (reference (title ∷ titles) end.held) vs) (sym (resolved_is 8 a.found.project [] a.found.held.job.steps)) here.1))
    ∙ ap is_allowed (sym is) ∙ not_so)

map_none : {A B : Type 0} (f : A → B) (o : Option A) (x : A) → option_map f o ≡ None → o ≡ Some x → ⊥
map_none f None x h is = none-some x is
map_none f (Some y) x h is = none-some (f y) (sym h)

-- the options of a reference at the end of a path
no_flaw : (left : ℕ) (project : Project) (end : Site) (path : Path) (group name : List ℕ) (args : List Prop) (next : HeldJob) (flaw : _)
    → ((q : Path) (cause : _) → Member (fault q cause) (all_visits (deeper left project) project path end.held.job.steps) → ⊥)
    → option_in_steps end (resolved_steps (deeper left project) project path end.held.job.steps) ≡ None
    → RefersTo end.held group name args → referred_job project group name ≡ Some next → settling_fault next.job.options (given_at end args) ≡ Some flaw → ⊥
no_flaw zero project end path group name args next flaw sound none refers found is =
    sound (path ++ label group name ∷ []) TooDeep (in_found None project path end.held group name args (Some next) _ refers found (inl refl))
no_flaw (suc left) project end path group name args next flaw sound none refers found is =
    map_none (λ x. BadOption (path ++ label group name ∷ []) x) (settling_fault next.job.options (given_at end args)) flaw
    (none_of _ _ (option_refers (Some (resolved left project)) project end path group name args (Some next) none refers found)).0 is

pub no_option : (a : Asked) → bad_reference (steps_of a) ≡ None → refused_option [] a.found.held.job.options a.ask.given ≡ None → option_in_steps (site_of a) (steps_of a) ≡ None
    → (q : Path) (flaw : _) → RuleHolds a (BadOption q flaw) → ⊥
no_option a h own none q flaw (inl k) = map_none (λ x. BadOption [] x) _ flaw own k.1
no_option a h own none q flaw (inr (site, group, name, args, next, ends, found, is)) =
    let k = into_asked a h site ends.0 ends.2 in
    no_flaw k.0 a.found.project site ends.0 group name args next flaw (λ p c m. sound_walk a h p c (k.2 (fault p c) m))
    (k.3 (option_walk none)) ends.3 found is
  where
    option_walk : option_in_steps (site_of a) (steps_of a) ≡ None → option_in_steps (site_of a) (resolved_steps (deeper 8 a.found.project) a.found.project [] a.found.held.job.steps) ≡ None
    option_walk h = h

pub cond_none : {A : Type 0} (test : Bool) (x : Option A) → cond test None x ≡ None → test ≡ false → x ≡ None
cond_none true x h e = absurd (true≢false e)
cond_none false x h e = h

pub no_running : (a : Asked) → already_running a.found.held.job (running_of a.world a.found.held.id) ≡ None → (n : ℕ) → RuleHolds a (AlreadyRunning n) → ⊥
no_running a h n (single, runs, low) = none_lowest a.found.held.id a.world.running (map_is_none _ (cond_none a.found.held.job.multiple _ h single)) n (member_of a.world.running _ runs)
  where
    map_is_none : (o : Option ℕ) → option_map (λ execution. AlreadyRunning execution) o ≡ None → o ≡ None
    map_is_none None e = refl
    map_is_none (Some x) e = absurd (none-some _ (sym e))

pub no_selection : (a : Asked) (nodes : List Node) → chosen_of a ≡ nodes → none_selected a.found.held.job nodes ≡ None → RuleHolds a NoNodeSelected → ⊥
no_selection a [] is h (fails, none) = none-some _ (sym (cond_none a.found.held.job.success_on_empty (Some NoNodeSelected) h fails))
no_selection a (n ∷ ns) is h (fails, none) =
    let k = member_filter _ a.found.project.inventory.nodes n (subst (λ xs. Member n xs) (sym is) (inl refl)) in none n (contains_of _ n k.0, k.1)

pub no_allowance : (a : Asked) (nodes run : List Node) → chosen_of a ≡ nodes → runnable_of a ≡ run → none_allowed (may_run_on a) nodes run ≡ None → (name : _) (d : _) → RuleHolds a (NoNodeAllowed name d) → ⊥
no_allowance a [] run is ran h name d (first, none) = subst (λ xs. Member first.0 xs) is (into_filter _ a.found.project.inventory.nodes first.0 (member_of _ first.0 first.1.0) first.1.1)
no_allowance a (n ∷ ns) [] is ran h name d (first, none) = none-some _ (sym h)
no_allowance a (n ∷ ns) (m ∷ ms) is ran h name d (first, none) =
    let k = member_filter (λ x. is_allowed (may_run_on a x)) (chosen_of a) m (subst (λ xs. Member m xs) (sym ran) (inl refl)) in
    let c = member_filter _ a.found.project.inventory.nodes m k.0 in
    true≢false (sym k.1 ∙ none m (contains_of _ m c.0, c.1))
