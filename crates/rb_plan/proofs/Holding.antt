-- The rule of a refusal that is told holds, and what no rule refuses is accepted.
use Rattle.std.proofs.Common.{arith, ◌≡◌, inl, inr, ℕ, ◌*◌, ◌≤◌, ◌<◌, length, nat_le, bytes_eq, Bool, true, false, cond, List, [], ◌∷◌, ◌++◌, Option, Some, None, Result, Ok, Err, refl, sym, ap, ◌∙◌, subst}
use Rattle.std.proofs.lemmas.Option.{none-some}
use Rattle.std.proofs.lemmas.Bool.Decides.{leb_tells}
use Rattle.std.proofs.lemmas.Slice.Eq.{bytes_eq-Decides}
use Rattle.std.proofs.lemmas.Bool.{true≢false}
use Rattle.std.proofs.lemmas.List.{length-append}
use Rattle.rb_causes.specs.Causes.{unless}
use Rattle.rb_acl.specs.Deciding.{is_allowed}
use Rattle.rb_causes.specs.declared.items.Prop.{Prop}
use Rattle.rb_node.specs.declared.node.Node.{Node}
use Rattle.rb_plan.specs.Acceptance.{Acceptance}
use Rattle.rb_plan.specs.Holds.{Leads, Reaches, RefersTo, IsBadReference, IsChosen, RuleHolds}
use Rattle.rb_plan.specs.Inlined.{Site, site_below, slots, refused_option, option_in_steps}
use Rattle.rb_plan.specs.Laws.{IsAsked, RunIsAccepted, RunIsRefused}
use Rattle.rb_plan.specs.References.{Visit, command, reference, fault, visits, bad_reference, denied_reference}
use Rattle.rb_plan.specs.Refusals.{denied_job, disabled, already_running, none_selected, none_allowed, too_large}
use Rattle.rb_plan.specs.Resolved.{Path, label}
use Rattle.rb_plan.specs.Verdict.{Asked, may_run, may_run_on, site_of, steps_of, chosen_of, runnable_of, targets_of, verdict_on, accepted_of, first_refusal}
use Rattle.rb_plan.specs.Verdict as verdict
use Rattle.rb_plan.specs.Worlds.{referred_job, lesser, lowest_running, running_of}
use Rattle.rb_plan.specs.declared.world.Project.{Project}
use Rattle.rb_plan.specs.declared.world.HeldJob.{HeldJob}
use Rattle.rb_plan.specs.declared.world.Running.{Running}
use Rattle.rb_plan.specs.declared.refusal.RefCause.{RefCause}
use Rattle.rb_plan.specs.declared.refusal.RefCause.TheVariants.{NotFound, TooDeep, TooMany}
use Rattle.rb_plan.specs.declared.refusal.Refusal.{Refusal}
use Rattle.rb_plan.specs.declared.refusal.Refusal.TheVariants.{JobDenied, Disabled, AlreadyRunning, BadOption, NoNodeSelected, TooLarge}
use Rattle.rb_plan.proofs.Coming.{ComesFrom, comes}
use Rattle.rb_plan.proofs.Refusing.{or_some, map_some, same_in, bad_is, denied_is, option_is, FromOption, steps_count}
use Rattle.rb_plan.proofs.Served.{Member, member_of, contains_of, into_filter, member_filter}
use Rattle.rb_plan.proofs.Walks.{resolved_is}

pub cond_some : {A : Type 0} (test : Bool) (x : Option A) (r : A) → cond test None x ≡ Some r → (test ≡ false) × (x ≡ Some r)
cond_some true x r h = absurd (none-some r h)
cond_some false x r h = (refl, h)

-- a path that leads to a site leads on to the job that a step there refers to
leads_on : (project : Project) (site end : Site) (titles : Path) (group name : List ℕ) (args : List Prop) (next : HeldJob)
    → Leads project site titles end → RefersTo end.held group name args → referred_job project group name ≡ Some next
    → Leads project site (titles ++ label group name ∷ []) (site_below end args next)
leads_on project site end [] group name args next is refers found =
    (group, name, args, next, subst (λ s. RefersTo s.held group name args) is refers, refl, found, ap (λ s. site_below s args next) is)
leads_on project site end (title ∷ titles) group name args next (g, n, given, mid, to, is, held, rest) refers found =
    (g, n, given, mid, to, is, held, leads_on project (site_below site given mid) end titles group name args next rest refers found)

-- the walk of the asked job
walk_of : (a : Asked) (v : Visit) → Member v (visits [] (steps_of a)) → ComesFrom 8 a.found.project (site_of a) [] v
walk_of a v m = comes 8 a.found.project v (site_of a) [] (subst (λ vs. Member v vs) (resolved_is 8 a.found.project [] a.found.held.job.steps) m)

fault_holds : (a : Asked) (q : Path) (cause : RefCause) → ComesFrom 8 a.found.project (site_of a) [] (fault q cause) → IsBadReference a q cause
fault_holds a q NotFound (titles, end, group, name, args, is, leads, to, why) = (end, group, name, args, (titles, is, leads, to), why)
fault_holds a q TooDeep (titles, end, group, name, args, is, leads, to, why) = (
  site_below end args why.0,
  subst (λ p. Reaches a p (site_below end args why.0)) (sym is) (leads_on a.found.project (site_of a) end titles group name args why.0 leads to why.1),
  ap length is ∙ length-append titles (label group name ∷ []) ∙ omega (arith, why.2),
)
fault_holds a q TooMany (titles, end, group, name, args, is, leads, to, why) = absurd why

bad_holds : (a : Asked) (r : Refusal) → bad_reference (steps_of a) ≡ Some r → RuleHolds a r
bad_holds a r h =
    let k = bad_is 1000 (visits [] (steps_of a)) r h in
    subst (RuleHolds a) (sym k.2) (elim k.3 [
      | inl m ↦ fault_holds a k.0 k.1 (walk_of a (fault k.0 k.1) m)
      | inr m ↦ let w = walk_of a (command k.0) m.1 in
          subst (IsBadReference a k.0) (sym m.0) (w.1, subst (λ p. Reaches a p w.1) (sym w.2) w.3, subst (λ n. 1000 < n) (steps_count [] (steps_of a)) m.2)
    ])

denied_holds : (a : Asked) (r : Refusal) → denied_reference (may_run a) (steps_of a) ≡ Some r → RuleHolds a r
denied_holds a r h =
    let k = denied_is (may_run a) (visits [] (steps_of a)) r h in
    let w = walk_of a (reference k.0 k.1) k.2 in
    subst (RuleHolds a) (sym k.3)
    (w.1, subst (λ p. Reaches a p w.1) (sym w.2) w.3, subst (λ p. 0 < length p) (sym w.2) w.5, ap (may_run a) (sym w.4), k.4)

job_holds : (a : Asked) (r : Refusal) → denied_job (may_run a a.found.held) ≡ Some r → RuleHolds a r
job_holds a r h = let k = cond_some (is_allowed (may_run a a.found.held)) (Some (JobDenied (may_run a a.found.held))) r h in
    subst (RuleHolds a) (sym (same_in _ r k.1)) (refl, k.0)

disabled_holds : (a : Asked) (r : Refusal) → disabled a.found.held.job ≡ Some r → RuleHolds a r
disabled_holds a r h = let k = cond_some a.found.held.job.enabled (Some Disabled) r h in subst (RuleHolds a) (sym (same_in _ r k.1)) k.0

own_option_holds : (a : Asked) (r : Refusal) → refused_option [] a.found.held.job.options a.ask.given ≡ Some r → RuleHolds a r
own_option_holds a r h = let k = map_some (λ flaw. BadOption [] flaw) _ r h in subst (RuleHolds a) (sym k.2) (inl (refl, k.1))

option_holds : (a : Asked) (r : Refusal) → option_in_steps (site_of a) (steps_of a) ≡ Some r → RuleHolds a r
option_holds a r h = of (option_is 8 a.found.project r (site_of a) [] h)
  where
    of : FromOption a.found.project (site_of a) [] r → RuleHolds a r
    of (titles, end, group, name, args, next, flaw, is, leads, to, held, why) =
        subst (RuleHolds a) (sym is) (inr (end, group, name, args, next, (titles, refl, leads, to), held, why))

none_chosen : (a : Asked) (nodes : List Node) → chosen_of a ≡ nodes → (r : Refusal) → none_selected a.found.held.job nodes ≡ Some r → RuleHolds a r
none_chosen a (n ∷ ns) is r h = absurd (none-some r h)
none_chosen a [] is r h =
    let k = cond_some a.found.held.job.success_on_empty (Some NoNodeSelected) r h in
    subst (RuleHolds a) (sym (same_in _ r k.1))
    (k.0, λ node chosen. subst (λ ns. Member node ns) is (into_filter _ a.found.project.inventory.nodes node (member_of _ node chosen.0) chosen.1))

none_runs : (a : Asked) (nodes run : List Node) → chosen_of a ≡ nodes → runnable_of a ≡ run → (r : Refusal) → none_allowed (may_run_on a) nodes run ≡ Some r → RuleHolds a r
none_runs a [] run is ran r h = absurd (none-some r h)
none_runs a (n ∷ ns) (m ∷ ms) is ran r h = absurd (none-some r h)
none_runs a (n ∷ ns) [] is ran r h =
    subst (RuleHolds a) (sym (same_in _ r h)) ((n, chosen_first, refl, refl), λ node chosen. not_run node chosen (is_allowed (may_run_on a node)) refl)
  where
    chosen_first : IsChosen a n
    chosen_first = let k = member_filter _ a.found.project.inventory.nodes n (subst (λ xs. Member n xs) (sym is) (inl refl)) in (contains_of _ n k.0, k.1)

    not_run : (node : Node) → IsChosen a node → (b : Bool) → is_allowed (may_run_on a node) ≡ b → is_allowed (may_run_on a node) ≡ false
    not_run node chosen false e = e
    not_run node chosen true e =
        absurd (subst (λ xs. Member node xs) ran (into_filter (λ x. is_allowed (may_run_on a x)) (chosen_of a) node
        (into_filter _ a.found.project.inventory.nodes node (member_of _ node chosen.0) chosen.1) e))

large_holds : (a : Asked) (r : Refusal) → too_large (length (targets_of a)) (slots (steps_of a)) ≡ Some r → RuleHolds a r
large_holds a r h =
    let n = length (targets_of a) * slots (steps_of a) in
    let k = cond_some (nat_le n 100000) (Some (TooLarge n)) r h in
    subst (RuleHolds a) (sym (same_in _ r k.1)) (
      refl,
      elim (leb_tells n 100000) [
        | inl t ↦ absurd (true≢false (sym t.0 ∙ k.0))
        | inr t ↦ t.1
      ],
    )

abbrev pub run_at : ℕ → List ℕ → Running
run_at n id = record { execution = n; job = id }

-- no execution of a job runs where there is no lowest
pub none_lowest : (id : List ℕ) (rs : List Running) → lowest_running id rs ≡ None → (m : ℕ) → Member (run_at m id) rs → ⊥
none_lowest id [] h m k = k
none_lowest id (r ∷ rs) h m k = at (λ h. none_lowest id rs h m) (bytes_eq r.job id) refl
  where
    at : (lowest_running id rs ≡ None → Member (run_at m id) rs → ⊥) → (b : Bool) → bytes_eq r.job id ≡ b → ⊥
    at again true e = none-some _ (sym (subst (λ t. cond t (Some (lesser r.execution (lowest_running id rs))) (lowest_running id rs) ≡ None) e h))
    at again false e = elim k [
      | inl same ↦ true≢false (sym ((bytes_eq-Decides r.job id).1 (sym (ap (λ x. x.job) same))) ∙ e)
      | inr later ↦ again (subst (λ t. cond t (Some (lesser r.execution (lowest_running id rs))) (lowest_running id rs) ≡ None) e h) later
    ]

abbrev IsLowest : List ℕ → List Running → ℕ → Type 0
IsLowest id rs n = Member (run_at n id) rs × ((m : ℕ) → Member (run_at m id) rs → n ≤ m)

-- the lowest is one that runs, and none that runs is lower
lowest_is : (id : List ℕ) (rs : List Running) (n : ℕ) → lowest_running id rs ≡ Some n → IsLowest id rs n
lowest_is id [] n h = absurd (none-some n h)
lowest_is id (r ∷ rs) n h = at (λ y. lowest_is id rs y) (bytes_eq r.job id) refl
  where
    here : r.job ≡ id → Member (run_at r.execution id) (r ∷ rs)
    here e = inl (ap (λ j. run_at r.execution j) (sym e))

    lower : ((y : ℕ) → lowest_running id rs ≡ Some y → IsLowest id rs y) → (rest : Option ℕ) → lowest_running id rs ≡ rest → r.job ≡ id → n ≡ lesser r.execution rest → IsLowest id (r ∷ rs) n
    lower again None none e is = (
      subst (λ x. Member (run_at x id) (r ∷ rs)) (sym is) (here e),
      λ m k. elim k [
        | inl same ↦ subst (λ x. x ≤ m) (sym is) (subst (λ x. r.execution ≤ x) (sym (ap (λ x. x.execution) same)) (omega arith))
        | inr later ↦ absurd (none_lowest id rs none m later)
      ],
    )
    lower again (Some y) some e is =
        let rest = again y some in (
          elim (leb_tells r.execution y) [
            | inl t ↦ subst (λ x. Member (run_at x id) (r ∷ rs)) (omega (arith, t.1, is)) (here e)
            | inr t ↦ subst (λ x. Member (run_at x id) (r ∷ rs)) (omega (arith, t.1, is)) (inr rest.0)
          ],
          λ m k. elim k [
            | inl same ↦ let e2 : m ≡ r.execution = ap (λ x. x.execution) same in omega (arith, is, e2)
            | inr later ↦ let low = rest.1 m later in omega (arith, is, low)
          ],
        )

    at : ((y : ℕ) → lowest_running id rs ≡ Some y → IsLowest id rs y) → (b : Bool) → bytes_eq r.job id ≡ b → IsLowest id (r ∷ rs) n
    at again true e =
        lower again (lowest_running id rs) refl ((bytes_eq-Decides r.job id).0 e)
        (same_in _ n (subst (λ t. cond t (Some (lesser r.execution (lowest_running id rs))) (lowest_running id rs) ≡ Some n) e h))
    at again false e =
        let rest = again n (subst (λ t. cond t (Some (lesser r.execution (lowest_running id rs))) (lowest_running id rs) ≡ Some n) e h) in (
          inr rest.0,
          λ m k. elim k [
            | inl same ↦ absurd (true≢false (sym ((bytes_eq-Decides r.job id).1 (sym (ap (λ x. x.job) same))) ∙ e))
            | inr later ↦ rest.1 m later
          ],
        )

running_holds : (a : Asked) (r : Refusal) → already_running a.found.held.job (running_of a.world a.found.held.id) ≡ Some r → RuleHolds a r
running_holds a r h =
    let k = cond_some a.found.held.job.multiple _ r h in
    let n = map_some (λ execution. AlreadyRunning execution) (running_of a.world a.found.held.id) r k.1 in
    let low = lowest_is a.found.held.id a.world.running n.0 n.1 in
    subst (RuleHolds a) (sym n.2) (k.0, contains_of a.world.running _ low.0, λ other runs. low.1 other (member_of a.world.running _ runs))

-- a run that is refused has a rule that says so
abbrev IsAcceptance : Result Acceptance Refusal → Type 0
IsAcceptance (Ok accepted) = Unit {0}
IsAcceptance (Err refusal) = ⊥

abbrev refusal_or : Result Acceptance Refusal → Refusal → Refusal
refusal_or (Ok accepted) other = other
refusal_or (Err refusal) other = refusal

pub judged_err : (given : Acceptance) (rule : Option Refusal) (r : Refusal) → unless rule given ≡ Err r → rule ≡ Some r
judged_err given None r h = absurd (subst IsAcceptance h tt)
judged_err given (Some x) r h = ap (λ o. Some (refusal_or o x)) h

pub rule_holds : (a : Asked) (r : Refusal) → first_refusal (verdict.rules a) ≡ Some r → RuleHolds a r
rule_holds a r h =
    elim (or_some _ _ r h) [
      | inl m ↦ job_holds a r m
      | inr h1 ↦ elim (or_some _ _ r h1) [
        | inl m ↦ bad_holds a r m
        | inr h2 ↦ elim (or_some _ _ r h2) [
          | inl m ↦ denied_holds a r m
          | inr h3 ↦ elim (or_some _ _ r h3) [
            | inl m ↦ disabled_holds a r m
            | inr h4 ↦ elim (or_some _ _ r h4) [
              | inl m ↦ running_holds a r m
              | inr h5 ↦ elim (or_some _ _ r h5) [
                | inl m ↦ own_option_holds a r m
                | inr h6 ↦ elim (or_some _ _ r h6) [
                  | inl m ↦ option_holds a r m
                  | inr h7 ↦ elim (or_some _ _ r h7) [
                    | inl m ↦ none_chosen a (chosen_of a) refl r m
                    | inr h8 ↦ elim (or_some _ _ r h8) [
                      | inl m ↦ none_runs a (chosen_of a) (runnable_of a) refl refl r m
                      | inr h9 ↦ elim (or_some _ None r h9) [ inl m ↦ large_holds a r m | inr m ↦ absurd (none-some r m) ]
                    ]
                  ]
                ]
              ]
            ]
          ]
        ]
      ]
    ]

pub refused_holds : (a : Asked) (r : Refusal) → IsAsked a → RunIsRefused a r → RuleHolds a r
refused_holds a r asked told =
    rule_holds a r (judged_err (accepted_of a) (first_refusal (verdict.rules a)) r (subst (λ found. verdict_on a.world a.caller a.ask a.draw found ≡ Err r) asked told))

-- what no rule refuses is accepted
pub unrefused : (a : Asked) → IsAsked a → ((refusal : Refusal) → RuleHolds a refusal → ⊥) → (accepted : Acceptance) × RunIsAccepted a accepted
unrefused a asked none = (
  accepted_of a,
  subst (λ found. verdict_on a.world a.caller a.ask a.draw found ≡ Ok (accepted_of a)) (sym asked) (passes (first_refusal (verdict.rules a)) refl),
)
  where
    passes : (rule : Option Refusal) → first_refusal (verdict.rules a) ≡ rule → unless (first_refusal (verdict.rules a)) (accepted_of a) ≡ Ok (accepted_of a)
    passes None e = ap (λ r. unless r (accepted_of a)) e
    passes (Some r) e = absurd (none r (rule_holds a r e))
