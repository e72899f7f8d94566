-- Where the nodes of a run come from.
use Rattle.std.proofs.Common.{arith, ◌≡◌, ◌⊎◌, inl, inr, ℕ, ◌+◌, ◌<◌, zero, suc, length, get_or, Bool, true, false, cond, List, [], ◌∷◌, Option, nat_eq, not, map, ◌↔◌, refl, sym, ap, subst}
use Rattle.std.proofs.lemmas.Bool.{true≢false, not-true, not_from_false}
use Rattle.std.specs.List.{Contains, filter, list_any}
use Rattle.std.specs.Ordering.{is_gt}
use Rattle.rb_acl.specs.Deciding.{is_allowed}
use Rattle.rb_job.specs.declared.job.Job.{Job}
use Rattle.rb_job.specs.declared.job.Orchestrator.{Orchestrator}
use Rattle.rb_job.specs.declared.job.Orchestrator.TheVariants.{Plain, Subset, RankTiered, MaxPercentage}
use Rattle.rb_node.specs.declared.node.Node.{Node}
use Rattle.rb_orch.specs.Ranking.{rank_cmp, ranked, ranked_in}
use Rattle.rb_orch.specs.Picking.{standing_at}
use Rattle.rb_plan.specs.Acceptance.{Acceptance}
use Rattle.rb_plan.specs.Holds.{IsChosen}
use Rattle.rb_plan.specs.Laws.{IsAsked, RunIsAccepted, IsSubset}
use Rattle.rb_plan.specs.Targets.{cut}
use Rattle.rb_plan.specs.Verdict.{Asked, may_run_on, chosen_of, runnable_of, targets_of}
use Rattle.rb_plan.proofs.Accepting.{accepted_is}

abbrev pub Member : {A : Type 0} → A → List A → Type 0
Member x [] = ⊥
Member x (y ∷ ys) = (x ≡ y) ⊎ Member x ys

member_at : {A : Type 0} (xs : List A) (x : A) (k : ℕ) → k < length xs → get_or xs k x ≡ x → Member x xs
member_at [] x k l e = absurd (omega (arith, l))
member_at (y ∷ ys) x zero l e = inl (sym e)
member_at (y ∷ ys) x (suc k) l e = inr (member_at ys x k (omega (arith, l)) e)

pub member_of : {A : Type 0} (xs : List A) (x : A) → Contains xs x → Member x xs
member_of xs x h = member_at xs x h.0 h.1 h.2

pub contains_of : {A : Type 0} (xs : List A) (x : A) → Member x xs → Contains xs x
contains_of [] x h = absurd h
contains_of (y ∷ ys) x (inl e) = (0, omega arith, sym e)
contains_of (y ∷ ys) x (inr h) = let c = contains_of ys x h in (suc c.0, omega (arith, c.1), c.2)

kept : {A : Type 0} (test : Bool) (y x : A) (rest : List A) → Member x (cond test (y ∷ rest) rest) → ((test ≡ true) × (x ≡ y)) ⊎ Member x rest
kept true y x rest (inl e) = inl (refl, e)
kept true y x rest (inr h) = inr h
kept false y x rest h = inr h

pub member_filter : {A : Type 0} (p : A → Bool) (xs : List A) (x : A) → Member x (filter p xs) → Member x xs × (p x ≡ true)
member_filter p [] x h = absurd h
member_filter p (y ∷ ys) x h =
    elim (kept (p y) y x (filter p ys) h) [
      | inl e ↦ (inl e.1, subst (λ z. p z ≡ true) (sym e.1) e.0)
      | inr m ↦ let r = member_filter p ys x m in (inr r.0, r.1)
    ]

placed : (test : Bool) (n m x : Node) (one other : List Node) → (Member x one → (x ≡ n) ⊎ Member x other)
    → Member x (cond test (m ∷ one) (n ∷ m ∷ other)) → (x ≡ n) ⊎ Member x (m ∷ other)
placed true n m x one other below (inl e) = inr (inl e)
placed true n m x one other below (inr h) = elim (below h) [ inl e ↦ inl e | inr r ↦ inr (inr r) ]
placed false n m x one other below (inl e) = inl e
placed false n m x one other below (inr h) = inr h

member_in : (by : Option (List ℕ)) (down : Bool) (n x : Node) (ns : List Node) → Member x (ranked_in by down n ns) → (x ≡ n) ⊎ Member x ns
member_in by down n x [] (inl e) = inl e
member_in by down n x [] (inr h) = absurd h
member_in by down n x (m ∷ ms) h = placed (is_gt (rank_cmp by down n m)) n m x (ranked_in by down n ms) ms (member_in by down n x ms) h

pub member_ranked : (by : Option (List ℕ)) (down : Bool) (x : Node) (ns : List Node) → Member x (ranked by down ns) → Member x ns
member_ranked by down x [] h = absurd h
member_ranked by down x (n ∷ ns) h = elim (member_in by down n x (ranked by down ns) h) [ inl e ↦ inl e | inr r ↦ inr (member_ranked by down x ns r) ]

member_standing : (taken : List ℕ) (start : ℕ) (x : Node) (ns : List Node) → Member x (standing_at taken start ns) → Member x ns
member_standing taken start x [] h = absurd h
member_standing taken start x (n ∷ ns) h =
    elim (kept (list_any (λ place. nat_eq place start) taken) n x (standing_at taken (start + 1) ns) h) [
      | inl e ↦ inl e.1
      | inr m ↦ inr (member_standing taken (start + 1) x ns m)
    ]

member_cut : (orchestrator : Orchestrator) (draw : ℕ) (x : Node) (ns : List Node) → Member x (cut orchestrator draw ns) → Member x ns
member_cut Plain draw x ns h = h
member_cut (Subset count) draw x ns h = member_standing _ 0 x ns h
member_cut RankTiered draw x ns h = h
member_cut (MaxPercentage percent) draw x ns h = h

-- a node of a run is one that is selected and may be run
pub may_be_run : (a : Asked) (accepted : Acceptance) (node : Node) → IsAsked a → RunIsAccepted a accepted → Contains accepted.nodes node
    → IsChosen a node × (is_allowed (may_run_on a node) ≡ true)
may_be_run a accepted node asked ok has =
    let same = (accepted_is a accepted asked ok).1 in
    let here : Contains (targets_of a) node = subst (λ x. Contains x.nodes node) same has in
    let job : Job = a.found.held.job in
    let ran = member_ranked job.rank_by job.rank_down node (runnable_of a) (member_cut job.orchestrator a.draw node _ (member_of (targets_of a) node here)) in
    let both = member_filter (λ n. is_allowed (may_run_on a n)) (chosen_of a) node ran in
    let chosen = member_filter _ a.found.project.inventory.nodes node both.0 in
    ((contains_of _ node chosen.0, chosen.1), both.1)

keeps : {A : Type 0} (test : Bool) (x : A) (rest : List A) → test ≡ true → Member x (cond test (x ∷ rest) rest)
keeps true x rest h = inl refl
keeps false x rest h = absurd (true≢false (sym h))

holds_on : {A : Type 0} (test : Bool) (y x : A) (rest : List A) → Member x rest → Member x (cond test (y ∷ rest) rest)
holds_on true y x rest h = inr h
holds_on false y x rest h = h

pub into_filter : {A : Type 0} (p : A → Bool) (xs : List A) (x : A) → Member x xs → p x ≡ true → Member x (filter p xs)
into_filter p [] x h pass = absurd h
into_filter p (y ∷ ys) x (inl e) pass = subst (λ z. Member x (cond (p z) (z ∷ filter p ys) (filter p ys))) e (keeps (p x) x (filter p ys) pass)
into_filter p (y ∷ ys) x (inr h) pass = holds_on (p y) y x (filter p ys) (into_filter p ys x h pass)

goes_in : (test : Bool) (n m x : Node) (one other : List Node) → ((x ≡ n) ⊎ Member x other → Member x one)
    → (x ≡ n) ⊎ Member x (m ∷ other) → Member x (cond test (m ∷ one) (n ∷ m ∷ other))
goes_in true n m x one other below (inl e) = inr (below (inl e))
goes_in true n m x one other below (inr (inl e)) = inl e
goes_in true n m x one other below (inr (inr h)) = inr (below (inr h))
goes_in false n m x one other below (inl e) = inl e
goes_in false n m x one other below (inr h) = inr h

into_place : (by : Option (List ℕ)) (down : Bool) (n x : Node) (ns : List Node) → (x ≡ n) ⊎ Member x ns → Member x (ranked_in by down n ns)
into_place by down n x [] (inl e) = inl e
into_place by down n x [] (inr h) = absurd h
into_place by down n x (m ∷ ms) h = goes_in (is_gt (rank_cmp by down n m)) n m x (ranked_in by down n ms) ms (into_place by down n x ms) h

pub into_ranked : (by : Option (List ℕ)) (down : Bool) (x : Node) (ns : List Node) → Member x ns → Member x (ranked by down ns)
into_ranked by down x [] h = absurd h
into_ranked by down x (n ∷ ns) (inl e) = into_place by down n x (ranked by down ns) (inl e)
into_ranked by down x (n ∷ ns) (inr h) = into_place by down n x (ranked by down ns) (inr (into_ranked by down x ns h))

into_cut : (orchestrator : Orchestrator) (draw : ℕ) (x : Node) (ns : List Node) → (IsSubset orchestrator → ⊥) → Member x ns → Member x (cut orchestrator draw ns)
into_cut Plain draw x ns plain h = h
into_cut (Subset count) draw x ns plain h = absurd (plain (count, refl))
into_cut RankTiered draw x ns plain h = h
into_cut (MaxPercentage percent) draw x ns plain h = h

-- without a subset each node that is selected and may be run is one of the run
pub is_run : (a : Asked) (accepted : Acceptance) (node : Node) → IsAsked a → RunIsAccepted a accepted
    → (IsSubset a.found.held.job.orchestrator → ⊥) → IsChosen a node → is_allowed (may_run_on a node) ≡ true → Contains accepted.nodes node
is_run a accepted node asked ok plain chosen allowed =
    let same = (accepted_is a accepted asked ok).1 in
    let job : Job = a.found.held.job in
    let picked : Member node (chosen_of a) = into_filter _ a.found.project.inventory.nodes node (member_of _ node chosen.0) chosen.1 in
    let ran : Member node (runnable_of a) = into_filter (λ n. is_allowed (may_run_on a n)) (chosen_of a) node picked allowed in
    subst (λ x. Contains x.nodes node) (sym same)
    (contains_of (targets_of a) node (into_cut job.orchestrator a.draw node _ plain (into_ranked job.rank_by job.rank_down node (runnable_of a) ran)))

-- the dropped nodes are those that are selected and may not be run
pub may_not_be_run : (a : Asked) (accepted : Acceptance) → IsAsked a → RunIsAccepted a accepted
    → (nodes : List Node) × (accepted.dropped ≡ map (λ node. record { node = node.name; decision = may_run_on a node }) nodes)
    × ((node : Node) → Contains nodes node ↔ (IsChosen a node × (is_allowed (may_run_on a node) ≡ false)))
may_not_be_run a accepted asked ok =
    let p : Node → Bool = λ node. not (is_allowed (may_run_on a node)) in
    let nodes : List Node = filter p (chosen_of a) in (
      nodes,
      ap (λ x. x.dropped) (accepted_is a accepted asked ok).1,
      λ node. (
        (λ has. let both = member_filter p (chosen_of a) node (member_of nodes node has) in
            let chosen = member_filter _ a.found.project.inventory.nodes node both.0 in
            ((contains_of _ node chosen.0, chosen.1), not-true (is_allowed (may_run_on a node)) both.1)),
        (λ h. contains_of nodes node (into_filter p (chosen_of a) node (into_filter _ a.found.project.inventory.nodes node (member_of _ node h.0.0) h.0.1)
            (not_from_false (is_allowed (may_run_on a node)) h.1))),
      ),
    )
