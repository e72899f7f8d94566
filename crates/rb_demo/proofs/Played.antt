-- Rounds of the demo, one after another.
use Rattle.std.proofs.Common.{◌≡◌, ◌∙◌, ◌≤◌, ◌<◌, ◌+◌, ℕ, List, [], ◌∷◌, length, filter, flat_map, not, codes, Bool, true, false, ap, sym, subst, refl, arith, Contains, length-append}
use Rattle.std.proofs.lemmas.List.Elements.{filter-append}
use Rattle.rb_causes.specs.Spawners.{ShownRuns}
use Rattle.rb_log.specs.Legal.{Rights}
use Rattle.rb_log.specs.Told.{Told, with_task}
use Rattle.rb_log.specs.declared.answer.Answer.{Answer}
use Rattle.rb_log.specs.declared.task.OpenLeaf.{OpenLeaf}
use Rattle.rb_work.specs.Works.{Outside}
use Rattle.rb_demo.specs.Asking.{AreReadyRights, PlaysRound, refusals}
use Rattle.rb_demo.specs.Rounds.{HasRun, PumpsIf, Round, refused_in, is_accepted, is_refused}

-- ---- the worker and the door stay

pub ready_kept : (old new : Rights) (leaves : List OpenLeaf)
    → new ≡ record old { leaves = leaves } → AreReadyRights old → AreReadyRights new
ready_kept old new leaves is h = record {
  worker = subst (λ ws. Contains ws 0) (sym (ap (λ (r : Rights). r.workers) is)) h.worker;
  door = subst (λ ds. 0 < length ds) (sym (ap (λ (r : Rights). r.doors) is)) h.door;
}

ready_asked : (old new : Told) (user job : List ℕ) (a : Answer) → HasRun old new user job a
    → AreReadyRights old.rights → AreReadyRights new.rights
ready_asked old new user job a h k =
    ready_kept old.rights new.rights (with_task a old.rights.leaves) h.acts.rights k

ready_worked : (accepted : Bool) (old new : Outside) → PumpsIf accepted old new
    → AreReadyRights old.clerk.rights → AreReadyRights new.clerk.rights
ready_worked true old new h k =
    ready_kept h.mid.rights new.clerk.rights new.clerk.rights.leaves h.worked.rights
    (subst AreReadyRights (sym h.ticked.rights) k)
ready_worked false old new h k =
    subst (λ (o : Outside). AreReadyRights o.clerk.rights) (sym h) k

-- ---- a round

counted : (ann bob : Bool) (a b : Answer) → is_refused a ≡ not ann → is_refused b ≡ not bob
    → refusals ann bob ≡ length (filter is_refused (a ∷ b ∷ []))
counted true true a b h k = rw (h, k) refl
counted true false a b h k = rw (h, k) refl
counted false true a b h k = rw (h, k) refl
counted false false a b h k = rw (h, k) refl

few_refused : (ann bob : Bool) → refusals ann bob ≤ 2
few_refused true true = omega arith
few_refused true false = omega arith
few_refused false true = omega arith
few_refused false false = omega arith

-- a run, and what it was answered
abbrev pub Runs : Told → Told → List ℕ → List ℕ → Bool → Type 0
Runs old new user job accepted =
    (a : Answer) × HasRun old new user job a × (is_accepted a ≡ accepted)
    × (is_refused a ≡ not accepted)

pub plays_round : (job : List ℕ) (old asked worked new : Told) (before after : ShownRuns)
    (ann bob : Bool) → Runs old asked (codes "ann") job ann
    → PumpsIf ann (record { clerk = asked; spawner = before })
    (record { clerk = worked; spawner = after })
    → Runs worked new (codes "bob") job bob → AreReadyRights old.rights
    → PlaysRound job (record { clerk = old; spawner = before })
    (record { clerk = new; spawner = after }) (refusals ann bob)
plays_round job old asked worked new before after ann bob a pump b ready = record {
  round = record { ann = a.0; bob = b.0 };
  is = record {
    asked = asked;
    worked = worked;
    ann = a.1;
    pump = subst (λ x. PumpsIf x (record { clerk = asked; spawner = before })
        (record { clerk = worked; spawner = after })) (sym a.2) pump;
    bob = b.1;
  };
  refused = counted ann bob a.0 b.0 a.3 b.3;
  few = few_refused ann bob;
  ready = ready_asked worked new (codes "bob") job b.0 b.1
      (ready_worked ann (record { clerk = asked; spawner = before })
      (record { clerk = worked; spawner = after }) pump
      (ready_asked old asked (codes "ann") job a.0 a.1 ready));
}

-- ---- rounds

more_refused : (r : Round) (rs : List Round)
    → refused_in (r ∷ rs) ≡ refused_in (r ∷ []) + refused_in rs
more_refused r rs =
    let rest : List Answer = flat_map (λ (x : Round). x.ann ∷ x.bob ∷ []) rs in
    ap length (filter-append is_refused (r.ann ∷ r.bob ∷ []) rest)
    ∙ length-append (filter is_refused (r.ann ∷ r.bob ∷ [])) (filter is_refused rest)

pub three_refused : (r s t : Round) (x y z : ℕ) → x ≡ refused_in (r ∷ []) → y ≡ refused_in (s ∷ [])
    → z ≡ refused_in (t ∷ []) → x + y + z ≡ refused_in (r ∷ s ∷ t ∷ [])
three_refused r s t x y z h k l =
    omega (arith, h, k, l, more_refused r (s ∷ t ∷ []), more_refused s (t ∷ []))
