-- A worker's pumps, one after another.
use Rattle.std.proofs.Common.{◌≡◌, ◌∙◌, ◌≤◌, ℕ, ℤ, List, [], ◌∷◌, Contains, true, false, Some, ap, sym, subst, refl, arith, inl, inr}
use Rattle.rb_log.specs.Legal.{Rights}
use Rattle.rb_work.specs.Works.{Outside}
use Rattle.rb_work.specs.Pumping.{HasPumped}
use Rattle.rb_work.specs.Working.{AllGoOn, HasWorkedOn, HavePumped, bad_by, bad_run, is_bad}
use Rattle.rb_work.proofs.Records.{acted_faults, acted_who}
use Rattle.rb_work.specs.declared.pumped.Pumped.{Pumped}
use Rattle.rb_work.specs.declared.pumped.Pumped.TheVariants as pumped

-- the pumps so far: none ended it
abbrev pub GoesOn : (ℤ → Type 0) → ℕ → Outside → Outside → ℕ → Type 0
GoesOn may_be worker old now bad =
    (pumps : List Pumped) × HavePumped may_be worker old now pumps × AllGoOn pumps
    × (bad ≡ bad_run pumps) × (bad ≤ 15)

pub begins : (may_be : ℤ → Type 0) (worker : ℕ) (old : Outside) → GoesOn may_be worker old old 0
begins may_be worker old = ([], refl, tt, refl, omega arith)

module _ (may_be : ℤ → Type 0) (worker : ℕ) (old now next : Outside) (bad : ℕ) (said : Pumped)
    (so_far : GoesOn may_be worker old now bad)
    (one : HasPumped may_be worker (Some 1) now next said) where
  pub ended_closed : said ≡ pumped.Closed → HasWorkedOn may_be worker old next said
  ended_closed is = record {
    earlier = so_far.0;
    pumps = (now, so_far.1, one);
    on = so_far.2;
    last = inl is;
  }

  run_is : (more : ℕ) → more ≡ bad_by (is_bad said) bad → bad_run (said ∷ so_far.0) ≡ more
  run_is more is = sym (is ∙ ap (bad_by (is_bad said)) so_far.3)

  pub ended_bad : (more : ℕ) → more ≡ bad_by (is_bad said) bad → more ≡ 16
      → HasWorkedOn may_be worker old next said
  ended_bad more is most = record {
    earlier = so_far.0;
    pumps = (now, so_far.1, one);
    on = so_far.2;
    last = inr (run_is more is ∙ most);
  }

  bounded : (b : _) (more : ℕ) → more ≡ bad_by b bad → (more ≡ 16 → ⊥) → more ≤ 15
  bounded b more is not = small b is
    where
      small : (b : _) → more ≡ bad_by b bad → more ≤ 15
      small true e =
          let l = so_far.4 in omega (arith, l, e, not)
      small false e = omega (arith, e)

  pub goes_on : (more : ℕ) → more ≡ bad_by (is_bad said) bad → (said ≡ pumped.Closed → ⊥)
      → (more ≡ 16 → ⊥) → GoesOn may_be worker old next more
  goes_on more is unclosed not =
      let small : more ≤ 15 = bounded (is_bad said) more is not in (
        said ∷ so_far.0,
        (now, so_far.1, one),
        (unclosed, subst (λ n. n ≤ 15) (sym (run_is more is)) small, so_far.2),
        sym (run_is more is),
        small,
      )

-- no fault of the clerk's keeper is taken back
pub pumped_faults : (may_be : ℤ → Type 0) (worker : ℕ) (now next : Outside) (said : Pumped)
    → HasPumped may_be worker (Some 1) now next said → now.clerk.faults ≤ next.clerk.faults
pumped_faults may_be worker now next said one =
    let ticks = acted_faults one.ticks now.clerk one.mid one.ticked.acted in
    let works = acted_faults _ one.mid next.clerk one.worked.acted in
    omega (arith, ticks, works)

-- the clerk stays the same one
pub pumped_who : (may_be : ℤ → Type 0) (worker : ℕ) (now next : Outside) (said : Pumped)
    → HasPumped may_be worker (Some 1) now next said → next.clerk.who ≡ now.clerk.who
pumped_who may_be worker now next said one =
    acted_who _ one.mid next.clerk one.worked.acted
    ∙ acted_who one.ticks now.clerk one.mid one.ticked.acted

-- a worker stays one of the clerk's
pub still_worker : (may_be : ℤ → Type 0) (worker : ℕ) (now next : Outside) (said : Pumped)
    → HasPumped may_be worker (Some 1) now next said
    → Contains now.clerk.rights.workers worker → Contains next.clerk.rights.workers worker
still_worker may_be worker now next said one h =
    subst (λ (ws : List ℕ). Contains ws worker)
    (sym (ap (λ (r : Rights). r.workers) one.worked.rights
    ∙ ap (λ (r : Rights). r.workers) one.ticked.rights)) h
