-- What stays of a clerk's rights while it is pumped.
use Rattle.std.proofs.Common.{◌≡◌, ◌∙◌, ℕ, ℤ, List, [], ◌∷◌, Contains, Option, ap, refl, sym, subst}
use Rattle.rb_log.specs.Acted.{Acted}
use Rattle.rb_log.specs.Legal.{Rights}
use Rattle.rb_log.specs.Records.{Record}
use Rattle.rb_log.specs.Told.{Told}
use Rattle.rb_work.specs.Pumping.{HasPumped}
use Rattle.rb_work.specs.Works.{Outside}
use Rattle.rb_work.specs.declared.pumped.Pumped.{Pumped}
use Rattle.rb_session.specs.Visits.{Pump, PumpsAs}
use Rattle.rb_door.specs.Standing.{GoesOn}
use Rattle.rb_door.proofs.Goings.{GrowsOn, acts_grows_on, grows_on_refl, grows_on_then}

-- each record goes on from the one before it
pub acted_grows_on : (rs : List Record) (old new : Told) → Acted old new rs → GrowsOn old new
acted_grows_on [] old new acted = subst (GrowsOn old) (sym acted) (grows_on_refl old)
acted_grows_on (r ∷ rs) old new acted =
    grows_on_then old acted.0 new (acts_grows_on old acted.0 r.call r.answer acted.1.acts)
    (acted_grows_on rs acted.0 new acted.2)

pub pumped_goes_on : (may_be : ℤ → Type 0) (worker : ℕ) (limit : Option ℕ) (old new : Outside)
    (said : Pumped) → HasPumped may_be worker limit old new said → GoesOn old.clerk new.clerk
pumped_goes_on may_be worker limit old new said pumped =
    let grows =
    grows_on_then old.clerk pumped.mid new.clerk
    (acted_grows_on pumped.ticks old.clerk pumped.mid pumped.ticked.acted)
    (acted_grows_on _ pumped.mid new.clerk pumped.worked.acted) in
    record {
      log = grows.log;
      room = grows.room;
      workers = ap (λ (r : Rights). r.workers) pumped.worked.rights
          ∙ ap (λ (r : Rights). r.workers) pumped.ticked.rights;
      doors = ap (λ (r : Rights). r.doors) pumped.worked.rights
          ∙ ap (λ (r : Rights). r.doors) pumped.ticked.rights;
      faults = grows.faults;
      who = grows.who;
    }

-- a worker stays
pub worker_stays : (old new : Told) → GoesOn old new → (w : ℕ) → Contains old.rights.workers w
    → Contains new.rights.workers w
worker_stays old new goes w there = subst (λ ws. Contains ws w) (sym goes.workers) there

pub door_stays : (old new : Told) → GoesOn old new → (d : ℕ) → Contains old.rights.doors d
    → Contains new.rights.doors d
door_stays old new goes d there = subst (λ ds. Contains ds d) (sym goes.doors) there

-- a pump as data
abbrev pub pump_told : (may_be : ℤ → Type 0) (limit : Option ℕ) (old new : Outside) (said : Pumped)
    → HasPumped may_be 0 limit old new said
    → (p : Pump) × PumpsAs may_be limit old new p × (p.said ≡ said)
pump_told may_be limit old new said h = (
  record { ticks = h.ticks; works = h.works; last = h.last; said = said },
  record { pumped = h; ticks = refl; works = refl; last = refl },
  refl,
)
