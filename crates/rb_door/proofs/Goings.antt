-- What stays of a clerk's rights, call by call.
use Rattle.std.proofs.Common.{◌≡◌, ◌∙◌, ◌≤◌, false, [], ◌++◌, refl, ap, sym, append_assoc, append-nil, arith}
use Rattle.rb_log.specs.Legal.{Rights}
use Rattle.rb_log.specs.Told.{Told, Acts, IsBeginning, rights_after}
use Rattle.rb_log.specs.declared.answer.Answer.{Answer}
use Rattle.rb_log.specs.declared.call.Call.{Call}
use Rattle.rb_log.specs.declared.call.Call.TheVariants as call
use Rattle.rb_door.specs.Standing.{GoesOn, ends_door}

begins_then : (a b c : Told) → IsBeginning a.log b.log → IsBeginning b.log c.log
    → IsBeginning a.log c.log
begins_then a b c f g = (
  f.0 ++ g.0,
  g.1 ∙ ap (λ rows. rows ++ g.0) f.1 ∙ append_assoc a.log f.0 g.0,
)

pub goes_on_refl : (t : Told) → GoesOn t t
goes_on_refl t = record {
  log = ([], sym (append-nil t.log));
  room = refl;
  workers = refl;
  doors = refl;
  faults = omega arith;
  who = refl;
}

pub goes_on_then : (a b c : Told) → GoesOn a b → GoesOn b c → GoesOn a c
goes_on_then a b c f g = record {
  log = begins_then a b c f.log g.log;
  room = g.room ∙ f.room;
  workers = g.workers ∙ f.workers;
  doors = g.doors ∙ f.doors;
  faults = omega (arith, f.faults, g.faults);
  who = g.who ∙ f.who;
}

-- the log, the room, the count of faults and which clerk it is alone
pub record GrowsOn (old new : Told) : Type 0 where
  pub log : IsBeginning old.log new.log
  pub room : new.room ≡ old.room
  pub faults : old.faults ≤ new.faults
  pub who : new.who ≡ old.who

pub grows_on_refl : (t : Told) → GrowsOn t t
grows_on_refl t =
    record { log = ([], sym (append-nil t.log)); room = refl; faults = omega arith; who = refl }

pub grows_on_then : (a b c : Told) → GrowsOn a b → GrowsOn b c → GrowsOn a c
grows_on_then a b c f g = record {
  log = begins_then a b c f.log g.log;
  room = g.room ∙ f.room;
  faults = omega (arith, f.faults, g.faults);
  who = g.who ∙ f.who;
}

pub acts_grows_on : (old new : Told) (c : Call) (a : Answer) → Acts old new c a
    → GrowsOn old new
acts_grows_on old new c a acts =
    record { log = acts.log; room = acts.room; faults = acts.faults; who = acts.who }

workers_stay : (c : Call) (a : Answer) (rights : Rights)
    → (rights_after c a rights).workers ≡ rights.workers
workers_stay (call.Report done at) a rights = refl
workers_stay (call.CloseDoor door at) a rights = refl
workers_stay other a rights = refl

doors_stay : (c : Call) (a : Answer) (rights : Rights) → ends_door c ≡ false
    → (rights_after c a rights).doors ≡ rights.doors
doors_stay (call.Report done at) a rights h = refl
doors_stay (call.CloseDoor door at) a rights h = absurd (grind (arith, h))
doors_stay other a rights h = refl

-- the workers stay with each call
pub acts_keep_workers : (old new : Told) (c : Call) (a : Answer) → Acts old new c a
    → new.rights.workers ≡ old.rights.workers
acts_keep_workers old new c a acts =
    ap (λ (r : Rights). r.workers) acts.rights ∙ workers_stay c a old.rights

pub acts_goes_on : (old new : Told) (c : Call) (a : Answer) → ends_door c ≡ false
    → Acts old new c a → GoesOn old new
acts_goes_on old new c a stays acts = record {
  log = acts.log;
  room = acts.room;
  workers = acts_keep_workers old new c a acts;
  doors = ap (λ (r : Rights). r.doors) acts.rights ∙ doors_stay c a old.rights stays;
  faults = acts.faults;
  who = acts.who;
}
