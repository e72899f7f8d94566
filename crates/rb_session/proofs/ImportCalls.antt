-- The import of a document, as a call of a clerk.
use Rattle.std.proofs.Common.{◌≡◌, ℤ, ℕ, List, true, false, refl, sym, subst}
use Rattle.rb_acl.specs.declared.policy.Caller.{Caller}
use Rattle.rb_causes.specs.Moments.{IsMoment}
use Rattle.rb_log.specs.Legal.{Rights, MayAsk}
use Rattle.rb_log.specs.Rows.{is_clean_caller}
use Rattle.rb_log.specs.Told.{Told, Acts}
use Rattle.rb_log.specs.declared.answer.Answer.{Answer}
use Rattle.rb_log.specs.declared.call.Call.{Call}
use Rattle.rb_api.specs.Replies.{IsNoTask}
use Rattle.rb_door.proofs.Goings.{acts_goes_on}
use Rattle.rb_door.proofs.NoTask.{acts_no_task}
use Rattle.rb_door.specs.Standing.{GoesOn, ends_door}
use Rattle.rb_session.proofs.ImportAnswers.{IsHouseCall, house_gives_no_task}
use Rattle.rb_session.specs.Documents.{import_at}
use Rattle.rb_session.specs.declared.place.Place.{Place}
use Rattle.rb_session.specs.declared.place.Place.TheVariants.{Zone, Policy, Nodes, Jobs}

may_by_place : (rights : Rights) (owner : Caller) (place : Place) (body : List ℕ) (at : ℤ)
    → is_clean_caller owner ≡ true → IsMoment at → MayAsk rights (import_at owner place body at)
may_by_place rights owner (Zone file name rule) body at clean moment = moment
may_by_place rights owner (Policy file) body at clean moment = (moment, clean)
may_by_place rights owner (Nodes project file) body at clean moment = moment
may_by_place rights owner (Jobs project file) body at clean moment = (moment, clean)

house_by_place : (owner : Caller) (place : Place) (body : List ℕ) (at : ℤ)
    → IsHouseCall (import_at owner place body at)
house_by_place owner (Zone file name rule) body at = tt
house_by_place owner (Policy file) body at = tt
house_by_place owner (Nodes project file) body at = tt
house_by_place owner (Jobs project file) body at = tt

no_door_by_place : (owner : Caller) (place : Place) (body : List ℕ) (at : ℤ)
    → ends_door (import_at owner place body at) ≡ false
no_door_by_place owner (Zone file name rule) body at = refl
no_door_by_place owner (Policy file) body at = refl
no_door_by_place owner (Nodes project file) body at = refl
no_door_by_place owner (Jobs project file) body at = refl

module _ (owner : Caller) (place : Place) (body : List ℕ) (at : ℤ) (c : Call)
    (is : c ≡ import_at owner place body at) where
  pub import_may : (rights : Rights) → is_clean_caller owner ≡ true → IsMoment at
      → MayAsk rights c
  import_may rights clean moment =
      subst (MayAsk rights) (sym is) (may_by_place rights owner place body at clean moment)

  pub import_no_task : (old new : Told) (a : Answer) → Acts old new c a → IsNoTask a
  import_no_task old new a acts =
      acts_no_task old new c a acts
      (house_gives_no_task c (subst IsHouseCall (sym is) (house_by_place owner place body at)))

  pub import_goes_on : (old new : Told) (a : Answer) → Acts old new c a → GoesOn old new
  import_goes_on old new a acts =
      acts_goes_on old new c a
      (subst (λ x. ends_door x ≡ false) (sym is) (no_door_by_place owner place body at)) acts
