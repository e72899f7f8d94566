-- How far a server came.
use Rattle.std.proofs.Common.{◌≡◌, ℕ, ℤ, List, Option, Result, inl, inr, subst}
use Rattle.rb_api.specs.declared.token.Token.{Token}
use Rattle.rb_causes.specs.declared.row.Row.{Row}
use Rattle.rb_desk.specs.DeskState.{DeskState}
use Rattle.rb_desk.specs.Opening.{IsOpenCause, Opens, asked_of}
use Rattle.rb_desk.specs.declared.open_err.OpenErr.{OpenErr}
use Rattle.rb_door.specs.Exchanges.{Moments}
use Rattle.rb_causes.specs.Callers.{Callers}
use Rattle.rb_causes.specs.Spawners.{ShownRuns}
use Rattle.rb_manifest.specs.declared.manifest.Manifest.{Manifest}
use Rattle.rb_serve.specs.Crews.{CrewSight, Happened, IfCrew, Opened, OpensOrNot, Reach, Unopened, Wanting}
use Rattle.rb_serve.specs.Roles.{Senses, senses_of}
use Rattle.rb_session.specs.Fetching.{AllHad}
use Rattle.rb_session.specs.declared.place.Document.{Document}

-- the same is asked where doors, workers and the moment are the same
pub opens_is : {K : Type 0} (rows : K → Option (List Row)) (keeper : K) (d : DeskState K)
    (doors doors' workers workers' draw room : ℕ) (at at' : ℤ) → doors ≡ doors'
    → workers ≡ workers' → at ≡ at' → Opens rows keeper (asked_of doors workers draw room at) d
    → Opens rows keeper (asked_of doors' workers' draw room at') d
opens_is rows keeper d doors doors' workers workers' draw room at at' a b moment h =
    subst (λ n. Opens rows keeper (asked_of n workers' draw room at') d) a
    (subst (λ n. Opens rows keeper (asked_of doors n draw room at') d) b
    (subst (λ m. Opens rows keeper (asked_of doors workers draw room m) d) moment h))

pub asked_is : {K : Type 0} (rows : K → Option (List Row)) (faults : K → ℕ) (old new : K)
    (e : OpenErr) (doors doors' workers workers' draw room : ℕ) (at at' : ℤ) → doors ≡ doors'
    → workers ≡ workers' → at ≡ at'
    → IsOpenCause rows faults old new (asked_of doors workers draw room at) e
    → IsOpenCause rows faults old new (asked_of doors' workers' draw room at') e
asked_is rows faults old new e doors doors' workers workers' draw room at at' a b moment h =
    subst (λ n. IsOpenCause rows faults old new (asked_of n workers' draw room at') e) a
    (subst (λ n. IsOpenCause rows faults old new (asked_of doors n draw room at') e) b
    (subst (λ m. IsOpenCause rows faults old new (asked_of doors workers draw room m) e) moment h))

-- behind the files
module _ {L S K : Type 0} (rows : K → Option (List Row)) (faults : K → ℕ) (may_be : Moments)
    (callers : L → Option Callers) (line_faults : L → ℕ) (shown : S → ShownRuns)
    (words : List (List ℕ)) (draw : ℕ) (keeper : K) (given : Result (DeskState K) K)
    (old new : CrewSight L S) (status : ℕ) (m : Manifest) (documents : List Document)
    (had : IfCrew words (λ name. AllHad old.shelf.files name m documents)) where
  abbrev senses : List Token → Senses L S
  senses tokens = senses_of may_be tokens callers line_faults shown

  pub reached : OpensOrNot rows faults (senses m.tokens) m.owner documents draw keeper given
      old.lines new.lines old.spawners new.spawners status old.sink new.sink
      → (reach : Reach) × Happened rows faults senses words draw keeper given old new status reach
  reached (inl h) = (Wanting, h)
  reached (inr (inl h)) = (Unopened h.0, h.1)
  reached (inr (inr h)) = (Opened m documents, (had, h))
