-- What each part of a server did, over the log that is there at the end.
use Rattle.std.specs.Prelude.{◌≡◌, ◌⊎◌, ℕ, ℤ, List, [], ◌∷◌, ◌++◌, All, Contains, Option}
use Rattle.std.specs.List.{flat_map}
use Rattle.rb_api.specs.declared.token.Token.{Token}
use Rattle.rb_causes.specs.Callers.{Callers}
use Rattle.rb_causes.specs.Outside.{gained}
use Rattle.rb_causes.specs.Spawners.{ShownRuns}
use Rattle.rb_causes.specs.declared.row.Row.{Row}
use Rattle.rb_door.specs.Doors.{AreTrue}
use Rattle.rb_door.specs.Exchanges.{Moments, turns_of}
use Rattle.rb_door.specs.Guests.{AreServed, Guest, Parting}
use Rattle.rb_log.specs.Programs.{programs_at}
use Rattle.rb_log.specs.LogState.{log_state}
use Rattle.rb_log.specs.Records.{Record, before_record}
use Rattle.rb_log.specs.Told.{added}
use Rattle.rb_log.specs.declared.call.Call.TheVariants.{CloseDoor}
use Rattle.rb_serve.specs.Roles.{Senses}
use Rattle.rb_serve.specs.declared.role.Post.{Post}
use Rattle.rb_serve.specs.declared.role.Post.TheVariants.{Door, Worker}
use Rattle.rb_serve.specs.declared.role.Role.{Role}
use Rattle.rb_session.specs.Laws.{IsGuestServed}
use Rattle.rb_session_laws.specs.Statuses.{EndsWith, IsClosedClaim}
use Rattle.rb_work.specs.declared.pumped.Pumped.{Pumped}
use Rattle.rb_work.specs.declared.pumped.Pumped.TheVariants as pumped

-- ---- a door

-- the desk calls of these callers, in order
abbrev pub guest_records : List Guest → List Record
guest_records guests = flat_map (λ g. flat_map turns_of g.exchanges) guests

-- the callers of the line were asked for and served in order; or none was, for want of memory
abbrev pub AreAskedFor : Option Callers → Option Callers → List Guest → Type 0
AreAskedFor line line' guests =
    ((parting : Parting) × AreServed line line' guests parting) ⊎ ((guests ≡ []) × (line' ≡ line))

-- Each caller got what the rules give at the places of its requests in this log, and then the door
-- was closed, which was open. All that was asked for it are the calls of its callers, in order, and
-- the closing.
pub record IsDoorOver (may_be : Moments) (tokens : List Token) (log : List Row) (room door : ℕ)
    (line line' : Option Callers) (records : List Record) : Type 0 where
  pub guests : List Guest
  pub asked_for : AreAskedFor line line' guests
  pub each : All (IsGuestServed may_be tokens log room) guests
  pub at : ℤ
  pub moment : may_be at
  pub close : Record
  pub closes : close.call ≡ CloseDoor door at
  pub was_open : Contains (log_state (before_record log close)).doors door
  pub records_are : records ≡ guest_records guests ++ close ∷ []

-- ---- a worker

-- the last of these is a Claim that was answered Closed
abbrev pub EndsClosed : List Record → Type 0
EndsClosed records = (r : Record) × EndsWith records r × IsClosedClaim r

-- What its spawner gained are the programs of the Begin rows of its records, in order, each with
-- how it ended in this log. Where it says that its desk is closed, so did its last Claim.
pub record IsWorkerOver (log : List Row) (before after : ShownRuns) (said : Pumped)
    (records : List Record) : Type 0 where
  pub ran : after.runs ≡ gained before.runs (programs_at log (flat_map added records))
  pub over : said ≡ pumped.Closed → EndsClosed records

-- ---- any part

abbrev pub IsPartOver : {L S : Type 0} → Senses L S → List Row → ℕ → Post L S → Post L S
    → List Record → Type 0
IsPartOver senses log room (Door line buffer number e) (Door line' buffer' number' e') records =
    IsDoorOver senses.may_be senses.tokens log room number (senses.callers line)
    (senses.callers line') records
IsPartOver senses log room (Worker spawner number said) (Worker spawner' number' said') records =
    IsWorkerOver log (senses.shown spawner) (senses.shown spawner') said' records
IsPartOver senses log room before after records = ⊥

-- Each part with its records: they are true of the log, in order, and it did this.
abbrev pub ArePartsOver : {L S : Type 0} → Senses L S → List Row → ℕ → List (Role L S)
    → List (Role L S) → List (List Record) → Type 0
ArePartsOver senses log room [] [] [] = Unit {0}
ArePartsOver senses log room (r ∷ rs) (s ∷ ss) (records ∷ others) =
    AreTrue log room records × IsPartOver senses log room r.post s.post records
    × ArePartsOver senses log room rs ss others
ArePartsOver senses log room befores afters others = ⊥
