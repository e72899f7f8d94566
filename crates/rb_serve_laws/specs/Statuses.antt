-- What status 0 means of a server.
use Rattle.std.specs.Prelude.{◌≡◌, ◌<◌, ℕ, List, length, All}
use Rattle.rb_acl.specs.declared.policy.Caller.{Caller}
use Rattle.rb_api.specs.declared.token.Token.{Token}
use Rattle.rb_board.specs.declared.view.Opening.{Opening}
use Rattle.rb_causes.specs.Sinks.{SinkState}
use Rattle.rb_desk.specs.DeskState.{DeskState}
use Rattle.rb_serve.specs.Roles.{Senses}
use Rattle.rb_serve.specs.Served.{ServesCrew}
use Rattle.rb_serve.specs.declared.door_end.DoorEnd.TheVariants as end
use Rattle.rb_serve.specs.declared.role.Post.{Post}
use Rattle.rb_serve.specs.declared.role.Post.TheVariants.{Door, Worker}
use Rattle.rb_serve.specs.declared.role.Role.{Role}
use Rattle.rb_session.specs.declared.place.Document.{Document}
use Rattle.rb_session_laws.specs.Statuses.{HasEnded}
use Rattle.rb_work.specs.declared.pumped.Pumped.TheVariants as pumped

-- Of a door no exchange failed or wanted memory, and nobody was left on its line; and the last that
-- a worker heard is that its desk is closed: all doors are, and all that was begun has ended.
abbrev pub IsWellPlayed : {L S : Type 0} → Post L S → Type 0
IsWellPlayed (Door line buffer number e) = e ≡ end.Well
IsWellPlayed (Worker spawner number said) = said ≡ pumped.Closed

-- All parts ended well, and the keeper holds the whole log.
pub record IsWell {K L S : Type 0} (ends : List (Role L S)) (desk : DeskState K) : Type 0 where
  pub played : All (λ r. IsWellPlayed r.post) ends
  pub saved : desk.saved ≡ length desk.log

-- 0 is told only of a server of which all parts ended well, and all is kept.
abbrev pub ZeroIsWell : {K L S : Type 0} → (K → ℕ) → (List Token → Senses L S) → Type 0
ZeroIsWell {K} {L} {S} faults senses =
    (tokens : List Token) (owner : Caller) (documents : List Document) (opening : Opening)
    (lines lines' : List L) (spawners spawners' : List S) (desk : DeskState K) (status : ℕ)
    (sink sink' : SinkState)
    (h : ServesCrew faults (senses tokens) owner documents opening lines lines' spawners
    spawners' desk status sink sink')
    → status ≡ 0 → IsWell h.all.served.played.ends desk

-- And then no door is open at the end of the log, and nothing is running; where a worker worked.
abbrev pub ZeroHasEnded : {K L S : Type 0} → (K → ℕ) → (List Token → Senses L S) → Type 0
ZeroHasEnded {K} {L} {S} faults senses =
    (tokens : List Token) (owner : Caller) (documents : List Document) (opening : Opening)
    (lines lines' : List L) (spawners spawners' : List S) (desk : DeskState K) (status : ℕ)
    (sink sink' : SinkState)
    → ServesCrew faults (senses tokens) owner documents opening lines lines' spawners spawners'
    desk status sink sink'
    → status ≡ 0 → 0 < length spawners → HasEnded desk.log
