-- One log, to which all that a server was asked belongs.
use Rattle.std.specs.Prelude.{◌≡◌, ◌<◌, ◌≤◌, ◌-◌, ℕ, List, [], ◌∷◌, ◌++◌, length, get_or, All, Contains, None}
use Rattle.std.specs.List.{flat_map}
use Rattle.rb_acl.specs.declared.policy.Caller.{Caller}
use Rattle.rb_api.specs.declared.token.Token.{Token}
use Rattle.rb_board.specs.declared.view.Opening.{Opening}
use Rattle.rb_causes.specs.Sinks.{SinkState}
use Rattle.rb_causes.specs.declared.row.Row.{Row}
use Rattle.rb_desk.specs.DeskState.{DeskState}
use Rattle.rb_door.specs.Doors.{AreInOrder, AreTrue}
use Rattle.rb_log.specs.Records.{Record}
use Rattle.rb_log.specs.Told.{IsBeginning, added}
use Rattle.rb_serve.specs.Roles.{Senses, lines_of, spawners_of}
use Rattle.rb_serve.specs.Served.{ServesCrew}
use Rattle.rb_serve.specs.declared.role.Role.{Role}
use Rattle.rb_serve_laws.specs.Parts.{ArePartsOver}
use Rattle.rb_session.specs.Imports.{ImportsDocuments}
use Rattle.rb_session.specs.declared.place.Document.{Document}

-- the row of this number is one of these records'
abbrev pub IsRowOf : List (List Record) → ℕ → ℕ → Type 0
IsRowOf lists k n = Contains (flat_map added (get_or lists k [])) n

-- The rows behind the first ones are those of these lists of records: each row is of one list, and
-- of one alone, and no list has a row of before.
pub record AreRowsOf (first last : ℕ) (lists : List (List Record)) : Type 0 where
  pub every : (n : ℕ) → first < n → n ≤ last → (k : ℕ) × IsRowOf lists k n
  pub once : (j k n : ℕ) → IsRowOf lists j n → IsRowOf lists k n → j ≡ k
  pub behind : (k n : ℕ) → IsRowOf lists k n → (first < n) × (n ≤ last)

-- those of the last list
abbrev pub last_of : List (List Record) → List Record
last_of lists = get_or lists (length lists - 1) []

-- All of it is told by the one log: the imports; what each door and each worker did, each with a
-- line or a spawner; and nobody else added a row.
pub record HasOneLog {L S : Type 0} (senses : Senses L S) (owner : Caller)
    (documents : List Document) (opening : Opening) (log : List Row) (lines lines' : List L)
    (spawners spawners' : List S) : Type 0 where
  pub goes_on : IsBeginning opening.log log
  pub parts : List (Role L S)
  pub ends : List (Role L S)
  pub lines_are : (lines_of parts ≡ lines) × (lines' ≡ lines_of ends)
  pub spawners_are : (spawners_of parts ≡ spawners) × (spawners' ≡ spawners_of ends)
  pub imports : List Record
  pub imported : ImportsDocuments senses.may_be owner None documents imports
  pub imports_true : AreTrue log opening.room imports
  pub asked : List (List Record)
  pub over : ArePartsOver senses log opening.room parts ends asked
  pub rows : AreRowsOf (length opening.log) (length log) (imports ∷ asked)
  -- all of it comes behind the opening, and the last pass imported before it did anything else
  pub behind : All (AreInOrder (length opening.log)) (imports ∷ asked)
  pub imports_first : AreInOrder (length opening.log) (imports ++ last_of asked)

-- Whatever the interleaving of its threads: a server that served has one log.
abbrev pub ServersHaveOneLog : {K L S : Type 0} → (K → ℕ) → (List Token → Senses L S) → Type 0
ServersHaveOneLog {K} {L} {S} faults senses =
    (tokens : List Token) (owner : Caller) (documents : List Document) (opening : Opening)
    (lines lines' : List L) (spawners spawners' : List S) (desk : DeskState K) (status : ℕ)
    (sink sink' : SinkState)
    → ServesCrew faults (senses tokens) owner documents opening lines lines' spawners spawners'
    desk status sink sink'
    → HasOneLog (senses tokens) owner documents opening desk.log lines lines' spawners spawners'
