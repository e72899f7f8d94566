-- What a door does: the callers of its line, one after another, and its end.
use Rattle.std.specs.Prelude.{◌≡◌, ◌⊎◌, ℕ, ℤ, true, false, List, [], ◌∷◌, Option}
use Rattle.rb_api.specs.declared.ended.Ended.{Ended}
use Rattle.rb_api.specs.declared.token.Token.{Token}
use Rattle.rb_causes.specs.Callers.{Callers}
use Rattle.rb_door.specs.Exchanges.{Exchange, Moments}
use Rattle.rb_door.specs.Guests.{Parting, NoneLeft, AskingFailed, TooMany}
use Rattle.rb_door.specs.Serving.{DoorSight, LineSight, ServesCaller}
use Rattle.rb_log.specs.Acted.{ActsAs}
use Rattle.rb_log.specs.Records.{Record}
use Rattle.rb_log.specs.Told.{Told}
use Rattle.rb_log.specs.declared.call.Call.TheVariants.{CloseDoor}
use Rattle.rb_serve.specs.Ends.{ends_by}
use Rattle.rb_serve.specs.declared.door_end.DoorEnd.{DoorEnd}
use Rattle.rb_serve.specs.declared.door_end.DoorEnd.TheVariants as end
use Rattle.rb_session.specs.Visits.{AsksCaller}
use Rattle.rb_wire.specs.Hearing.{nothing_pending}

-- ---- one caller

-- the exchanges with a caller, and how they ended
pub record Conversation : Type 0 where
  pub exchanges : List Exchange
  pub said : Ended

-- a clerk and the callers of a line, with nothing in the buffer
abbrev pub at_start : Told → Option Callers → DoorSight
at_start clerk callers = record {
  clerk = clerk;
  line = record { callers = callers; pending = nothing_pending };
}

-- The line had a caller, and these are all exchanges with it.
pub record HasConversed (may_be : Moments) (tokens : List Token) (old new : Told)
    (line line' : Option Callers) (v : Conversation) : Type 0 where
  pub asked : Option Callers
  pub left : LineSight
  pub asks : AsksCaller true line asked
  pub served : ServesCaller may_be tokens (at_start old asked)
      (record { clerk = new; line = left }) v.said
  pub exchanges : served.exchanges ≡ v.exchanges
  pub line_is : line' ≡ left.callers

-- ---- all of them

-- one conversation after another
abbrev pub HaveConversed : Moments → List Token → Told → Told → Option Callers → Option Callers
    → List Conversation → Type 0
HaveConversed may_be tokens old new line line' [] = (new ≡ old) × (line' ≡ line)
HaveConversed may_be tokens old new line line' (v ∷ vs) =
    (mid : Told) × (between : Option Callers)
    × HasConversed may_be tokens old mid line between v
    × HaveConversed may_be tokens mid new between line' vs

-- and then the line had no caller left, or failed when it was asked for one
abbrev pub IsParted : Option Callers → Option Callers → Parting → Type 0
IsParted line line' NoneLeft = AsksCaller false line line'
IsParted line line' AskingFailed = line' ≡ line
IsParted line line' TooMany = ⊥

-- how the callers ended: the worst of it
abbrev pub ends_after : DoorEnd → List Conversation → DoorEnd
ends_after before [] = before
ends_after before (v ∷ vs) = ends_after (ends_by v.said before) vs

abbrev pub parted_end : Parting → DoorEnd → DoorEnd
parted_end AskingFailed before = end.Failed
parted_end other before = before

-- The callers of the line, to the last.
pub record ServesLine (may_be : Moments) (tokens : List Token) (old new : Told)
    (line line' : Option Callers) (said : DoorEnd) : Type 0 where
  pub conversations : List Conversation
  pub parting : Parting
  pub between : Option Callers
  pub served : HaveConversed may_be tokens old new line between conversations
  pub parted : IsParted between line' parting
  pub told : said ≡ parted_end parting (ends_after end.Well conversations)

-- or memory was wanting before the first was asked for
pub record ServesNone (old new : Told) (line line' : Option Callers) (said : DoorEnd)
    : Type 0 where
  pub clerk : new ≡ old
  pub callers : line' ≡ line
  pub told : said ≡ end.Wanting

-- ---- the end

-- the door was closed, at a moment of the clock
pub record Closes (may_be : Moments) (door : ℕ) (old new : Told) (r : Record) : Type 0 where
  pub at : ℤ
  pub moment : may_be at
  pub asked : r.call ≡ CloseDoor door at
  pub acts : ActsAs old new r

-- All that a door does: whether its callers were served or not, it is closed behind them.
pub record IsDoor (may_be : Moments) (tokens : List Token) (door : ℕ) (old new : Told)
    (line line' : Option Callers) (said : DoorEnd) : Type 0 where
  pub served : Told
  pub line_served : ServesLine may_be tokens old served line line' said
      ⊎ ServesNone old served line line' said
  pub close : Record
  pub closes : Closes may_be door served new close
