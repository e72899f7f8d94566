-- The callers of a line, served one after another.
use Rattle.std.specs.Prelude.{◌≡◌, ℕ, List, Option}
use Rattle.rb_api.specs.declared.token.Token.{Token}
use Rattle.rb_door.specs.Exchanges.{Moments}
use Rattle.rb_door.specs.Guests.{Parting}
use Rattle.rb_session.specs.Statuses.{callers_end}
use Rattle.rb_session.specs.Visits.{Scene, Stay, ServesAll}
use Rattle.rb_session.specs.declared.farewell.CallersEnd.{CallersEnd}

-- The callers were asked for and served to the end, of which this is told.
pub record ServesLine (may_be : Moments) (tokens : List Token) (limit : Option ℕ)
    (old new : Scene) (told : CallersEnd) : Type 0 where
  pub stays : List Stay
  pub parting : Parting
  pub served : ServesAll may_be tokens limit 0 old new stays parting
  pub is_told : told ≡ callers_end stays parting
