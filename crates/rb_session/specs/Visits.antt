-- The handlings of a session: a request is served, and then a pump works off what may start.
use Rattle.std.specs.Prelude.{
  ◌≡◌,
  ◌≤◌,
  ◌+◌,
  ℕ,
  Bool,
  true,
  false,
  List,
  [],
  ◌∷◌,
  ◌++◌,
  map,
  Option,
  Some,
  None,
  option_map,
  IfSome,
}
use Rattle.std.specs.List.{flat_map}
use Rattle.rb_causes.specs.Callers.{Callers, has_waiting, after_asking}
use Rattle.rb_causes.specs.Spawners.{ShownRuns}
use Rattle.rb_log.specs.Acted.{Acted}
use Rattle.rb_log.specs.Records.{Record}
use Rattle.rb_log.specs.Told.{Told}
use Rattle.rb_wire.specs.Hearing.{Pending, nothing_pending}
use Rattle.rb_work.specs.Pumping.{HasPumped}
use Rattle.rb_work.specs.Works.{Work, Outside, records_of}
use Rattle.rb_work.specs.declared.pumped.Pumped.{Pumped}
use Rattle.rb_api.specs.declared.token.Token.{Token}
use Rattle.rb_door.specs.Exchanges.{Moments, Exchange, IsExchange, is_request, turns_of}
use Rattle.rb_door.specs.Guests.{Parting, NoneLeft, AskingFailed, TooMany}
use Rattle.rb_door.specs.Serving.{LineSight, Converses, EndsAs}
use Rattle.rb_api.specs.declared.ended.Ended.{Ended}

-- ---- pumps

-- what a pump did, and what it said: its Ticks, and the works behind them
pub record Pump : Type 0 where
  pub ticks : List Record
  pub works : List Work
  pub last : List Record
  pub said : Pumped

abbrev pub pump_records : Pump → List Record
pump_records p = p.ticks ++ (flat_map records_of p.works ++ p.last)

-- this is what the pump of the one worker did, with this limit
pub record PumpsAs (may_be : Moments) (limit : Option ℕ) (old new : Outside) (p : Pump)
    : Type 0 where
  pub pumped : HasPumped may_be 0 limit old new p.said
  pub ticks : pumped.ticks ≡ p.ticks
  pub works : pumped.works ≡ p.works
  pub last : pumped.last ≡ p.last

abbrev pub PumpsBehind : Bool → Moments → Option ℕ → Outside → Outside → Option Pump → Type 0
PumpsBehind true may_be limit old new None = ⊥
PumpsBehind true may_be limit old new (Some p) = PumpsAs may_be limit old new p
PumpsBehind false may_be limit old new p = (p ≡ None) × (new ≡ old)

-- ---- handlings

-- what a session looks at: its desk and its programs, and its line
pub record Scene : Type 0 where
  pub outside : Outside
  pub line : LineSight

abbrev pub scene : Told → ShownRuns → Option Callers → Pending → Scene
scene clerk spawner callers pending =
    record {
      outside = record { clerk = clerk; spawner = spawner };
      line = record { callers = callers; pending = pending };
    }

-- an exchange with the caller, and the pump behind it, if there was one
pub record Handling : Type 0 where
  pub exchange : Exchange
  pub pump : Option Pump

abbrev pub pumped_if_any : Option Pump → List Record
pumped_if_any None = []
pumped_if_any (Some p) = pump_records p

abbrev pub handling_records : Handling → List Record
handling_records r = turns_of r.exchange ++ pumped_if_any r.pump

-- how this clerk and these programs stand
abbrev pub standing : Told → ShownRuns → Outside
standing clerk spawner = record { clerk = clerk; spawner = spawner }

-- One exchange; and behind each request a pump, whatever became of the reply. Nothing is pumped
-- behind the end of the input and behind a fault.
pub record Handles (may_be : Moments) (tokens : List Token) (limit : Option ℕ)
    (old new : Scene) (r : Handling) : Type 0 where
  pub is_one : IsExchange may_be tokens r.exchange
  pub line : Converses old.line new.line r.exchange
  pub between : Told
  pub clerk : Acted old.outside.clerk between (turns_of r.exchange)
  pub pump : PumpsBehind (is_request r.exchange.heard) may_be limit
      (standing between old.outside.spawner) new.outside r.pump

abbrev pub HandlesAll : Moments → List Token → Option ℕ → Scene → Scene → List Handling → Type 0
HandlesAll may_be tokens limit old new [] = new ≡ old
HandlesAll may_be tokens limit old new (r ∷ rs) =
    (mid : Scene) × Handles may_be tokens limit old mid r
    × HandlesAll may_be tokens limit mid new rs

-- ---- callers

-- a caller's handlings
pub record Stay : Type 0 where
  pub handlings : List Handling

abbrev pub stay_exchanges : Stay → List Exchange
stay_exchanges v = map (λ r. r.exchange) v.handlings

abbrev pub stay_records : Stay → List Record
stay_records v = flat_map handling_records v.handlings

-- All handlings of a caller, from an empty buffer to the last.
pub record ServesStay (may_be : Moments) (tokens : List Token) (limit : Option ℕ)
    (old new : Scene) (v : Stay) (said : Ended) : Type 0 where
  pub empty : old.line.pending ≡ nothing_pending
  pub handlings : HandlesAll may_be tokens limit old new v.handlings
  pub ends : EndsAs said (stay_exchanges v)

-- a session serves at most so many callers
abbrev pub most_callers : ℕ
most_callers = 1000000

-- the line was asked for a caller, and there was one or none, as is told
abbrev pub AsksCaller : Bool → Option Callers → Option Callers → Type 0
AsksCaller there old new =
    IfSome old (λ c. has_waiting c ≡ there) × (new ≡ option_map after_asking old)

abbrev pub PartsSo : ℕ → Option Callers → Option Callers → Parting → Type 0
PartsSo served old new NoneLeft = AsksCaller false old new × (served ≤ most_callers)
PartsSo served old new AskingFailed = (new ≡ old) × (served ≤ most_callers)
PartsSo served old new TooMany = AsksCaller true old new × (served ≡ most_callers)

-- what the callers of the line looked like once more had been asked for
abbrev pub with_callers : Scene → Option Callers → Scene
with_callers scene callers =
    record scene { line = record { callers = callers; pending = nothing_pending } }

-- Callers were asked for and served one after another, and then the asking ended so. So many were
-- served before them.
abbrev pub ServesAll : Moments → List Token → Option ℕ → ℕ → Scene → Scene → List Stay → Parting
    → Type 0
ServesAll may_be tokens limit served old new [] parting =
    PartsSo served old.line.callers new.line.callers parting × (new.outside ≡ old.outside)
ServesAll may_be tokens limit served old new (v ∷ vs) parting =
    (asked : Option Callers) × (mid : Scene) × (said : Ended)
    × AsksCaller true old.line.callers asked
    × ServesStay may_be tokens limit (with_callers old asked) mid v said
    × ServesAll may_be tokens limit (served + 1) mid new vs parting
