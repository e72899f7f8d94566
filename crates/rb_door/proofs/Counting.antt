-- A request that leaves its connection open is one of the first of its caller.
use Rattle.std.proofs.Common.{◌≡◌, ◌∙◌, ◌<◌, ◌+◌, ◌-◌, ℕ, Bool, true, false, ◌||◌, nat_le, List, [], ◌∷◌, length, Option, Some, None, refl, ap, sym, subst, arith}
use Rattle.rb_api.specs.declared.ended.Ended.{Ended}
use Rattle.rb_api.specs.declared.ended.Ended.TheVariants.{More}
use Rattle.std.proofs.lemmas.Bool.Decides.{nat_tests}
use Rattle.rb_causes.specs.Outside.{next_call}
use Rattle.httparse.specs.Grammar.{RequestHead}
use Rattle.rb_wire.specs.Heads.{Front, closes}
use Rattle.rb_wire.specs.Lengths.{request_fault}
use Rattle.rb_wire.specs.Requests.{ComesNext, Next, Breaks, Holds, Nothing, most_requests, next_of, next_unless}
use Rattle.rb_wire.specs.declared.heard.Request.{Request}
use Rattle.rb_wire.specs.declared.heard.WireFault.{WireFault}

-- whether what comes closes
abbrev closing : Next → Bool
closing Nothing = true
closing (Breaks fault) = true
closing (Holds r rest) = r.close

or_second : (a b : Bool) → (a || b) ≡ false → b ≡ false
or_second true b h = absurd (grind (arith, h))
or_second false b h = h

open_unless : (o : Option WireFault) (given : ℕ) (head : RequestHead) (behind : List ℕ)
    → closing (next_unless o given head behind) ≡ false
    → nat_le most_requests (next_call given) ≡ false
open_unless (Some fault) given head behind h = absurd (grind (arith, h))
open_unless None given head behind h = or_second (closes head) _ h

open_by : (given : ℕ) (bytes : List ℕ) (front : Option Front)
    → closing (next_of given bytes front) ≡ false
    → nat_le most_requests (next_call given) ≡ false
open_by given [] front h = absurd (grind (arith, h))
open_by given (b ∷ bytes) None h = absurd (grind (arith, h))
open_by given (b ∷ bytes) (Some front) h =
    open_unless (request_fault front.head (length front.behind)) given front.head front.behind h

below : (given : ℕ) → nat_le most_requests (next_call given) ≡ false
    → next_call given < most_requests
below given h = grind (arith, nat_tests)

pub open_is_early : (given : ℕ) (bytes : List ℕ) (r : Request) (rest : List ℕ)
    → ComesNext given bytes (Holds r rest) → r.close ≡ false → next_call given < most_requests
open_is_early given bytes r rest comes stays =
    below given (open_by given bytes comes.front (sym (ap closing comes.says) ∙ stays))

-- ---- a caller comes to an end

-- how often more may come behind an exchange that ended so
abbrev pub left_behind : Ended → ℕ → ℕ
left_behind More given = (most_requests - given) + 1
left_behind other given = 0

pub fewer_left : (said was : Ended) (given given' : ℕ) → was ≡ More
    → (said ≡ More → (given < given') × (given' < most_requests))
    → left_behind said given' < left_behind was given
fewer_left said was given given' is more =
    subst (λ e. left_behind said given' < left_behind e given) (sym is)
    (fewer said given given' more)
  where
    fewer : (said : Ended) (given given' : ℕ)
        → (said ≡ More → (given < given') × (given' < most_requests))
        → left_behind said given' < left_behind More given
    fewer More given given' more = let h = more refl in omega (arith, h.0, h.1)
    fewer other given given' more = omega arith
