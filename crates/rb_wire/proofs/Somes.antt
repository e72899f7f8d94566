-- No bytes are without a list of requests.
use Rattle.std.proofs.Common.{◌≡◌, ◌∙◌, ◌≤◌, ◌+◌, ◌||◌, ℕ, zero, suc, Bool, true, false, nat_le, length, List, [], ◌∷◌, Option, Some, None, ap, sym, subst, refl, arith}
use Rattle.std.proofs.lemmas.Bool.Decides.{nat_tests}
use Rattle.httparse.specs.Grammar.{RequestHead}
use Rattle.rb_causes.specs.Outside.{next_call}
use Rattle.rb_wire.specs.Heads.{Front, IsFront, closes}
use Rattle.rb_wire.specs.Laws.{RequestsAreSome}
use Rattle.rb_wire.specs.Lengths.{request_fault}
use Rattle.rb_wire.specs.Requests.{Next, Nothing, Breaks, Holds, ComesNext, next_of, next_unless, most_requests, RequestsEnd, End, Broken, Closed, FollowsRequest, RequestsFrom}
use Rattle.rb_wire.specs.declared.heard.Request.{Request}
use Rattle.rb_wire.specs.declared.heard.WireFault.{WireFault}

-- from here on the bytes hold no list of requests
abbrev HoldNone : ℕ → List ℕ → Type 0
HoldNone given bytes =
    (requests : List Request) (ending : RequestsEnd)
    → RequestsFrom given bytes requests ending → ⊥

some_front : (bytes : List ℕ) → ((front : Option Front) → IsFront bytes front → ⊥) → ⊥
some_front bytes none =
    none None (λ head behind begins. none (Some (record { head = head; behind = behind })) begins)

-- what comes next ends the list, or is a request that lets more come
one_more : (given : ℕ) (bytes : List ℕ) (next : Next) → ComesNext given bytes next
    → HoldNone given bytes
    → ((r : Request) (rest : List ℕ) → next ≡ Holds r rest → r.close ≡ false
    → HoldNone (next_call given) rest → ⊥)
    → ⊥
one_more given bytes Nothing comes none on = none [] End comes
one_more given bytes (Breaks fault) comes none on = none [] (Broken fault) comes
one_more given bytes (Holds r rest) comes none on = by_close r.close refl
  where
    by_close : (closes : Bool) → r.close ≡ closes → ⊥
    by_close true is =
        none (r ∷ []) Closed (
          rest,
          comes,
          subst (λ b. FollowsRequest b [] Closed
              (RequestsFrom (next_call given) rest [] Closed)) (sym is) (refl, refl),
        )
    by_close false is = on r rest refl is
        (λ requests ending more. none (r ∷ requests) ending (
          rest,
          comes,
          subst (λ b.
              FollowsRequest b requests ending (RequestsFrom (next_call given) rest requests ending))
              (sym is) more,
        ))

-- whether the request closes that comes next
abbrev closes_next : Next → Bool
closes_next (Holds r rest) = r.close
closes_next other = false

closes_by : (given : ℕ) (bytes : List ℕ) (front : Option Front) (r : Request) (rest : List ℕ)
    → Holds r rest ≡ next_of given bytes front
    → (head : RequestHead) × (r.close ≡ (closes head || nat_le most_requests (next_call given)))
closes_by given [] front r rest h = absurd (cc)
closes_by given (b ∷ bytes) None r rest h = absurd (cc)
closes_by given (b ∷ bytes) (Some front) r rest h =
    by_fault (request_fault front.head (length front.behind)) h
  where
    by_fault : (fault : Option WireFault)
        → Holds r rest ≡ next_unless fault given front.head front.behind
        → (head : RequestHead)
        × (r.close ≡ (closes head || nat_le most_requests (next_call given)))
    by_fault (Some fault) h = absurd (cc)
    by_fault None h = (front.head, ap closes_next h)

or_true : (a b : Bool) → b ≡ true → (a || b) ≡ true
or_true true b h = refl
or_true false b h = h

-- the last request closes
last_closes : (given : ℕ) (bytes : List ℕ) (front : Option Front) (r : Request) (rest : List ℕ)
    → most_requests ≤ given → next_of given bytes front ≡ Holds r rest → r.close ≡ true
last_closes given bytes front r rest many same =
    let found = closes_by given bytes front r rest (sym same) in
    let late : most_requests ≤ next_call given = omega (arith, many) in
    found.1 ∙ or_true (closes found.0) (nat_le most_requests (next_call given))
    (grind (arith, nat_tests, late))

some_from : (left given : ℕ) (bytes : List ℕ) → most_requests ≤ given + left
    → HoldNone given bytes → ⊥
some_from zero given bytes many none = some_front bytes (λ front is.
    one_more given bytes (next_of given bytes front)
    (record { front = front; is_front = is; says = refl }) none (λ r rest same stays later.
    let closed = last_closes given bytes front r rest (omega (arith, many)) same in
    let wrong : true ≡ false = sym closed ∙ stays in cc))
some_from (suc left) given bytes many none = some_front bytes (λ front is.
    one_more given bytes (next_of given bytes front)
    (record { front = front; is_front = is; says = refl }) none (λ r rest same stays later.
    some_from left (next_call given) rest (omega (arith, many)) later))

pub requests_are_some : RequestsAreSome
requests_are_some bytes none = some_from most_requests 0 bytes (omega arith) none
