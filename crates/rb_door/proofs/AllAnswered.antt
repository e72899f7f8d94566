-- The requests of a caller's bytes are those that were answered.
use Rattle.std.proofs.Common.{
  ◌≡◌,
  ◌≢◌,
  ◌∙◌,
  ℕ,
  suc,
  zero,
  Bool,
  true,
  false,
  List,
  [],
  ◌∷◌,
  ◌++◌,
  take,
  Option,
  Some,
  None,
  ap,
  append-nil,
  sym,
  subst,
  refl,
}
use Rattle.rb_causes.specs.Outside.{next_call}
use Rattle.rb_causes.specs.declared.trouble.Trouble.{Trouble}
use Rattle.rb_causes.specs.declared.trouble.Trouble.TheVariants as trouble
use Rattle.rb_wire.specs.Hearing.{Pending}
use Rattle.rb_wire.specs.Laws.{HearingTells, NextIsOne}
use Rattle.rb_wire.specs.Requests.{
  ComesNext,
  Holds,
  Nothing,
  Breaks,
  FollowsRequest,
  RequestsFrom,
  RequestsEnd,
  End,
  Broken,
  Closed,
}
use Rattle.rb_wire.specs.declared.heard.Heard.{Heard}
use Rattle.rb_wire.specs.declared.heard.Heard.TheVariants as heard
use Rattle.rb_wire.specs.declared.heard.Request.{Request}
use Rattle.rb_api.specs.declared.ended.Ended.{Ended}
use Rattle.rb_api.specs.declared.ended.Ended.TheVariants as ended
use Rattle.rb_door.specs.Doors.{FindsHeard, FollowsBytes, GoesOnIfMore}
use Rattle.rb_door.specs.Exchanges.{Exchange, ended_of, ended_by}
use Rattle.rb_door.specs.Laws.{
  AllAreAnswered,
  FirstAreAnswered,
  end_in,
  end_heard,
  request_heard,
  requests_in,
}
use Rattle.rb_door.specs.Serving.{EndsAs}

-- ---- how an exchange ended

-- what a request that was answered says of its connection
closes_as : Ended → Bool
closes_as ended.More = false
closes_as other = true

close_is : (t : Option Trouble) (r : Request) (close : Bool) (said : Ended) → r.close ≡ close
    → ended_by t (heard.Asked r) ≡ said → (said ≡ ended.More → close ≡ false)
    × (said ≡ ended.Done → close ≡ true)
close_is (Some trouble.Failed) r close said is h =
    (λ more. let never : ⊥ = cc in absurd never, λ done. let never : ⊥ = cc in absurd never)
close_is (Some trouble.NoMemory) r close said is h =
    (λ more. let never : ⊥ = cc in absurd never, λ done. let never : ⊥ = cc in absurd never)
close_is None r true said is h =
    let end : ended_by None (heard.Asked r) ≡ ended.Done = rw is refl in
    (λ more. let never : ⊥ = cc in absurd never, λ done. refl)
close_is None r false said is h =
    let end : ended_by None (heard.Asked r) ≡ ended.More = rw is refl in
    (λ more. refl, λ done. let never : ⊥ = cc in absurd never)

-- ---- all are answered

follows_closed : (r : Request) (on : Type 0) → r.close ≡ true
    → FollowsRequest r.close [] Closed on
follows_closed r on is = rw is (refl, refl)

follows_on : (r : Request) (rs : List Request) (ending : RequestsEnd) (on : Type 0)
    → r.close ≡ false → on → FollowsRequest r.close rs ending on
follows_on r rs ending on is h = rw is h

one_answered : HearingTells → (given : ℕ) (bytes unread : List ℕ) (e : Exchange) (what : Heard)
    (ending : RequestsEnd) (On : List ℕ → Type 0)
    → ended_by e.trouble what ≡ ended.Done → FindsHeard what given bytes unread On
    → end_in what ≡ Some ending → RequestsFrom given bytes (request_heard what) ending
one_answered tells given bytes unread e (heard.Asked r) ending On done found is =
    let closed : r.close ≡ true =
    (close_is e.trouble r r.close (ended_by e.trouble (heard.Asked r)) refl refl).1 done in
    let end : Closed ≡ ending = cc in
    subst (λ x. RequestsFrom given bytes (r ∷ []) x) end (
      found.0,
      found.1,
      follows_closed r
          (RequestsFrom (next_call given) found.0 [] Closed) closed,
    )
one_answered tells given bytes unread e heard.End ending On done found is =
    let end : End ≡ ending = cc in
    let none : Pending = record { bytes = []; given = given } in
    subst (λ x. RequestsFrom given bytes [] x) end
    (subst (λ xs. RequestsFrom given xs [] End) (sym found.0) (tells.ends given [] [] none (
      refl,
      refl,
    )))
one_answered tells given bytes unread e (heard.Broken f) ending On done found is =
    let end : Broken f ≡ ending = cc in
    subst (λ x. RequestsFrom given bytes [] x) end found.0
one_answered tells given bytes unread e heard.LineFault ending On done found is =
    let never : ⊥ = cc in absurd never
one_answered tells given bytes unread e heard.NoMemory ending On done found is =
    let never : ⊥ = cc in absurd never

-- what an exchange behind which more may come was found to be
record IsFirstOf (given : ℕ) (bytes unread : List ℕ) (e : Exchange) (es : List Exchange)
    : Type 0 where
  request : Request
  rest : List ℕ
  is : e.heard ≡ heard.Asked request
  stays : request.close ≡ false
  comes : ComesNext given bytes (Holds request rest)
  on : FollowsBytes (next_call given) rest unread es

more_of : (end : Ended) (es : List Exchange) (On : Type 0) → end ≡ ended.More
    → GoesOnIfMore end es On → On
more_of ended.More es On is h = h
more_of ended.Done es On is h = let never : ⊥ = cc in absurd never
more_of ended.LineFault es On is h = let never : ⊥ = cc in absurd never
more_of ended.NoMemory es On is h = let never : ⊥ = cc in absurd never

none_of : (end : Ended) (es : List Exchange) (On : Type 0) → end ≢ ended.More
    → GoesOnIfMore end es On → es ≡ []
none_of ended.More es On not h = absurd (not refl)
none_of ended.Done es On not h = h
none_of ended.LineFault es On not h = h
none_of ended.NoMemory es On not h = h

no_more : (t : Option Trouble) (what : Heard) → ended_by t what ≡ ended.More
    → (r : Request) × (what ≡ heard.Asked r)
no_more (Some trouble.Failed) what h = let never : ⊥ = cc in absurd never
no_more (Some trouble.NoMemory) what h = let never : ⊥ = cc in absurd never
no_more None (heard.Asked r) h = (r, refl)
no_more None heard.End h = let never : ⊥ = cc in absurd never
no_more None (heard.Broken f) h = let never : ⊥ = cc in absurd never
no_more None heard.LineFault h = let never : ⊥ = cc in absurd never
no_more None heard.NoMemory h = let never : ⊥ = cc in absurd never

first_of : (given : ℕ) (bytes unread : List ℕ) (e : Exchange) (es : List Exchange)
    → FollowsBytes given bytes unread (e ∷ es) → ended_of e ≡ ended.More
    → IsFirstOf given bytes unread e es
first_of given bytes unread e es h more =
    let asked = no_more e.trouble e.heard more in
    let On : List ℕ → Type 0 = λ rest. GoesOnIfMore (ended_of e) es (FollowsBytes (next_call given)
    rest unread es) in
    let found : FindsHeard (heard.Asked asked.0) given bytes unread On =
    subst (λ x. FindsHeard x given bytes unread On) asked.1 h in record {
      request = asked.0;
      rest = found.0;
      is = asked.1;
      stays = (close_is e.trouble asked.0 asked.0.close (ended_by e.trouble (heard.Asked asked.0))
          refl refl).0 (subst (λ x. ended_by e.trouble x ≡ ended.More) asked.1 more);
      comes = found.1;
      on = more_of (ended_of e) es (FollowsBytes (next_call given) found.0 unread es) more found.2;
    }

answered_from : HearingTells → (given : ℕ) (bytes unread : List ℕ) (es : List Exchange)
    (ending : RequestsEnd) → FollowsBytes given bytes unread es → EndsAs ended.Done es
    → end_heard es ≡ Some ending → RequestsFrom given bytes (requests_in es) ending
answered_from tells given bytes unread [] ending h ends is = absurd h
answered_from tells given bytes unread (e ∷ []) ending h ends is =
    let On : List ℕ → Type 0 = λ rest. GoesOnIfMore (ended_of e) [] (FollowsBytes (next_call given)
    rest unread []) in
    subst (λ rs. RequestsFrom given bytes rs ending) (sym (append-nil (request_heard e.heard)))
    (one_answered tells given bytes unread e e.heard ending On ends.0 h is)
answered_from tells given bytes unread (e ∷ f ∷ es) ending h ends is =
    let first = first_of given bytes unread e (f ∷ es) h ends.0 in
    let rest = answered_from tells (next_call given) first.rest unread (f ∷ es) ending first.on
    ends.1 is in
    subst (λ x. RequestsFrom given bytes (request_heard x ++ requests_in (f ∷ es)) ending)
    (sym first.is) (
      first.rest,
      first.comes,
      follows_on first.request (requests_in (f ∷ es)) ending
          (RequestsFrom (next_call given) first.rest (requests_in (f ∷ es)) ending) first.stays rest,
    )

pub all_are_answered : HearingTells → AllAreAnswered
all_are_answered tells input unread es ending h ends is =
    answered_from tells 0 input unread es ending h ends is

-- ---- the first are answered

-- no request of the bytes was answered by the last exchange, or one was
not_asked : (what : Heard) → (r : Request) → what ≡ heard.Asked r → request_heard what ≡ r ∷ []
not_asked what r is = ap request_heard is

holds_are_one : NextIsOne → (given : ℕ) (bytes : List ℕ) (r s : Request) (rest more : List ℕ)
    → ComesNext given bytes (Holds r rest) → ComesNext given bytes (Holds s more)
    → (r ≡ s) × (rest ≡ more)
holds_are_one one given bytes r s rest more x y =
    let e : Holds r rest ≡ Holds s more = one given bytes (Holds r rest) (Holds s more) x y in
    (cc, cc)

goes_on_with : (s : Request) (ss : List Request) (ending : RequestsEnd) (on : Type 0)
    → s.close ≡ false → FollowsRequest s.close ss ending on → on
goes_on_with s ss ending on is h = rw is at h

-- of a request that comes first in these bytes the list of requests tells the same
record Begins (given : ℕ) (bytes : List ℕ) (r : Request) (rest : List ℕ) (rs : List Request)
    (ending : RequestsEnd) : Type 0 where
  later : List Request
  is : rs ≡ r ∷ later
  follows : FollowsRequest r.close later ending (RequestsFrom (next_call given) rest later ending)

begins : NextIsOne → (given : ℕ) (bytes : List ℕ) (r : Request) (rest : List ℕ)
    (rs : List Request) (ending : RequestsEnd)
    → ComesNext given bytes (Holds r rest) → RequestsFrom given bytes rs ending
    → Begins given bytes r rest rs ending
begins one given bytes r rest [] End x y =
    let e : Holds r rest ≡ Nothing = one given bytes (Holds r rest) Nothing x y in
    let never : ⊥ = cc in absurd never
begins one given bytes r rest [] (Broken f) x y =
    let e : Holds r rest ≡ Breaks f = one given bytes (Holds r rest) (Breaks f) x y in
    let never : ⊥ = cc in absurd never
begins one given bytes r rest [] Closed x y = absurd y
begins one given bytes r rest (s ∷ ss) ending x y =
    let same = holds_are_one one given bytes r s rest y.0 x y.1 in
    let there : FollowsRequest s.close ss ending (RequestsFrom (next_call given) rest ss ending) =
    subst (λ xs. FollowsRequest s.close ss ending (RequestsFrom (next_call given) xs ss ending))
    (sym same.1) y.2 in record {
      later = ss;
      is = ap (λ t. t ∷ ss) (sym same.0);
      follows = subst (λ (t : Request). FollowsRequest t.close ss ending (RequestsFrom (next_call
          given) rest ss ending)) (sym same.0) there;
    }

module _ (one : NextIsOne) (given : ℕ) (bytes unread : List ℕ) (e : Exchange) (es : List Exchange)
    (rs : List Request) (ending : RequestsEnd) (k : RequestsFrom given bytes rs ending)
    (ih : (rest : List ℕ) (later : List Request)
    → FollowsBytes (next_call given) rest unread es
    → RequestsFrom (next_call given) rest later ending
    → (n : ℕ) × (requests_in es ≡ take n later)) where
  abbrev OnRest : List ℕ → Type 0
  OnRest rest = GoesOnIfMore (ended_of e) es (FollowsBytes (next_call given) rest unread es)

  abbrev AreFirst : Type 0
  AreFirst = (n : ℕ) × (requests_in (e ∷ es) ≡ take n rs)

  asked_of_more : (what : Heard) → e.heard ≡ what → ended_of e ≡ ended.More
      → (r : Request) × (what ≡ heard.Asked r)
  asked_of_more what is more =
      no_more e.trouble what (subst (λ x. ended_by e.trouble x ≡ ended.More) is more)

  none_asked : (what : Heard) → e.heard ≡ what → request_heard what ≡ [] → es ≡ [] → AreFirst
  none_asked what is none last = (
    0,
    ap (λ x. request_heard x ++ requests_in es) is ∙ ap (λ xs. xs ++ requests_in es) none
        ∙ ap requests_in last,
  )

  one_asked : (r : Request) (rest : List ℕ) (end : Ended) → e.heard ≡ heard.Asked r
      → ended_of e ≡ end → ComesNext given bytes (Holds r rest) → OnRest rest → AreFirst
  one_asked r rest ended.More is end comes on =
      let b = begins one given bytes r rest rs ending comes k in
      let close : r.close ≡ false =
      (close_is e.trouble r r.close (ended_by e.trouble (heard.Asked r)) refl refl).0
      (subst (λ x. ended_by e.trouble x ≡ ended.More) is end) in
      let next : FollowsBytes (next_call given) rest unread es =
      more_of (ended_of e) es (FollowsBytes (next_call given) rest unread es) end on in
      let later = ih rest b.later next (goes_on_with r b.later ending (RequestsFrom (next_call
      given) rest b.later ending) close b.follows) in (
        suc later.0,
        ap (λ x. request_heard x ++ requests_in es) is ∙ ap (λ xs. r ∷ xs) later.1
            ∙ ap (take (suc later.0)) (sym b.is),
      )
  one_asked r rest other is end comes on =
      let b = begins one given bytes r rest rs ending comes k in
      let last : es ≡ [] = none_of (ended_of e) es (FollowsBytes (next_call given) rest unread es)
      (λ more. let never : ⊥ = cc in never) on in (
        suc zero,
        ap (λ x. request_heard x ++ requests_in es) is ∙ ap (λ xs. r ∷ requests_in xs) last
            ∙ ap (take (suc zero)) (sym b.is),
      )

  first_by : (what : Heard) → e.heard ≡ what → FindsHeard what given bytes unread OnRest → AreFirst
  first_by (heard.Asked r) is found = one_asked r found.0 (ended_of e) is refl found.1 found.2
  first_by heard.End is found =
      none_asked heard.End is refl (none_of (ended_of e) es (FollowsBytes (next_call given) [] unread
      es) (λ more. let a = (asked_of_more heard.End is more).1 in let never : ⊥ = cc in never) found.2)
  first_by (heard.Broken f) is found =
      none_asked (heard.Broken f) is refl (none_of (ended_of e) es (FollowsBytes (next_call given) []
      unread es) (λ more. let a = (asked_of_more (heard.Broken f) is more).1 in let never : ⊥ = cc in
      never) found.1)
  first_by heard.LineFault is found =
      none_asked heard.LineFault is refl (none_of (ended_of e) es (FollowsBytes (next_call given) []
      unread es) (λ more. let a = (asked_of_more heard.LineFault is more).1 in let never : ⊥ = cc in
      never) found.3)
  first_by heard.NoMemory is found =
      none_asked heard.NoMemory is refl (none_of (ended_of e) es (FollowsBytes (next_call given) []
      unread es) (λ more. let a = (asked_of_more heard.NoMemory is more).1 in let never : ⊥ = cc in
      never) found.1)

first_from : NextIsOne → (given : ℕ) (bytes unread : List ℕ) (es : List Exchange)
    (rs : List Request) (ending : RequestsEnd)
    → FollowsBytes given bytes unread es → RequestsFrom given bytes rs ending
    → (n : ℕ) × (requests_in es ≡ take n rs)
first_from one given bytes unread [] rs ending h k = absurd h
first_from one given bytes unread (e ∷ es) rs ending h k =
    first_by one given bytes unread e es rs ending k (λ rest later x y. first_from one (next_call
    given) rest unread es later ending x y) e.heard refl h

pub first_are_answered : NextIsOne → FirstAreAnswered
first_are_answered one input unread es rs ending h k =
    first_from one 0 input unread es rs ending h k
