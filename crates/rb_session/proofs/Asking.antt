-- Callers of a line, asked for one after another.
use Rattle.std.proofs.Common.{
  ◌≡◌,
  ◌∙◌,
  ◌≤◌,
  ℕ,
  suc,
  true,
  false,
  List,
  [],
  ◌∷◌,
  length,
  map,
  take,
  drop,
  nat_lt,
  Option,
  Some,
  None,
  IfSome,
  option_map,
  slice_get,
  ap,
  refl,
  sym,
  subst,
  arith,
}
use Rattle.rb_causes.specs.Callers.{Callers, after_asking, fresh, has_waiting, left_if_any, left_of}
use Rattle.rb_door.specs.Exchanges.{Exchange}
use Rattle.rb_door.specs.Guests.{AskingFailed, Guest, IsEnough, NoneLeft, Parting, TooMany, after_guests, after_parting, after_talk}
use Rattle.rb_session.specs.Visits.{AsksCaller}

-- ---- the asking

asked_none : (waiting : List (List ℕ)) → nat_lt 0 (length waiting) ≡ false → length waiting ≡ 0
asked_none [] h = refl
asked_none (x ∷ xs) h = absurd (grind (arith, h))

asked_some : (waiting : List (List ℕ)) → nat_lt 0 (length waiting) ≡ true
    → 1 ≤ length waiting
asked_some [] h = absurd (grind (arith, h))
asked_some (x ∷ xs) h = omega arith

pub enough_none : (old : Option Callers) → IfSome old (λ c. has_waiting c ≡ false)
    → IfSome old (λ c. IsEnough NoneLeft 0 (length c.waiting))
enough_none None h = tt
enough_none (Some c) h = asked_none c.waiting h

pub enough_some : (old : Option Callers) → IfSome old (λ c. has_waiting c ≡ true)
    → IfSome old (λ c. IsEnough TooMany 0 (length c.waiting))
enough_some None h = tt
enough_some (Some c) h = asked_some c.waiting h

pub enough_any : (old : Option Callers) → IfSome old (λ c. IsEnough AskingFailed 0 (length c.waiting))
enough_any None = tt
enough_any (Some c) = omega arith

pub no_inputs : (old : Option Callers) → IfSome old (λ c. [] ≡ take 0 c.waiting)
no_inputs None = tt
no_inputs (Some c) = refl

pub same_callers : (old : Option Callers) → old ≡ option_map (λ c. c) old
same_callers None = refl
same_callers (Some c) = refl

-- ---- one caller more

input_first : (waiting : List (List ℕ)) (input : List ℕ) (inputs : List (List ℕ)) (n : ℕ)
    → nat_lt 0 (length waiting) ≡ true
    → left_if_any (option_map fresh (slice_get waiting 0)) ≡ input
    → inputs ≡ take n (drop 1 waiting) → input ∷ inputs ≡ take (suc n) waiting
input_first [] input inputs n some left more = absurd (grind (arith, some))
input_first (x ∷ xs) input inputs n some left more =
    ap (λ i. i ∷ inputs) (sym left) ∙ ap (λ is. x ∷ is) more

enough_more : (parting : Parting) (waiting : List (List ℕ)) (n : ℕ)
    → nat_lt 0 (length waiting) ≡ true → IsEnough parting n (length (drop 1 waiting))
    → IsEnough parting (suc n) (length waiting)
enough_more parting [] n some h = absurd (grind (arith, some))
enough_more NoneLeft (x ∷ xs) n some h = ap suc h
enough_more AskingFailed (x ∷ xs) n some h = omega (arith, h)
enough_more TooMany (x ∷ xs) n some h = omega (arith, h)

-- what is asked of the callers, seen through one more of them
module _ (parting : Parting) (v : List Exchange) (input unread : List ℕ) (gs : List Guest) where
  abbrev pub guest : Guest
  guest = record { input = input; unread = unread; exchanges = v }

  pub inputs_more : (old asked mid : Option Callers) → AsksCaller true old asked
      → IfSome asked (λ c. left_of c ≡ input) → mid ≡ option_map (after_talk unread v) asked
      → IfSome mid (λ c. map (λ g. g.input) gs ≡ take (length gs) c.waiting)
      → IfSome old (λ c. map (λ g. g.input) (guest ∷ gs) ≡ take (length (guest ∷ gs)) c.waiting)
  inputs_more None asked mid asks came talk more = tt
  inputs_more (Some c) asked mid asks came talk more =
      input_first c.waiting input (map (λ g. g.input) gs) (length gs) asks.0
      (subst (λ o. IfSome o (λ c. left_of c ≡ input)) asks.1 came)
      (subst (λ o. IfSome o (λ c. map (λ g. g.input) gs ≡ take (length gs) c.waiting))
      (talk ∙ ap (λ o. option_map (after_talk unread v) o) asks.1) more)

  pub enough_then : (old asked mid : Option Callers) → AsksCaller true old asked
      → mid ≡ option_map (after_talk unread v) asked
      → IfSome mid (λ c. IsEnough parting (length gs) (length c.waiting))
      → IfSome old (λ c. IsEnough parting (length (guest ∷ gs)) (length c.waiting))
  enough_then None asked mid asks talk more = tt
  enough_then (Some c) asked mid asks talk more =
      enough_more parting c.waiting (length gs) asks.0
      (subst (λ o. IfSome o (λ c. IsEnough parting (length gs) (length c.waiting)))
      (talk ∙ ap (λ o. option_map (after_talk unread v) o) asks.1) more)

  abbrev pub after : List Guest → Callers → Callers
  after guests c = after_parting parting (after_guests guests c)

  line_some : (old : Option Callers)
      → option_map (after gs) (option_map (after_talk unread v) (option_map after_asking old))
      ≡ option_map (after (guest ∷ gs)) old
  line_some None = refl
  line_some (Some c) = refl

  pub line_more : (old asked mid new : Option Callers) → AsksCaller true old asked
      → mid ≡ option_map (after_talk unread v) asked → new ≡ option_map (after gs) mid
      → new ≡ option_map (after (guest ∷ gs)) old
  line_more old asked mid new asks talk more =
      more ∙ ap (λ o. option_map (after gs) o)
      (talk ∙ ap (λ o. option_map (after_talk unread v) o) asks.1) ∙ line_some old
