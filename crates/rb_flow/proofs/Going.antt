-- The first unit in work that may go on.
use Rattle.std.proofs.Common.{◌≡◌, ℕ, ◌+◌, ◌<◌, Bool, true, false, not, ◌||◌, ◌&&◌, inl, inr, Some, None, List, length, get_or, ap, ◌∙◌, subst, arith, refl}
use Rattle.std.proofs.lemmas.Bool.{cases_Bool, cases_order, cases_lt}
use Rattle.rb_marks.specs.Units.{Outline, is_settled}
use Rattle.rb_flow.specs.declared.unit_state.UnitState.{UnitState}
use Rattle.rb_flow.specs.declared.tally.Tally.{Tally}
use Rattle.rb_flow.specs.Tally.{IsTally, is_in_work}
use Rattle.rb_flow.specs.Choice.{fits, may_open_by}
use Rattle.rb_flow.specs.Order.{IsFirstPlace, passes_at, may_go_on, can_run}
use Rattle.rb_flow.proofs.Seats.{At, at_less, at_same, at_read, at_slice, at_passes, fails_at}
use Rattle.rb_flow.proofs.InWork.{is_place, at_work, places_rise}

working : (opened settled running fit opens : Bool) → (opened && not settled) ≡ true
    → (opened && (((not settled && not running) && fit) && (opened || opens)))
    ≡ (not running && fit)
working true false true fit opens e = refl
working true false false true opens e = refl
working true false false false opens e = refl
working true true running fit opens e = absurd (cc)
working false settled running fit opens e = absurd (cc)

resting : (opened settled running fit opens : Bool) → (opened && not settled) ≡ false
    → (opened && (((not settled && not running) && fit) && (opened || opens))) ≡ false
resting true true running fit opens e = refl
resting true false running fit opens e = absurd (cc)
resting false settled running fit opens e = refl

pub going_is : (p : Outline) (all : List UnitState) (s : UnitState) → is_in_work s ≡ true
    → may_go_on p all s ≡ can_run p all s
going_is p all s e =
    working s.opened (is_settled s.outcome) s.running (fits p all s.unit.node) (may_open_by p all s)
    e

not_going : (p : Outline) (all : List UnitState) (s : UnitState) → is_in_work s ≡ false
    → may_go_on p all s ≡ false
not_going p all s e =
    resting s.opened (is_settled s.outcome) s.running (fits p all s.unit.node) (may_open_by p all s)
    e

-- of the units at the first so many places none may go on
abbrev pub NoneGoes : Outline → Tally → ℕ → Type 0
NoneGoes p t n =
    (j q : ℕ) (s : UnitState) → j < n → At t.places.items j q → At t.states.items q s
    → may_go_on p t.states.items s ≡ false

pub goes_nowhere : (p : Outline) (t : Tally) → IsTally t → (n : ℕ) → NoneGoes p t n → (i : ℕ)
    → ((j : ℕ) → At t.places.items j i → j < n)
    → passes_at (may_go_on p t.states.items) t.states.items i ≡ false
goes_nowhere p t is n none i f =
    fails_at (may_go_on p t.states.items) t.states.items i
    (λ s h. elim (cases_Bool (is_in_work s)) [
      | inl works ↦ let r = is_place t is i s h works in none r.0 i s (f r.0 r.1) r.1 h
      | inr rests ↦ not_going p t.states.items s rests
    ])

pub none_goes_on : (p : Outline) (t : Tally) → IsTally t → NoneGoes p t (length t.places.items)
    → IsFirstPlace (may_go_on p t.states.items) t.states.items None
none_goes_on p t is none i =
    goes_nowhere p t is (length t.places.items) none i (λ j h. at_less t.places.items j i h)

pub goes_first : (p : Outline) (t : Tally) → IsTally t → (n place : ℕ) (s : UnitState)
    → NoneGoes p t n → At t.places.items n place → At t.states.items place s
    → can_run p t.states.items s ≡ true
    → IsFirstPlace (may_go_on p t.states.items) t.states.items (Some place)
goes_first p t is n place s none at here runs =
    let w = at_work t is n place at in
    let works = subst (λ v. is_in_work v ≡ true) (at_same t.states.items place w.0 s w.1 here) w.2
    in (
      at_passes (may_go_on p t.states.items) t.states.items place s here
          ∙ going_is p t.states.items s works ∙ runs,
      λ i l. goes_nowhere p t is n none i
          (λ j h. elim (cases_order j n) [
            | inl same ↦ absurd (
                let e : i ≡ place = at_same t.places.items n i place
                (subst (λ k. At t.places.items k i) same h) at in omega (arith, e, l))
            | inr other ↦ elim other [
              | inl less ↦ less
              | inr more ↦ absurd (
                  let r = places_rise t is n j place i at h more in omega (arith, r, l))
            ]
          ]),
    )

pub none_goes_more : (p : Outline) (t : Tally) → IsTally t → (n place : ℕ) (s : UnitState)
    → NoneGoes p t n → At t.places.items n place → At t.states.items place s
    → can_run p t.states.items s ≡ false
    → NoneGoes p t (n + 1)
none_goes_more p t is n place s none at here fails j q v l h g =
    elim (cases_lt j n) [
      | inl less ↦ none j q v less h g
      | inr more ↦
          let same : j ≡ n = omega (arith, more, l) in
          let e : q ≡ place = at_same t.places.items n q place
          (subst (λ k. At t.places.items k q) same h) at in
          let one : v ≡ s = at_same t.states.items place v s
          (subst (λ k. At t.states.items k v) e g) here in
          let w = at_work t is n place at in
          let works = subst (λ x. is_in_work x ≡ true)
          (at_same t.states.items place w.0 s w.1 here) w.2 in
          ap (may_go_on p t.states.items) one ∙ going_is p t.states.items s works ∙ fails
    ]

-- how the unit at a place that is listed stands, by what is read
pub read_within : (t : Tally) → IsTally t → (places : List ℕ) → places ≡ t.places.items → (n : ℕ)
    → n < length places → get_or places n 0 < length t.states.items
read_within t is places e n l =
    let q = get_or places n 0 in
    let r = at_work t is n q (at_slice places t.places.items n 0 e l) in
    at_less t.states.items q r.0 r.1

pub read_at : (t : Tally) → IsTally t → (places : List ℕ) → places ≡ t.places.items → (n : ℕ)
    → n < length places → (s : UnitState) → s ≡ get_or t.states.items (get_or places n 0) s
    → At t.states.items (get_or places n 0) s
read_at t is places e n l s read =
    at_read t.states.items (get_or places n 0) s (read_within t is places e n l) read
