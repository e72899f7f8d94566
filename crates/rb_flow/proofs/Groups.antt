-- What is counted of a group says which of its units are passed.
use Rattle.std.proofs.Common.{◌≡◌, ℕ, ◌+◌, ◌*◌, ◌<◌, Bool, true, false, zero, suc, cond, List, [], ◌∷◌, take, drop, length, sym, ap, ◌∙◌, subst, arith, refl}
use Rattle.std.proofs.lemmas.List.{drop-drop}
use Rattle.std.proofs.lemmas.Bool.{or_parts}
use Rattle.rb_marks.specs.Units.{Outline}
use Rattle.rb_flow.specs.declared.unit_state.UnitState.{UnitState}
use Rattle.rb_flow.specs.declared.group_state.GroupState.{GroupState}
use Rattle.rb_flow.specs.declared.tally.Tally.{Tally}
use Rattle.rb_flow.specs.Tally.{IsTally, IsTallyOf, is_passed, group_of, groups_of, leading}
use Rattle.rb_flow.proofs.Seats.{At, take_at, drop_at}
use Rattle.rb_flow.proofs.Grid.{seat}

-- the units of a group
abbrev pub chunk : Tally → ℕ → List UnitState
chunk t g = take t.nodes (drop (g * t.nodes) t.states.items)

next_row : (g n : ℕ) → n + g * n ≡ suc g * n
next_row g n = omega arith

group_at : (n c : ℕ) (ss : List UnitState) (g : ℕ) (gs : GroupState) → At (groups_of n c ss) g gs
    → gs ≡ group_of (take n (drop (g * n) ss))
group_at n zero ss g gs h = absurd h
group_at n (suc c) ss zero gs h = let e : zero * n ≡ zero = omega arith in rw e (sym h)
group_at n (suc c) ss (suc g) gs h =
    group_at n c (drop n ss) g gs h
    ∙ ap (λ r. group_of (take n r)) (drop-drop (g * n) n ss ∙ ap (λ k. drop k ss) (next_row g n))

pub group_is : (t : Tally) → IsTally t → (g : ℕ) (gs : GroupState) → At t.groups.items g gs
    → gs ≡ group_of (chunk t g)
group_is t is g gs h = group_at t.nodes (length t.groups.items) t.states.items g gs
    (subst (λ l. At l g gs) is.groups h)

some_lead : (b : Bool) (n k : ℕ) → k < cond b n 0 → b ≡ true
some_lead true n k l = refl
some_lead false n k l = absurd (omega (arith, l))

less_lead : (b : Bool) (n k : ℕ) → suc k < cond b (n + 1) 0 → k < n
less_lead true n k l = omega (arith, l)
less_lead false n k l = absurd (omega (arith, l))

-- the first so many are passed
lead_passed : (ss : List UnitState) (k : ℕ) (s : UnitState) → At ss k s → k < leading ss
    → is_passed s ≡ true
lead_passed [] k s h l = absurd h
lead_passed (x ∷ xs) zero s h l =
    sym (ap is_passed h) ∙ some_lead (is_passed x) (leading xs + 1) 0 l
lead_passed (x ∷ xs) (suc k) s h l =
    lead_passed xs k s h (less_lead (is_passed x) (leading xs) k l)

no_lead : (b : Bool) (n : ℕ) → 0 ≡ cond b (n + 1) 0 → b ≡ false
no_lead true n e = absurd (omega (arith, e))
no_lead false n e = refl

next_lead : (b : Bool) (n k : ℕ) → suc k ≡ cond b (n + 1) 0 → k ≡ n
next_lead true n k e = omega (arith, e)
next_lead false n k e = absurd (omega (arith, e))

-- the one behind them is not
lead_closed : (ss : List UnitState) (k : ℕ) (s : UnitState) → At ss k s → k ≡ leading ss
    → is_passed s ≡ false
lead_closed [] k s h e = absurd h
lead_closed (x ∷ xs) zero s h e =
    sym (ap is_passed h) ∙ no_lead (is_passed x) (leading xs) e
lead_closed (x ∷ xs) (suc k) s h e =
    lead_closed xs k s h (next_lead (is_passed x) (leading xs) k e)

-- where a unit lies in its group
pub in_chunk : (p : Outline) (t : Tally) → IsTallyOf p t → (i : ℕ) (s : UnitState)
    → At t.states.items i s → At (chunk t s.unit.step) s.unit.node s
in_chunk p t of i s h =
    let at = seat p t of i s h in
    take_at t.nodes (drop (s.unit.step * t.nodes) t.states.items) s.unit.node s
    (drop_at (s.unit.step * t.nodes) t.states.items s.unit.node i s at.place h) at.node

-- the units of a group up to its lead are passed
pub passed_below : (p : Outline) (t : Tally) → IsTally t → IsTallyOf p t → (i : ℕ) (s : UnitState)
    → At t.states.items i s → (gs : GroupState) → At t.groups.items s.unit.step gs
    → s.unit.node < gs.lead → is_passed s ≡ true
passed_below p t is of i s h gs g l =
    lead_passed (chunk t s.unit.step) s.unit.node s (in_chunk p t of i s h)
    (subst (λ (v : GroupState). s.unit.node < v.lead) (group_is t is s.unit.step gs g) l)

-- neither opened nor of a withdrawn node
pub record IsAhead (s : UnitState) : Type 0 where
  pub closed : s.opened ≡ false
  pub stays : s.withdrawn ≡ false

-- the one there is neither
pub closed_at : (p : Outline) (t : Tally) → IsTally t → IsTallyOf p t → (i : ℕ) (s : UnitState)
    → At t.states.items i s → (gs : GroupState) → At t.groups.items s.unit.step gs
    → s.unit.node ≡ gs.lead → IsAhead s
closed_at p t is of i s h gs g e =
    let parts = or_parts s.opened s.withdrawn
    (lead_closed (chunk t s.unit.step) s.unit.node s (in_chunk p t of i s h)
    (e ∙ ap (λ (v : GroupState). v.lead) (group_is t is s.unit.step gs g))) in
    record { closed = parts.0; stays = parts.1 }
