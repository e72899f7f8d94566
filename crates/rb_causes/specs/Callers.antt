-- The callers of a line. The lines in memory tell them, the real ones tell nothing.
use Rattle.std.specs.Prelude.{ℕ, Bool, true, false, List, [], ◌++◌, drop, length, slice_get, map, Option, Some, None, option_map, option_to_list, nat_lt}

-- the caller that is served: what is still to come of its input, what it took, and whether a read
-- of it failed
pub record Served : Type 0 where
  pub left : List ℕ
  pub taken : List ℕ
  pub failed : Bool

-- what the callers before took, the caller that is served, if there is one, and the inputs of those
-- that wait
pub record Callers : Type 0 where
  pub past : List (List ℕ)
  pub now : Option Served
  pub waiting : List (List ℕ)

-- a caller that was just asked for
abbrev pub fresh : List ℕ → Served
fresh input = record { left = input; taken = []; failed = false }

-- nobody is served, and the inputs of all callers wait
abbrev pub unasked : List (List ℕ) → Callers
unasked inputs = record { past = []; now = None; waiting = inputs }

abbrev pub left_if_any : Option Served → List ℕ
left_if_any None = []
left_if_any (Some caller) = caller.left

-- what is still to come of the input of the caller that is served
abbrev pub left_of : Callers → List ℕ
left_of callers = left_if_any callers.now

abbrev pub has_waiting : Callers → Bool
has_waiting callers = nat_lt 0 (length callers.waiting)

-- what the caller that is served took, if there is one
abbrev pub taken_if_any : Option Served → List (List ℕ)
taken_if_any caller = option_to_list (option_map (λ c. c.taken) caller)

-- what each caller took, in order
abbrev pub taken_by_each : Callers → List (List ℕ)
taken_by_each callers =
    callers.past ++ taken_if_any callers.now ++ map (λ input. []) callers.waiting

-- the caller that is served, if there is one, is past
abbrev pub after_leaving : Callers → Callers
after_leaving callers =
    record callers { past = callers.past ++ taken_if_any callers.now; now = None }

-- the first of those that wait, if there is one, is served
abbrev pub after_serving : Callers → Callers
after_serving callers =
    record callers {
      now = option_map fresh (slice_get callers.waiting 0);
      waiting = drop 1 callers.waiting;
    }

-- the one who was served is past, and the next one is served
abbrev pub after_asking : Callers → Callers
after_asking callers = after_serving (after_leaving callers)

abbrev pub with_served : (Served → Served) → Callers → Callers
with_served change callers = record callers { now = option_map change callers.now }

-- so many bytes of its input were read
abbrev pub after_read : ℕ → Callers → Callers
after_read n callers = with_served (λ caller. record caller { left = drop n caller.left }) callers

-- a read of it failed
abbrev pub after_fault : Callers → Callers
after_fault callers = with_served (λ caller. record caller { failed = true }) callers

-- it took these bytes
abbrev pub after_write : List ℕ → Callers → Callers
after_write bytes callers =
    with_served (λ caller. record caller { taken = caller.taken ++ bytes }) callers
