-- What a line over TCP tells of itself, and what an asking and a read make of it.
use Rattle.std.specs.Prelude.{◌≡◌, ◌↔◌, ℕ, Bool, true, false, ◌&&◌, ◌||◌, nat_eq, nat_lt, Option, Some, None, Result, Ok, Err}
use Rattle.rb_causes.specs.declared.trouble.Failed.{Failed}
use Rattle.rb_tcp.specs.Left.{has_left, one_less}
use Rattle.rb_tcp.specs.declared.callers_left.CallersLeft.{CallersLeft}

-- how many callers may still be taken; whether the input of the one who is served has ended, and
-- None where nobody is served; and how many faults there were
pub record LineState : Type 0 where
  pub left : CallersLeft
  pub ended : Option Bool
  pub faults : ℕ

-- nobody is served
abbrev pub unserved : CallersLeft → ℕ → LineState
unserved left faults = record { left = left; ended = None; faults = faults }

-- how many are left behind an asking: one less where a caller was taken
abbrev pub left_after : Result Bool Failed → CallersLeft → CallersLeft
left_after (Ok true) left = one_less left
left_after (Ok false) left = left
left_after (Err fault) left = left

-- who is served behind an asking: the caller who was taken, none of whose input has been read
abbrev pub ended_after : Result Bool Failed → Option Bool
ended_after (Ok true) = Some false
ended_after (Ok false) = None
ended_after (Err fault) = None

-- A line that may take so many callers has answered an asking: there is none exactly where it may
-- take no more, and one who was taken counts.
pub record AnswersAsking (before : CallersLeft) (result : Result Bool Failed)
    (after : CallersLeft) : Type 0 where
  pub none : result ≡ Ok false ↔ has_left before ≡ false
  pub left : after ≡ left_after result before

-- A read gave n bytes into so many places. Once a caller has ended no more bytes come, and of a
-- caller who has not, no bytes into some places say so.
pub record ReadsOf (before : Bool) (n places : ℕ) (after : Bool) : Type 0 where
  pub past : before ≡ true → n ≡ 0
  pub ended : after ≡ (before || (nat_lt 0 places && nat_eq n 0))

-- The same of the caller who is served: there is one, before and behind.
abbrev pub Reads : Option Bool → (n places : ℕ) → Option Bool → Type 0
Reads (Some before) n places (Some after) = ReadsOf before n places after
Reads (Some before) n places None = ⊥
Reads None n places after = ⊥
