-- Never more callers are taken than a line was given.
use Rattle.std.specs.Prelude.{◌≤◌, ◌+◌, ℕ, Bool, true, false, List, [], ◌∷◌, Result, Ok, Err, ⊤}
use Rattle.rb_causes.specs.declared.trouble.Failed.{Failed}
use Rattle.rb_tcp.specs.LineState.{AnswersAsking}
use Rattle.rb_tcp.specs.declared.callers_left.CallersLeft.{CallersLeft}
use Rattle.rb_tcp.specs.declared.callers_left.CallersLeft.TheVariants.{Only}

-- A line that may take so many callers was asked again and again, and answered this.
abbrev pub AnswersAll : CallersLeft → List (Result Bool Failed) → Type 0
AnswersAll left [] = ⊤
AnswersAll left (result ∷ results) =
    (after : CallersLeft) × AnswersAsking left result after × AnswersAll after results

-- how many callers were taken in an asking
abbrev pub taken_in : Result Bool Failed → ℕ
taken_in (Ok true) = 1
taken_in (Ok false) = 0
taken_in (Err fault) = 0

-- and in all of them
abbrev pub taken_in_all : List (Result Bool Failed) → ℕ
taken_in_all [] = 0
taken_in_all (result ∷ results) = taken_in result + taken_in_all results

abbrev pub CallersAreBounded : Type 0
CallersAreBounded =
    (most : ℕ) (results : List (Result Bool Failed)) → AnswersAll (Only most) results
    → taken_in_all results ≤ most
