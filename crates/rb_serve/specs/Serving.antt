-- How a server ends.
use Rattle.std.specs.Prelude.{◌≡◌, ◌⊎◌, ℕ, List, length, Option, Some, None}
use Rattle.rb_serve.specs.Words.{CrewWords}

-- the status of a server whose desk was opened
abbrev pub IsEndStatus : ℕ → Type 0
IsEndStatus status =
    (status ≡ 0) ⊎ (status ≡ 3) ⊎ (status ≡ 5) ⊎ (status ≡ 6) ⊎ (status ≡ 7) ⊎ (status ≡ 10)

-- the status of any server
abbrev pub IsServeStatus : ℕ → Type 0
IsServeStatus status = (status ≡ 2) ⊎ (status ≡ 4) ⊎ (status ≡ 8) ⊎ IsEndStatus status

-- as many lines as addresses and as many spawners as workers, where the words are a server's
abbrev pub AreEnough : {L S : Type 0} → Option CrewWords → List L → List S → Type 0
AreEnough None lines spawners = Unit {0}
AreEnough (Some c) lines spawners =
    (length lines ≡ length c.addresses) × (length spawners ≡ c.workers)
