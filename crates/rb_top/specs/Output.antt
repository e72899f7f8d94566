-- The lines that a drill prints.
use Rattle.std.specs.Prelude.{ℕ, ◌+◌, Bool, List, [], ◌∷◌, ◌++◌, codes, decimal, if◌then◌else◌, Result, Ok, Err}
use Rattle.rb_causes.specs.Sinks.{SinkState, Wrote, IsProperPrefixOf}
use Rattle.rb_causes.specs.declared.trouble.Trouble.{Trouble}
use Rattle.rb_top.specs.Played.{EndsBy}
use Rattle.rb_causes.specs.declared.ending.Ending.{Ending}
use Rattle.rb_causes.specs.declared.ending.Ending.TheVariants.{Code, NotStarted}
use Rattle.rb_acl.specs.declared.policy.Decision.{Decision}
use Rattle.rb_acl.specs.declared.policy.Decision.TheVariants.{Allowed, Denied, NoneAllows}
use Rattle.rb_command.specs.Lines.{line_of}

-- the access line that decides, by its number from 1, or that none allows
abbrev pub because : Decision → List ℕ
because (Allowed c) = codes "rule " ++ decimal (c.doc + 1)
because (Denied c) = codes "rule " ++ decimal (c.doc + 1)
because NoneAllows = codes "none allows"

abbrev pub run_line : ℕ → List ℕ → List ℕ → List ℕ
run_line k user job =
    line_of (codes "run " ∷ decimal k ∷ codes " " ∷ user ∷ codes " " ∷ job ∷ [])

-- what has become of a node, and why
abbrev pub verdict_line : ℕ → List ℕ → List ℕ → Decision → List ℕ
verdict_line k verdict node d =
    line_of (codes "run " ∷ decimal k ∷ codes " " ∷ verdict ∷ codes " " ∷ node ∷ codes " "
    ∷ because d ∷ [])

abbrev pub drop_line : ℕ → List ℕ → Decision → List ℕ
drop_line k node d = verdict_line k (codes "drops") node d

abbrev pub denial_line : ℕ → List ℕ → Decision → List ℕ
denial_line k node d = verdict_line k (codes "refused") node d

abbrev pub start_line : List ℕ → ℕ → List ℕ → List ℕ
start_line node step words =
    line_of (codes "start " ∷ node ∷ codes " " ∷ decimal step ∷ codes " " ∷ words ∷ [])

abbrev pub ending_text : Ending → List ℕ
ending_text (Code n) = codes "code " ++ decimal n
ending_text NotStarted = codes "not started"

abbrev pub end_line : List ℕ → ℕ → Ending → List ℕ
end_line node step ending =
    line_of (codes "end " ∷ node ∷ codes " " ∷ decimal step ∷ codes " " ∷ ending_text ending ∷ [])

abbrev pub outcome_text : Bool → List ℕ
outcome_text good = if good then codes " succeeded" else codes " failed"

abbrev pub over_line : ℕ → Bool → List ℕ
over_line k good = line_of (codes "run " ∷ decimal k ∷ outcome_text good ∷ [])

-- The sink took the line; or a proper prefix of it, behind which a write failed or memory was
-- wanting.
abbrev pub PrintsLine : {T : Type 0} → List ℕ → SinkState → SinkState → Result T Trouble → Type 0
PrintsLine line before after (Ok done) = Wrote line before after
PrintsLine line before after (Err trouble) =
    (prefix : List ℕ) × IsProperPrefixOf prefix line × EndsBy trouble prefix before after
