-- What a drill does, whatever its programs do.
use Rattle.std.specs.Prelude.{ℕ, Bool, true, false, List, [], ◌∷◌, ◌++◌}
use Rattle.rb_causes.specs.declared.ending.Ending.{Ending}

-- One start: for whom, on which node, which step, from 1, and its words.
pub record Start : Type 0 where
  pub user : List ℕ
  pub node : List ℕ
  pub step : ℕ
  pub words : List (List ℕ)

-- It is over, or prints a text, or starts a program and goes on by its ending.
pub data Play : Type 0 where
  Over : Play
  Print : List ℕ → Play → Play
  Run : Start → (Ending → Play) → Play

-- What is printed and what is started, and whether the endings sufficed.
pub record Transcript : Type 0 where
  pub text : List ℕ
  pub started : List Start
  pub enough : Bool

abbrev pub printed : List ℕ → Transcript → Transcript
printed text t = record { text = text ++ t.text; started = t.started; enough = t.enough }

abbrev pub with_start : Start → Transcript → Transcript
with_start start t = record { text = t.text; started = start ∷ t.started; enough = t.enough }

-- The transcript where the programs end so, one after another: where the endings run out it stops
-- before the next program's ending.
abbrev pub transcript : Play → List Ending → Transcript
transcript Over endings = record { text = []; started = []; enough = true }
transcript (Print text next) endings = printed text (transcript next endings)
transcript (Run start next) [] = record { text = []; started = []; enough = false }
transcript (Run start next) (ending ∷ endings) = with_start start (transcript (next ending) endings)

-- each start that may come, whatever the endings, is one of these
abbrev pub EachStart : (Start → Type 0) → Play → Type 0
EachStart P Over = Unit {0}
EachStart P (Print text next) = EachStart P next
EachStart P (Run start next) = P start × ((ending : Ending) → EachStart P (next ending))
