-- What is looked up of a script while it is read.
use Rattle.std.specs.Prelude.{◌≡◌, ℕ, List, map, bytes_eq}
use Rattle.std.specs.BTreeMap.{get_by_text}
use Rattle.std.specs.List.{position_from}
use Rattle.rb_causes.specs.SeenTexts.{HasSeen}
use Rattle.rb_top.specs.declared.job_places.JobPlaces.{JobPlaces}
use Rattle.rb_top.specs.declared.names.Names.{Names}
use Rattle.rb_top.specs.declared.script.DrillJob.{DrillJob}
use Rattle.rb_top.specs.declared.script.Script.{Script}

abbrev pub ids_of : List DrillJob → List (List ℕ)
ids_of jobs = map (λ j. j.id) jobs

-- each id's place among these is told, its first, and of no other id a place
abbrev pub HasPlaces : JobPlaces → List (List ℕ) → Type 0
HasPlaces places ids =
    (id : List ℕ) → get_by_text places.places id ≡ position_from (λ known. bytes_eq known id) 0 ids

-- the names are those of the script
pub record HasNames (names : Names) (s : Script) : Type 0 where
  pub nodes : HasSeen names.nodes s.nodes
  pub jobs : HasPlaces names.jobs (ids_of s.jobs)
