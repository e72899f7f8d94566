-- What a row says was asked of a run, as it is read.
use Rattle.std.specs.Prelude.{◌≡◌, ℕ, List, Option, None, option_map}
use Rattle.serde_json.specs.Data.{Data, array}
use Rattle.rb_causes.specs.declared.items.Prop.{Prop}
use Rattle.rb_log.specs.Asks.{DueAsk, ask_of, given_in}
use Rattle.rb_runs.specs.declared.naming.AskedOf.{AskedOf}

-- it is asked of the job of this id
abbrev pub ask_as : List ℕ → AskedOf → DueAsk
ask_as job a = (record { job = job; given = a.given; filter = a.filter }, a.due)

abbrev pub asks_of : List ℕ → Option AskedOf → Option DueAsk
asks_of job asked = option_map (ask_as job) asked

-- a row that holds this body asks so, whichever its job is
abbrev pub IsAskIn : List ℕ → Option AskedOf → Type 0
IsAskIn body asked = (job : List ℕ) → asks_of job asked ≡ ask_of job body

-- what is given stands in an array
abbrev pub given_of : Data → Option (List Prop)
given_of (array given) = given_in given
given_of other = None
