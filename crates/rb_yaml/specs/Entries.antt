-- Entries of a map, but for their values.
use Rattle.std.specs.Prelude.{ℕ, List, [], Option, Some, None, Result, Ok, Err, if◌then◌else◌}
use Rattle.rb_causes.specs.Texts.{has_text}
use Rattle.rb_yaml.specs.declared.flaw.Flaw.{Flaw}
use Rattle.rb_yaml.specs.declared.flaw.Flaw.TheVariants.{Form, DuplicateKey}
use Rattle.rb_yaml.specs.Faults.{fault_at}
use Rattle.rb_yaml.specs.Scalars.{TreeReading}

-- what is wrong with a key after these
abbrev pub new_key_flaw : List (List ℕ) → Result (List ℕ) Flaw → Option Flaw
new_key_flaw seen (Err flaw) = Some flaw
new_key_flaw seen (Ok key) = if has_text seen key then Some DuplicateKey else None

abbrev pub key_text : Result (List ℕ) Flaw → List ℕ
key_text (Ok key) = key
key_text (Err flaw) = []

-- a reading behind which a row may not stand
abbrev pub then_ill : TreeReading → ℕ → TreeReading
then_ill (Ok v) line = Err (fault_at line Form)
then_ill (Err fault) line = Err fault
