-- The documents of a file, before it is known of what they tell.
use Rattle.std.specs.Prelude.{◌≡◌, ℕ, List, Err}
use Rattle.rb_yaml.specs.Documents.{docs_of}
use Rattle.rb_tools.specs.declared.refusal.ToolRefusal.{ToolRefusal}
use Rattle.rb_tools.specs.declared.refusal.ToolRefusal.TheVariants as refusals

-- why bytes are no documents: they break a rule of YAML
abbrev pub IsNoYaml : List ℕ → ToolRefusal → Type 0
IsNoYaml bytes refusals.NoMemory = Unit {0}
IsNoYaml bytes (refusals.Yaml fault) = docs_of bytes ≡ Err fault
IsNoYaml bytes (refusals.Node fault) = ⊥
IsNoYaml bytes (refusals.Policy fault) = ⊥
IsNoYaml bytes (refusals.Job fault) = ⊥
IsNoYaml bytes (refusals.Filter error) = ⊥
IsNoYaml bytes (refusals.Crontab error) = ⊥
IsNoYaml bytes refusals.Zone = ⊥
