-- The keys that a job lacks, behind all that is wrong with those that it has.
use Rattle.std.specs.Prelude.{ℕ, Bool, not, ◌&&◌, List, ◌++◌, codes}
use Rattle.std.specs.List.{list_any}
use Rattle.rb_yaml.specs.Tree.{YamlTree}
use Rattle.rb_values.specs.Values.{Entry, has_key, map_entries, entries_at, items_at}
use Rattle.rb_job.specs.TextForms.{Doubt, doubt_unless}
use Rattle.rb_job.specs.declared.fault.JobKind.TheVariants as kind

-- the items of a job's sequence
abbrev pub commands_of : List Entry → List YamlTree
commands_of job = items_at (entries_at job (codes "sequence")) (codes "commands")

abbrev pub lacks : List Entry → List ℕ → Bool
lacks entries key = not (has_key entries key)

abbrev pub is_nameless : YamlTree → Bool
is_nameless item = lacks (map_entries item) (codes "name")

-- a command that refers to a job without a name
abbrev pub refers_nowhere : YamlTree → Bool
refers_nowhere command =
    has_key (map_entries command) (codes "jobref")
    && lacks (entries_at (map_entries command) (codes "jobref")) (codes "name")

-- what is missing, if it is
abbrev pub lacking : Bool → List ℕ → List Doubt
lacking is_missing key = doubt_unless (not is_missing) key kind.MissingKey

abbrev pub missing_doubts : List Entry → List Doubt
missing_doubts job =
    lacking (lacks job (codes "name")) (codes "name")
    ++ (lacking (lacks job (codes "sequence")) (codes "sequence")
    ++ (lacking (lacks (entries_at job (codes "sequence")) (codes "commands")) (codes "commands")
    ++ (lacking (list_any is_nameless (items_at job (codes "options"))) (codes "name")
    ++ lacking (list_any refers_nowhere (commands_of job)) (codes "name"))))
