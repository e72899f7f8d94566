-- What documents list as jobs.
use Rattle.std.specs.Prelude.{ℕ, ◌+◌, List, [], ◌∷◌, ◌++◌, Option, Some, None}
use Rattle.rb_yaml.specs.Tree.{YamlTree, scalar, seq, mapping}
use Rattle.rb_values.specs.Values.{tree_list}

-- an item of a document with its place in it, from 0; a document that is no sequence lists one
-- without a value
abbrev pub ListedJob : Type 0
ListedJob = ℕ × Option YamlTree

abbrev pub items_listed : ℕ → List YamlTree → List ListedJob
items_listed place [] = []
items_listed place (item ∷ items) = (place, Some item) ∷ items_listed (place + 1) items

abbrev pub listings_in : YamlTree → List ListedJob
listings_in (scalar line text) = (0, None) ∷ []
listings_in (seq line items) = items_listed 0 (tree_list items)
listings_in (mapping line entries) = (0, None) ∷ []

-- what documents list, in their order
abbrev pub listings_of : List YamlTree → List ListedJob
listings_of [] = []
listings_of (doc ∷ docs) = listings_in doc ++ listings_of docs
