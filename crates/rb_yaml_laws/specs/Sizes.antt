-- How many values a text can hold.
use Rattle.std.specs.Prelude.{◌≡◌, ◌≤◌, ℕ, ◌+◌, List, length, Ok}
use Rattle.rb_yaml.specs.Tree.{YamlTree}
use Rattle.rb_yaml.specs.TreeSizes.{docs_size}
use Rattle.rb_yaml.specs.Documents.{docs_of}

-- documents that are read of a text have at most one value more than the text has bytes
abbrev pub SizeIsBounded : Type 0
SizeIsBounded =
    (bytes : List ℕ) (docs : List YamlTree) → docs_of bytes ≡ Ok docs →
    docs_size docs ≤ length bytes + 1
