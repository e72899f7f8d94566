-- That canonical documents are read as the values that they were made of.
use Rattle.std.specs.Prelude.{◌≡◌, ℕ, List, map, Ok}
use Rattle.std.specs.List.{AllByRecursion as Each}
use Rattle.rb_yaml.specs.Documents.{docs_of}
use Rattle.rb_yaml.specs.Tree.{YamlTree}
use Rattle.rb_canon.specs.Values.{CanonTree}
use Rattle.rb_canon.specs.Layout.{canon_docs_of}
use Rattle.rb_canon_laws.specs.Writable.{Fits, TreeIsWritable}
use Rattle.rb_canon_laws.specs.Trees.{docs_at, lineless, tree_of}

-- the text of values that fit in is read as exactly these values, on the lines where they stand
abbrev pub CanonIsRead : Type 0
CanonIsRead =
    (values : List CanonTree) → Fits values →
    docs_of (canon_docs_of values) ≡ Ok (docs_at 1 values)

-- without their lines the trees that are read are those of the values
abbrev pub ShapeIsKept : Type 0
ShapeIsKept =
    (number : ℕ) (values : List CanonTree) →
    map lineless (docs_at number values) ≡ map tree_of values

-- what was read can be held again: each text and each key of documents that were read
abbrev pub ReadIsWritable : Type 0
ReadIsWritable =
    (bytes : List ℕ) (docs : List YamlTree) → docs_of bytes ≡ Ok docs → Each TreeIsWritable docs
