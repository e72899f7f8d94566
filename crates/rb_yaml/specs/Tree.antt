-- A value of a document without where it lies in memory.
use Rattle.std.specs.Prelude.{ℕ, List, [], ◌∷◌, map}
use Rattle.rb_yaml.specs.declared.yaml.Yaml.{Yaml, fold-Yaml}
use Rattle.rb_yaml.specs.declared.yaml.Yaml.TheOpen.{Yaml-F, Pair-F}
use Rattle.rb_yaml.specs.declared.yaml.Pair.{Pair, fold-Pair}
use Rattle.rb_yaml.specs.declared.yaml.Doc.{Doc}

mutual
  pub data YamlTree : Type 0 where
    scalar : ℕ → List ℕ → YamlTree
    seq : ℕ → Trees → YamlTree
    mapping : ℕ → Entries → YamlTree

  pub data Trees : Type 0 where
    no_tree : Trees
    tree : YamlTree → Trees → Trees

  pub data Entries : Type 0 where
    no_entry : Entries
    entry : List ℕ → YamlTree → Entries → Entries

abbrev pub trees_of : List YamlTree → Trees
trees_of [] = no_tree
trees_of (t ∷ ts) = tree t (trees_of ts)

abbrev pub entries_of : List (List ℕ × YamlTree) → Entries
entries_of [] = no_entry
entries_of (e ∷ es) = entry e.0 e.1 (entries_of es)

-- one level, with each value inside already seen as its tree
abbrev pub yaml_step : Yaml-F YamlTree (List ℕ × YamlTree) → YamlTree
yaml_step (Yaml-F.Scalar line text) = scalar line text
yaml_step (Yaml-F.Seq line items) = seq line (trees_of items.items)
yaml_step (Yaml-F.Map line entries) = mapping line (entries_of entries.items)

abbrev pub pair_step : Pair-F YamlTree (List ℕ × YamlTree) → List ℕ × YamlTree
pair_step p = (p.key, p.value)

abbrev pub yaml_tree : Yaml → YamlTree
yaml_tree = fold-Yaml YamlTree (List ℕ × YamlTree) yaml_step pair_step

abbrev pub pair_tree : Pair → List ℕ × YamlTree
pair_tree = fold-Pair YamlTree (List ℕ × YamlTree) yaml_step pair_step

abbrev pub docs_tree : List Doc → List YamlTree
docs_tree docs = map (λ d. yaml_tree d.root) docs
