-- Values as the code holds them.
use Rattle.std.specs.Prelude.{List, map}
use Rattle.rb_canon.specs.declared.value.Canon.{Canon, fold-Canon}
use Rattle.rb_canon.specs.declared.value.Canon.TheOpen.{Canon-F, Field-F}
use Rattle.rb_canon.specs.declared.value.Field.{Field, fold-Field}
use Rattle.rb_canon.specs.declared.value.Key.{Key}
use Rattle.rb_canon.specs.declared.value.Key.TheVariants as keys
use Rattle.rb_canon.specs.Values.{CanonKey, plain, quoted, CanonTree, one_text, list_of, map_of}

abbrev pub key_view : Key → CanonKey
key_view (keys.Plain key) = plain key
key_view (keys.Quoted key) = quoted key

-- one level, with each value inside already seen as its tree
abbrev pub canon_step : Canon-F CanonTree (CanonKey × CanonTree) → CanonTree
canon_step (Canon-F.Text text) = one_text text
canon_step (Canon-F.List items) = list_of items.items
canon_step (Canon-F.Map fields) = map_of fields.items

abbrev pub field_step : Field-F CanonTree (CanonKey × CanonTree) → CanonKey × CanonTree
field_step f = (key_view f.key, f.value)

abbrev pub canon_tree : Canon → CanonTree
canon_tree = fold-Canon CanonTree (CanonKey × CanonTree) canon_step field_step

abbrev pub field_view : Field → CanonKey × CanonTree
field_view = fold-Field CanonTree (CanonKey × CanonTree) canon_step field_step

abbrev pub canon_trees : List Canon → List CanonTree
canon_trees values = map canon_tree values
