-- The trees of documents without their lines.
use Rattle.std.proofs.Common.{◌≡◌, ℕ, ◌+◌, [], ◌∷◌, refl, ap}
use Rattle.rb_yaml.specs.Tree.{seq, mapping}
use Rattle.rb_canon.specs.Values.{CanonTree, one_text, items_in, fields_in, Canons, no_canon, canon, Fields, no_field, field}
use Rattle.rb_canon_laws.specs.Trees.{height, height_behind, tree_at, trees_at, entries_at, tree_behind, lineless, items_lineless, entries_lineless, tree_of, trees_in, entries_in}
use Rattle.rb_canon_laws.specs.Laws.{ShapeIsKept}

mutual
  tree_shape : (n : ℕ) (value : CanonTree) → lineless (tree_at n value) ≡ tree_of value
  tree_shape n (one_text text) = refl
  tree_shape n (items_in values) = ap (seq 0) (trees_shape n values)
  tree_shape n (fields_in fields) = ap (mapping 0) (entries_shape n fields)

  trees_shape : (n : ℕ) (values : Canons) → items_lineless (trees_at n values) ≡ trees_in values
  trees_shape n no_canon = refl
  trees_shape n (canon value values) =
      let one = tree_shape n value in
      let more = trees_shape (n + height value) values in
      cc

  entries_shape : (n : ℕ) (fields : Fields) → entries_lineless (entries_at n fields) ≡ entries_in fields
  entries_shape n no_field = refl
  entries_shape n (field key value fields) =
      let one = behind_shape n value in
      let more = entries_shape (n + height_behind value) fields in
      cc

  behind_shape : (n : ℕ) (value : CanonTree) → lineless (tree_behind n value) ≡ tree_of value
  behind_shape n (one_text text) = refl
  behind_shape n (items_in no_canon) = refl
  behind_shape n (items_in (canon value values)) = ap (seq 0) (trees_shape (n + 1) (canon value values))
  behind_shape n (fields_in no_field) = refl
  behind_shape n (fields_in (field key value fields)) = ap (mapping 0) (entries_shape (n + 1) (field key value fields))

pub shape_is_kept : ShapeIsKept
shape_is_kept n [] = refl
shape_is_kept n (value ∷ values) =
    let one = tree_shape n value in
    let more = shape_is_kept (n + height value + 1) values in
    cc
