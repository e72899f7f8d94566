-- Which documents a text holds.
use Rattle.std.specs.Prelude.{◌≡◌, ◌≤◌, ℕ, ◌^◌, true, false, List, [], ◌∷◌, ◌++◌, length}
use Rattle.std.specs.Str.{is_utf8}
use Rattle.std.specs.List.{AllByRecursion as Each}
use Rattle.rb_causes.specs.Signs.{hyphen}
use Rattle.rb_yaml.specs.Rows.{Row, rows_of, is_content, is_tabbed}
use Rattle.rb_yaml.specs.Signs.{is_clear}
use Rattle.rb_yaml.specs.Markers.{is_marker}
use Rattle.rb_yaml.specs.Tree.{YamlTree}
use Rattle.rb_yaml.specs.Documents.{has_control, without_mark}
use Rattle.rb_yaml_laws.specs.Bare.{Bare}
use Rattle.rb_yaml_laws.specs.Nodes.{Node, depth}

-- The rows cut into bodies at the rows `---`. No row of a body is a marker.
pub data Parted : List Row → List (List Row) → Type 0 where
  -- no marker
  last : {rows : List Row} → Each (λ row. is_marker row ≡ false) rows → Parted rows (rows ∷ [])
  -- the rows up to a marker, which only a comment may follow
  more : {bodies : List (List Row)} {rest : List ℕ} (body : List Row) (mark : Row)
      (rows : List Row) → Each (λ row. is_marker row ≡ false) body →
      mark.indent ≡ 0 → mark.text ≡ hyphen ∷ hyphen ∷ hyphen ∷ rest → is_clear rest ≡ true →
      Parted rows bodies → Parted (body ++ mark ∷ rows) (body ∷ bodies)

-- The documents of the bodies. A body without content has none; any other holds one node, nested at
-- most 32 deep.
pub data Bodies : List (List Row) → List YamlTree → Type 0 where
  -- nothing is left
  no_body : Bodies [] []
  -- no content
  passed : {body : List Row} {bodies : List (List Row)} {docs : List YamlTree} → Bare body →
      Bodies bodies docs → Bodies (body ∷ bodies) docs
  -- one node, from the first row with content to the body's end
  document : {bodies : List (List Row)} {root : YamlTree} {docs : List YamlTree} (before : List Row)
      (head : Row) (behind : List Row) → Bare before →
      is_content head ≡ true → is_tabbed head ≡ false → Node 0 head behind root →
      depth root ≤ 32 → Bodies bodies docs →
      Bodies ((before ++ head ∷ behind) ∷ bodies) (root ∷ docs)

-- Rows and the documents that they hold: no control character stands in them, and their bodies have
-- these documents.
pub record HoldsDocs (rows : List Row) (docs : List YamlTree) : Type 0 where
  pub no_control : Each (λ row. has_control row.text ≡ false) rows
  pub bodies : List (List Row)
  pub parted : Parted rows bodies
  pub held : Bodies bodies docs

-- A text and its documents. This is what a reader of rb_yaml must believe.
pub record Docs (bytes : List ℕ) (docs : List YamlTree) : Type 0 where
  pub short : length bytes ≤ 2 ^ 20
  pub encoded : is_utf8 bytes ≡ true
  pub lines : HoldsDocs (rows_of (without_mark bytes)) docs
