-- What follows where a list of flaws is empty: of its parts, of what stands under a key, and of a
-- manifest that is read.
use Rattle.std.proofs.Common.{◌≡◌, ℕ, zero, suc, Bool, true, false, List, [], ◌∷◌, ◌++◌, map, slice_get, find, bytes_eq, Option, Some, None, option_map, unwrap_or, Result, Ok, Err, refl, ap, subst, arith}
use Rattle.std.specs.List.{flat_map}
use Rattle.rb_causes.proofs.Lists.{find_gives, some_is}
use Rattle.rb_causes.proofs.Texts.{text_is}
use Rattle.rb_causes.specs.Causes.{unless}
use Rattle.rb_yaml.specs.Tree.{YamlTree}
use Rattle.rb_values.specs.Values.{Entry, entries_in, value_at}
use Rattle.rb_manifest.specs.Forms.{Flaws, unless_holds}
use Rattle.rb_manifest.specs.Keys.{flaws_under, manifest_flaws, manifest_keys, root_flaws}
use Rattle.rb_manifest.specs.Manifests.{manifest_in, manifest_of, root_entries}
use Rattle.rb_manifest.specs.declared.manifest.Manifest.{Manifest}
use Rattle.rb_manifest.specs.declared.manifest_err.ManifestFault.{ManifestFault}
use Rattle.rb_manifest.proofs.Firsts.{first}

-- ---- parts of an empty list

no_first : (xs : Flaws) → first xs ≡ None → xs ≡ []
no_first [] h = refl
no_first (x ∷ xs) h = absurd (grind (arith, h))

pub none_in_front : (xs ys : Flaws) → xs ++ ys ≡ [] → xs ≡ []
none_in_front [] ys h = refl
none_in_front (x ∷ xs) ys h = absurd (grind (arith, h))

pub none_behind : (xs ys : Flaws) → xs ++ ys ≡ [] → ys ≡ []
none_behind [] ys h = h
none_behind (x ∷ xs) ys h = absurd (grind (arith, h))

none_of_item : {A : Type 0} (F : A → Flaws) (xs : List A) (j : ℕ) (y : A)
    → flat_map F xs ≡ [] → slice_get xs j ≡ Some y → F y ≡ []
none_of_item F [] j y h g = absurd (grind (arith, g))
none_of_item F (x ∷ xs) zero y h g =
    subst (λ z. F z ≡ []) (some_is x y g) (none_in_front (F x) (flat_map F xs) h)
none_of_item F (x ∷ xs) (suc j) y h g =
    none_of_item F xs j y (none_behind (F x) (flat_map F xs) h) g

pub holds : (b : Bool) (fault : ManifestFault) → unless_holds b fault ≡ [] → b ≡ true
holds true fault h = refl
holds false fault h = absurd (grind (arith, h))

-- what has no flaw was none
pub none_told : {A : Type 0} (f : A → ManifestFault) (xs : List A) → map f xs ≡ [] → xs ≡ []
none_told f [] h = refl
none_told f (x ∷ xs) h = absurd (grind (arith, h))

-- ---- what stands under a key

-- the entries have no flaw
abbrev pub AreFlawless : List Entry → Type 0
AreFlawless entries = flat_map (flaws_under manifest_keys) entries ≡ []

under_found : (entries : List Entry) (key : List ℕ) (value : YamlTree) (o : Option Entry)
    → find (λ e. bytes_eq e.0 key) entries ≡ o
    → option_map (λ (e : Entry). e.1) o ≡ Some value
    → AreFlawless entries → flaws_under manifest_keys (key, value) ≡ []
under_found entries key value None is there none = absurd (grind (arith, there))
under_found entries key value (Some e) is there none =
    let at = find_gives (λ x. bytes_eq x.0 key) entries e is in
    let same : e.1 ≡ value = some_is e.1 value there in
    subst (λ v. flaws_under manifest_keys (key, v) ≡ []) same
    (subst (λ k. flaws_under manifest_keys (k, e.1) ≡ []) (text_is e.0 key at.2)
    (none_of_item (flaws_under manifest_keys) entries at.0 e none at.1))

-- nor has what stands under a key
pub under : (entries : List Entry) (key : List ℕ) (value : YamlTree)
    → value_at entries key ≡ Some value
    → AreFlawless entries → flaws_under manifest_keys (key, value) ≡ []
under entries key value there none = under_found entries key value _ refl there none

-- ---- a manifest that is read

root_is_flawless : (o : Option (List Entry)) → first (root_flaws o) ≡ None
    → AreFlawless (unwrap_or o [])
root_is_flawless None h = absurd (grind (arith, h))
root_is_flawless (Some entries) h = no_first _ h

docs_are_flawless : (docs : List YamlTree) → first (manifest_flaws docs) ≡ None
    → AreFlawless (root_entries docs)
docs_are_flawless [] h = refl
docs_are_flawless (doc ∷ []) h = root_is_flawless (entries_in doc) h
docs_are_flawless (doc ∷ other ∷ docs) h = absurd (grind (arith, h))

abbrev read_or : Manifest → Result Manifest ManifestFault → Manifest
read_or other (Ok m) = m
read_or other (Err fault) = other

module _ (P : Manifest → Type 0) where
  read_by : (o : Option ManifestFault) (value m : Manifest) → unless o value ≡ Ok m
      → (o ≡ None → P value) → P m
  read_by None value m h so = subst P (ap (read_or value) h) (so refl)
  read_by (Some fault) value m h so = absurd (grind (arith, h))

  -- what holds of entries without a flaw holds of each manifest that is read
  pub of_each_read : ((entries : List Entry) → AreFlawless entries → P (manifest_in entries))
      → (docs : List YamlTree) (m : Manifest) → manifest_of docs ≡ Ok m → P m
  of_each_read so docs m read =
      read_by (first (manifest_flaws docs)) (manifest_in (root_entries docs)) m read
      (λ none. so (root_entries docs) (docs_are_flawless docs none))
