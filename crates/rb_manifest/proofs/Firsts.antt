-- The first flaw of several lists of flaws, one behind the other.
use Rattle.std.proofs.Common.{◌≡◌, ℕ, Bool, true, false, cond, List, [], ◌∷◌, ◌++◌, map, filter, slice_get, Option, Some, None, Result, Ok, Err, IfOk, is_some, refl, ap, sym, ◌∙◌, arith}
use Rattle.std.specs.List.{flat_map}
use Rattle.rb_causes.specs.Texts.{has_text}
use Rattle.rb_causes.specs.declared.trouble.NoMemory.{NoMemory}
use Rattle.rb_yaml.specs.Tree.{YamlTree}
use Rattle.rb_values.specs.Values.{map_entries}
use Rattle.rb_manifest.specs.Forms.{EntryKey, repeated, unknown_of}
use Rattle.rb_manifest.specs.declared.manifest_err.ManifestFault.{ManifestFault}
use Rattle.rb_manifest.specs.declared.manifest_err.ManifestFault.TheVariants.{Twice}

-- the first of a list
abbrev pub first : List ManifestFault → Option ManifestFault
first flaws = slice_get flaws 0

-- where the front has one, it is that of both
pub first_in_front : (xs ys : List ManifestFault) (flaw : ManifestFault) → Some flaw ≡ first xs
    → Some flaw ≡ first (xs ++ ys)
first_in_front [] ys flaw h = absurd (grind (arith, h))
first_in_front (x ∷ xs) ys flaw h = h

-- where it has none, it is that of what is behind
pub first_behind : (xs ys : List ManifestFault) (found : Option ManifestFault)
    → None ≡ first xs → found ≡ first ys → found ≡ first (xs ++ ys)
first_behind [] ys found h g = g
first_behind (x ∷ xs) ys found h g = absurd (grind (arith, h))

pub behind : (xs ys : List ManifestFault) → None ≡ first xs → first ys ≡ first (xs ++ ys)
behind xs ys none = first_behind xs ys (first ys) none refl

-- what is told of one list is told of another with the same first flaw
pub told_on : (r : Result (Option ManifestFault) NoMemory) (a b : Option ManifestFault) → a ≡ b
    → IfOk r (λ flaw. flaw ≡ a) → IfOk r (λ flaw. flaw ≡ b)
told_on (Ok flaw) a b same h = h ∙ same
told_on (Err e) a b same h = tt

-- ---- walks that end at the first flaw

-- a flaw for each item that is picked
module _ {A : Type 0} (f : A → ManifestFault) (p : A → Bool) where
  abbrev picked_by : Bool → A → List A → List ManifestFault
  picked_by b x xs = map f (cond b (x ∷ xs) xs)

  pub picked_here : (x : A) (left rest : List A) (whole : Option ManifestFault)
      → left ≡ x ∷ rest → p x ≡ true → first (map f (filter p left)) ≡ whole
      → Some (f x) ≡ whole
  picked_here x left rest whole split is same =
      sym (ap (λ b. first (picked_by b x (filter p rest))) is)
      ∙ sym (ap (λ xs. first (map f (filter p xs))) split) ∙ same

  pub picked_on : (x : A) (left rest : List A) (whole : Option ManifestFault)
      → left ≡ x ∷ rest → p x ≡ false → first (map f (filter p left)) ≡ whole
      → first (map f (filter p rest)) ≡ whole
  picked_on x left rest whole split is same =
      sym (ap (λ b. first (picked_by b x (filter p rest))) is)
      ∙ sym (ap (λ xs. first (map f (filter p xs))) split) ∙ same

  picked_append_by : (b : Bool) (x : A) (xs ys zs : List A) → map f zs ≡ map f xs ++ map f ys
      → picked_by b x zs ≡ picked_by b x xs ++ map f ys
  picked_append_by true x xs ys zs h = ap (λ more. f x ∷ more) h
  picked_append_by false x xs ys zs h = h

  pub picked_append : (xs ys : List A) → map f (filter p (xs ++ ys))
      ≡ map f (filter p xs) ++ map f (filter p ys)
  picked_append [] ys = refl
  picked_append (x ∷ xs) ys =
      picked_append_by (p x) x (filter p xs) (filter p ys) (filter p (xs ++ ys))
      (picked_append xs ys)

-- flaws of each item
module _ {A : Type 0} (F : A → List ManifestFault) where
  pub flat_here : (x : A) (left rest : List A) (found whole : Option ManifestFault)
      → left ≡ x ∷ rest → found ≡ first (F x) → is_some found ≡ true
      → first (flat_map F left) ≡ whole → found ≡ whole
  flat_here x left rest None whole split is some same = absurd (grind (arith, some))
  flat_here x left rest (Some flaw) whole split is some same =
      first_in_front (F x) (flat_map F rest) flaw is
      ∙ sym (ap (λ xs. first (flat_map F xs)) split) ∙ same

  pub flat_on : (x : A) (left rest : List A) (found whole : Option ManifestFault)
      → left ≡ x ∷ rest → found ≡ first (F x) → is_some found ≡ false
      → first (flat_map F left) ≡ whole → first (flat_map F rest) ≡ whole
  flat_on x left rest None whole split is some same =
      first_behind (F x) (flat_map F rest) (first (flat_map F rest)) is refl
      ∙ sym (ap (λ xs. first (flat_map F xs)) split) ∙ same
  flat_on x left rest (Some flaw) whole split is some same = absurd (grind (arith, some))

-- the keys of all entries that are none, entry by entry
pub unknown_flat : (keys : List EntryKey) (items : List YamlTree)
    → unknown_of keys (flat_map map_entries items)
    ≡ flat_map (λ item. unknown_of keys (map_entries item)) items
unknown_flat keys [] = refl
unknown_flat keys (item ∷ items) =
    picked_append _ _ (map_entries item) (flat_map map_entries items)
    ∙ ap (λ more. unknown_of keys (map_entries item) ++ more) (unknown_flat keys items)

-- ---- names that stand there twice

abbrev repeated_by : Bool → List ℕ → List (List ℕ) → List (List ℕ)
repeated_by b name more = cond b (name ∷ more) more

pub repeated_here : (before left rest : List (List ℕ)) (name : List ℕ)
    (whole : Option ManifestFault) → left ≡ name ∷ rest → has_text before name ≡ true
    → first (map Twice (repeated before left)) ≡ whole → Some (Twice name) ≡ whole
repeated_here before left rest name whole split is same =
    sym (ap (λ b. first (map Twice (repeated_by b name (repeated (before ++ name ∷ []) rest)))) is)
    ∙ sym (ap (λ xs. first (map Twice (repeated before xs))) split) ∙ same

pub repeated_on : (before left rest : List (List ℕ)) (name : List ℕ)
    (whole : Option ManifestFault) → left ≡ name ∷ rest → has_text before name ≡ false
    → first (map Twice (repeated before left)) ≡ whole
    → first (map Twice (repeated (before ++ name ∷ []) rest)) ≡ whole
repeated_on before left rest name whole split is same =
    sym (ap (λ b. first (map Twice (repeated_by b name (repeated (before ++ name ∷ []) rest)))) is)
    ∙ sym (ap (λ xs. first (map Twice (repeated before xs))) split) ∙ same
