-- The flaw that is told of several lists of flaws, one behind the other.
use Rattle.std.proofs.Common.{◌≡◌, ℕ, Bool, true, false, cond, nat_le, List, [], ◌∷◌, ◌++◌, Option, Some, None, refl, ap, sym, ◌∙◌, arith}
use Rattle.std.specs.List.{flat_map}
use Rattle.std.proofs.lemmas.Bool.Decides.{nat_tests}
use Rattle.rb_acl_doc.specs.declared.fault.AclKind.{AclKind}
use Rattle.rb_yaml.specs.Tree.{YamlTree}
use Rattle.rb_values.specs.Values.{Entry, entries_in}
use Rattle.rb_acl_doc.specs.Forms.{Keys, Whole, in_entry, in_map, map_with}
use Rattle.rb_acl_doc.specs.Telling.{kind_rank, sooner, foremost_kind}

pub sooner_none : (a : Option AclKind) → sooner a None ≡ a
sooner_none None = refl
sooner_none (Some a) = refl

le_on : (a b c : ℕ) → nat_le a b ≡ true → nat_le b c ≡ true → nat_le a c ≡ true
le_on a b c h g = grind (arith, nat_tests)

gt_on : (a b c : ℕ) → nat_le a b ≡ false → nat_le b c ≡ false → nat_le a c ≡ false
gt_on a b c h g = grind (arith, nat_tests)

abbrev which : Bool → AclKind → AclKind → Option AclKind
which first a b = cond first (Some a) (Some b)

three : (a b c : AclKind) (ab bc : Bool) → nat_le (kind_rank a) (kind_rank b) ≡ ab
    → nat_le (kind_rank b) (kind_rank c) ≡ bc →
    sooner (which ab a b) (Some c) ≡ sooner (Some a) (which bc b c)
three a b c true true ab bc =
    ap (λ x. which x a c) (le_on (kind_rank a) (kind_rank b) (kind_rank c) ab bc)
    ∙ sym (ap (λ x. which x a b) ab)
three a b c true false ab bc = refl
three a b c false true ab bc =
    ap (λ x. which x b c) bc ∙ sym (ap (λ x. which x a b) ab)
three a b c false false ab bc =
    ap (λ x. which x b c) bc
    ∙ sym (ap (λ x. which x a c) (gt_on (kind_rank a) (kind_rank b) (kind_rank c) ab bc))

pub sooner-assoc : (a b c : Option AclKind) → sooner (sooner a b) c ≡ sooner a (sooner b c)
sooner-assoc None b c = refl
sooner-assoc (Some a) None c = refl
sooner-assoc (Some a) (Some b) None = sooner_none (sooner (Some a) (Some b))
sooner-assoc (Some a) (Some b) (Some c) =
    three a b c _ _ refl refl

pub foremost-append : (xs ys : List AclKind) → foremost_kind (xs ++ ys)
    ≡ sooner (foremost_kind xs) (foremost_kind ys)
foremost-append [] ys = refl
foremost-append (x ∷ xs) ys =
    ap (sooner (Some x)) (foremost-append xs ys)
    ∙ sym (sooner-assoc (Some x) (foremost_kind xs) (foremost_kind ys))

-- what is told so far, and what the rest has, are what the whole has
module _ {A : Type 0} (F : A → List AclKind) where
  pub flaw_on : (x : A) (left rest : List A) (before here after whole : Option AclKind)
      → left ≡ x ∷ rest → here ≡ foremost_kind (F x) → after ≡ sooner before here
      → sooner before (foremost_kind (flat_map F left)) ≡ whole
      → sooner after (foremost_kind (flat_map F rest)) ≡ whole
  flaw_on x left rest before here after whole split is made same =
      ap (λ o. sooner o (foremost_kind (flat_map F rest))) (made ∙ ap (sooner before) is)
      ∙ sooner-assoc before (foremost_kind (F x)) (foremost_kind (flat_map F rest))
      ∙ ap (sooner before) (sym (foremost-append (F x) (flat_map F rest))
      ∙ sym (ap (λ ys. foremost_kind (flat_map F ys)) split)) ∙ same

  pub flaw_over : (left : List A) (flaw whole : Option AclKind) → left ≡ []
      → sooner flaw (foremost_kind (flat_map F left)) ≡ whole → flaw ≡ whole
  flaw_over left flaw whole none same =
      sym (sooner_none flaw) ∙ sym (ap (λ ys. sooner flaw (foremost_kind (flat_map F ys))) none) ∙ same

-- the flaw of a map: of what is in it, and behind that of the map as a whole
pub map_told : (keys : Keys) (whole : Whole) (key : List ℕ) (value : YamlTree) (es : List Entry)
    (inner outer both : Option AclKind) → Some es ≡ entries_in value
    → inner ≡ foremost_kind (flat_map (in_entry keys) es) → outer ≡ foremost_kind (whole key es)
    → both ≡ sooner inner outer → both ≡ foremost_kind (map_with keys whole key value)
map_told keys whole key value es inner outer both is in_it of_it made =
    made ∙ ap (λ o. sooner o outer) in_it
    ∙ ap (sooner (foremost_kind (flat_map (in_entry keys) es))) of_it
    ∙ sym (foremost-append (flat_map (in_entry keys) es) (whole key es))
    ∙ ap (λ o. foremost_kind (in_map keys whole key o)) is
