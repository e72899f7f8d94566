-- What settled values are beyond the rules that settle them.
use Rattle.std.proofs.Common.{◌≡◌, ℕ, true, false, not, bytes_eq, List, [], ◌∷◌, ◌++◌, map, Option, Some, None, Ok, refl, sym, ap, ◌∙◌, inl, inr}
use Rattle.std.specs.Prelude.{IfSome}
use Rattle.std.specs.List.{list_all}
use Rattle.std.specs.Option.{option_or}
use Rattle.std.proofs.lemmas.Bool.{cases_Bool, and_parts, or_parts, not-true}
use Rattle.rb_causes.specs.Texts.{is_empty, has_text, differ}
use Rattle.rb_causes.specs.declared.items.Prop.{Prop}
use Rattle.rb_causes.specs.Causes.{unless}
use Rattle.rb_option.specs.Settled.{given_fault, settled_value, value_parts, is_part_allowed, is_matched, parts_flaw, option_flaw, named_flaw, option_fault, settled_values, settling_fault}
use Rattle.rb_option.specs.Laws.{SettledNamesDiffer, SettledIsOfOption, has_listed_parts, EnforcedIsListed}
use Rattle.rb_option.specs.declared.option_def.OptionDef.{OptionDef}
use Rattle.rb_option.specs.declared.option_err.OptionKind.{OptionKind}
use Rattle.rb_option.specs.declared.option_err.OptionKind.TheVariants.{NotAllowed}

abbrev names : List OptionDef → List (List ℕ)
names options = map (λ option. option.name) options

abbrev keys : List Prop → List (List ℕ)
keys values = map (λ value. value.key) values

-- the values of the options that follow, with that of one in front, if it has one
abbrev onto_values : List ℕ → Option (List ℕ) → List Prop → List Prop
onto_values name None values = values
onto_values name (Some text) values = record { key = name; text = text } ∷ values

front_value : (option : OptionDef) (options : List OptionDef) (given : List Prop) (o : Option (List ℕ)) → settled_value given option ≡ o →
    settled_values (option ∷ options) given ≡ onto_values option.name o (settled_values options given)
front_value option options given None e = rw e refl
front_value option options given (Some text) e = rw e refl

-- ---- names

-- a name that no option has no value has
unnamed_by : (name option_name : List ℕ) (o : Option (List ℕ)) (values : List Prop) → bytes_eq option_name name ≡ false → has_text (keys values) name ≡ false →
    has_text (keys (onto_values option_name o values)) name ≡ false
unnamed_by name option_name None values d h = h
unnamed_by name option_name (Some text) values d h = rw (d, h) refl

unnamed : (options : List OptionDef) (given : List Prop) (name : List ℕ) → has_text (names options) name ≡ false → has_text (keys (settled_values options given)) name ≡ false
unnamed [] given name h = refl
unnamed (option ∷ options) given name h =
    let parts = or_parts (bytes_eq option.name name) (has_text (names options) name) h in
    ap (λ values. has_text (keys values) name) (front_value option options given (settled_value given option) refl)
    ∙ unnamed_by name option.name (settled_value given option) (settled_values options given) parts.0 (unnamed options given name parts.1)

differ_by : (name : List ℕ) (o : Option (List ℕ)) (values : List Prop) → has_text (keys values) name ≡ false → differ (keys values) ≡ true → differ (keys (onto_values name o values)) ≡ true
differ_by name None values h d = d
differ_by name (Some text) values h d = rw (h, d) refl

pub settled_names_differ : SettledNamesDiffer
settled_names_differ [] given h = refl
settled_names_differ (option ∷ options) given h =
    let parts = and_parts (not (has_text (names options) option.name)) (differ (names options)) h in
    ap (λ values. differ (keys values)) (front_value option options given (settled_value given option) refl)
    ∙ differ_by option.name (settled_value given option) (settled_values options given)
    (unnamed options given option.name (not-true (has_text (names options) option.name) parts.0)) (settled_names_differ options given parts.1)

-- ---- each value is that of an option

record IsOf (options : List OptionDef) (given : List Prop) (value : Prop) : Type 0 where
  front : List OptionDef
  option : OptionDef
  back : List OptionDef
  is : options ≡ front ++ option ∷ back
  name : option.name ≡ value.key
  text : settled_value given option ≡ Some value.text

later : (option : OptionDef) (options : List OptionDef) (given : List Prop) (value : Prop) → IsOf options given value → IsOf (option ∷ options) given value
later option options given value o = record {
  front = option ∷ o.front;
  option = o.option;
  back = o.back;
  is = ap (λ os. option ∷ os) o.is;
  name = o.name;
  text = o.text;
}

tail_is : {A : Type 0} {x y : A} {xs ys : List A} → x ∷ xs ≡ y ∷ ys → xs ≡ ys
tail_is h = cc

head_is : {A : Type 0} {x y : A} {xs ys : List A} → x ∷ xs ≡ y ∷ ys → x ≡ y
head_is h = cc

of_front : (option : OptionDef) (options : List OptionDef) (given before after : List Prop) (value : Prop) (o : Option (List ℕ)) → settled_value given option ≡ o →
    onto_values option.name o (settled_values options given) ≡ before ++ value ∷ after →
    ((before after : List Prop) (value : Prop) → settled_values options given ≡ before ++ value ∷ after → IsOf options given value) →
    IsOf (option ∷ options) given value
of_front option options given before after value None is e behind = later option options given value (behind before after value e)
of_front option options given [] after value (Some text) is e behind = record {
  front = [];
  option = option;
  back = options;
  is = refl;
  name = ap (λ p. p.key) (head_is e);
  text = is ∙ ap (λ p. Some p.text) (head_is e);
}
of_front option options given (b ∷ bs) after value (Some text) is e behind = later option options given value (behind bs after value (tail_is e))

of_one : (options : List OptionDef) (given before after : List Prop) (value : Prop) → settled_values options given ≡ before ++ value ∷ after → IsOf options given value
of_one [] given [] after value e = let never : ⊥ = cc in absurd never
of_one [] given (b ∷ bs) after value e = let never : ⊥ = cc in absurd never
of_one (option ∷ options) given before after value e =
    of_front option options given before after value (settled_value given option) refl
    (sym (front_value option options given (settled_value given option) refl) ∙ e) (of_one options given)

pub settled_is_of_option : SettledIsOfOption
settled_is_of_option options given before after value e =
    let o = of_one options given before after value e in
    (o.front, o.option, o.back, o.is, o.name, o.text)

-- ---- enforced options

none_left : {A : Type 0} (o p : Option A) → option_or o p ≡ None → (o ≡ None) × (p ≡ None)
none_left None p e = (refl, e)
none_left (Some x) p e = let never : ⊥ = cc in absurd never

faultless : {A F : Type 0} (o : Option F) (a b : A) → unless o a ≡ Ok b → o ≡ None
faultless None a b e = refl
faultless (Some fault) a b e = let never : ⊥ = cc in absurd never

flawless : (name : List ℕ) (flaw : Option OptionKind) → named_flaw name flaw ≡ None → flaw ≡ None
flawless name None e = refl
flawless name (Some kind) e = let never : ⊥ = cc in absurd never

-- no option among them has a fault
each_faultless : (front back : List OptionDef) (option : OptionDef) (given : List Prop) → option_fault given (front ++ option ∷ back) ≡ None →
    option_flaw option (settled_value given option) ≡ None
each_faultless [] back option given e =
    flawless option.name (option_flaw option (settled_value given option)) (none_left (named_flaw option.name (option_flaw option (settled_value given option))) (option_fault given back) e).0
each_faultless (x ∷ xs) back option given e =
    each_faultless xs back option given (none_left (named_flaw x.name (option_flaw x (settled_value given x))) (option_fault given (xs ++ option ∷ back)) e).1

all_allowed : (option : OptionDef) (parts : List (List ℕ)) → parts_flaw option parts ≡ None → list_all (is_part_allowed option) parts ≡ true
all_allowed option parts e =
    elim (cases_Bool (list_all (is_part_allowed option) parts)) [
      | inl s ↦ s
      | inr d ↦ let told : parts_flaw option parts ≡ Some NotAllowed = rw d refl in let never : ⊥ = cc in absurd never
    ]

allowed_listed : (option : OptionDef) (parts : List (List ℕ)) → option.enforced ≡ true → list_all (is_part_allowed option) parts ≡ true → list_all (has_text option.values) parts ≡ true
allowed_listed option [] enforced h = refl
allowed_listed option (p ∷ ps) enforced h =
    let parts = and_parts (is_part_allowed option p) (list_all (is_part_allowed option) ps) h in
    let here : has_text option.values p ≡ true = rw enforced at parts.0 in
    rw (here, allowed_listed option ps enforced parts.1) refl

listed : (option : OptionDef) (o : Option (List ℕ)) → option.enforced ≡ true → option_flaw option o ≡ None → IfSome o (λ text. has_listed_parts option text ≡ true)
listed option None enforced e = tt
listed option (Some text) enforced e =
    elim (cases_Bool (is_empty text)) [
      | inl s ↦ rw s refl
      | inr d ↦
          let flaw : parts_flaw option (value_parts option text) ≡ None = rw d at e in
          let all = allowed_listed option (value_parts option text) enforced (all_allowed option (value_parts option text) flaw) in
          rw (d, all) refl
    ]

pub enforced_is_listed : EnforcedIsListed
enforced_is_listed front back option given values e enforced =
    let none = faultless (settling_fault (front ++ option ∷ back) given) (settled_values (front ++ option ∷ back) given) values e in
    let later_none = (none_left (given_fault (front ++ option ∷ back) [] given) (option_fault given (front ++ option ∷ back)) none).1 in
    listed option (settled_value given option) enforced (each_faultless front back option given later_none)

-- where there is no pattern each part is matched
all_matched : (parts : List (List ℕ)) → list_all (is_matched None) parts ≡ true
all_matched [] = refl
all_matched (part ∷ parts) = all_matched parts

pub matched_by_none : (pattern : Option (List ℕ)) (parts : List (List ℕ)) → pattern ≡ None
    → list_all (is_matched pattern) parts ≡ true
matched_by_none pattern parts is = ap (λ p. list_all (is_matched p) parts) is ∙ all_matched parts
