-- What settled values are beyond the rules that settle them.
use Rattle.std.specs.Prelude.{◌≡◌, ◌||◌, ℕ, Bool, true, map, List, ◌∷◌, ◌++◌, Some, IfSome, Ok}
use Rattle.std.specs.List.{list_all}
use Rattle.rb_causes.specs.Texts.{differ, has_text, is_empty}
use Rattle.rb_causes.specs.declared.items.Prop.{Prop}
use Rattle.rb_option.specs.Settled.{settled_of, settled_values, settled_value, value_parts}
use Rattle.rb_option.specs.declared.option_def.OptionDef.{OptionDef}

-- where the options' names differ, those of the values do
abbrev pub SettledNamesDiffer : Type 0
SettledNamesDiffer =
    (options : List OptionDef) (given : List Prop) →
    differ (map (λ option. option.name) options) ≡ true →
    differ (map (λ value. value.key) (settled_values options given)) ≡ true

-- each value is that of an option: the given one, else its default
abbrev pub SettledIsOfOption : Type 0
SettledIsOfOption =
    (options : List OptionDef) (given before after : List Prop) (value : Prop) →
    settled_values options given ≡ before ++ value ∷ after →
    (front : List OptionDef) × (option : OptionDef) × (back : List OptionDef)
    × (options ≡ front ++ option ∷ back) × (option.name ≡ value.key)
    × (settled_value given option ≡ Some value.text)

-- the value is empty, or each part of it is one of the option's values
abbrev pub has_listed_parts : OptionDef → List ℕ → Bool
has_listed_parts option text =
    is_empty text || list_all (has_text option.values) (value_parts option text)

-- where values are settled, that of an enforced option is so
abbrev pub EnforcedIsListed : Type 0
EnforcedIsListed =
    (front back : List OptionDef) (option : OptionDef) (given values : List Prop) →
    settled_of (front ++ option ∷ back) given ≡ Ok values → option.enforced ≡ true →
    IfSome (settled_value given option) (λ text. has_listed_parts option text ≡ true)
