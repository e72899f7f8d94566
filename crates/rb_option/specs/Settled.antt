-- The values that a job's options have in a run, or why what is given is refused.
use Rattle.std.specs.Prelude.{◌≡◌, ℕ, Bool, true, not, ◌||◌, List, [], ◌∷◌, ◌++◌, find, bytes_eq, Option, Some, None, option_map, Result, Err, if◌then◌else◌}
use Rattle.std.specs.List.{list_all, list_any, filter_map}
use Rattle.std.specs.Option.{option_or}
use Rattle.rb_causes.specs.Texts.{is_empty, has_text}
use Rattle.rb_causes.specs.declared.items.Prop.{Prop}
use Rattle.rb_causes.specs.Causes.{unless}
use Rattle.rb_text.specs.Matching.{matches_whole}
use Rattle.rb_option.specs.Parting.{parts_at}
use Rattle.rb_option.specs.declared.option_def.OptionDef.{OptionDef}
use Rattle.rb_option.specs.declared.option_err.OptionFault.{OptionFault}
use Rattle.rb_option.specs.declared.option_err.OptionKind.{OptionKind}
use Rattle.rb_option.specs.declared.option_err.OptionErr.{OptionErr}
use Rattle.rb_option.specs.declared.option_err.OptionErr.TheVariants.{Fault, NoMemory}
use Rattle.rb_option.specs.declared.option_err.OptionKind.TheVariants.{Unknown, Missing, NotAllowed, NoMatch, Twice}

-- one of these options has the name
abbrev pub has_option : List OptionDef → List ℕ → Bool
has_option options name = list_any (λ option. bytes_eq option.name name) options

-- one of these values has the name
abbrev pub has_value : List Prop → List ℕ → Bool
has_value values name = list_any (λ value. bytes_eq value.key name) values

-- what is wrong with a given value behind those before it
abbrev pub given_flaw : List OptionDef → List Prop → Prop → Option OptionKind
given_flaw options before value =
    if not (has_option options value.key) then Some Unknown
    else if has_value before value.key then Some Twice
    else None

-- a flaw under its name
abbrev pub named_flaw : List ℕ → Option OptionKind → Option OptionFault
named_flaw name flaw = option_map (λ kind. record { name = name; kind = kind }) flaw

-- the first of the given values that is none of the options', or is given again
abbrev pub given_fault : List OptionDef → List Prop → List Prop → Option OptionFault
given_fault options before [] = None
given_fault options before (value ∷ values) =
    option_or (named_flaw value.key (given_flaw options before value))
    (given_fault options (before ++ value ∷ []) values)

-- the text that is given under a name
abbrev pub given_text : List Prop → List ℕ → Option (List ℕ)
given_text given name =
    option_map (λ value. value.text) (find (λ value. bytes_eq value.key name) given)

-- the value of an option: the given one, else its default
abbrev pub settled_value : List Prop → OptionDef → Option (List ℕ)
settled_value given option = option_or (given_text given option.name) option.default

-- the parts of a value that are looked at one by one
abbrev pub value_parts : OptionDef → List ℕ → List (List ℕ)
value_parts option value =
    if option.multivalued then parts_at option.delimiter value else value ∷ []

-- a part is one of the values, where these are enforced
abbrev pub is_part_allowed : OptionDef → List ℕ → Bool
is_part_allowed option part = not option.enforced || has_text option.values part

-- a pattern matches a part whole, where there is one
abbrev pub is_matched : Option (List ℕ) → List ℕ → Bool
is_matched None part = true
is_matched (Some pattern) part = matches_whole pattern part

-- what is wrong with the parts of a value: all are looked up before any is matched
abbrev pub parts_flaw : OptionDef → List (List ℕ) → Option OptionKind
parts_flaw option parts =
    if not (list_all (is_part_allowed option) parts) then Some NotAllowed
    else if not (list_all (is_matched option.pattern) parts) then Some NoMatch
    else None

-- what is wrong where there is no value, or an empty one
abbrev pub empty_flaw : OptionDef → Option OptionKind
empty_flaw option = if option.required then Some Missing else None

-- what is wrong with the value of an option
abbrev pub option_flaw : OptionDef → Option (List ℕ) → Option OptionKind
option_flaw option None = empty_flaw option
option_flaw option (Some value) =
    if is_empty value then empty_flaw option else parts_flaw option (value_parts option value)

-- the first option whose value is refused
abbrev pub option_fault : List Prop → List OptionDef → Option OptionFault
option_fault given [] = None
option_fault given (option ∷ options) =
    option_or (named_flaw option.name (option_flaw option (settled_value given option)))
    (option_fault given options)

-- an option with its value, if it has one
abbrev pub settled_option : List Prop → OptionDef → Option Prop
settled_option given option =
    option_map (λ text. record { key = option.name; text = text }) (settled_value given option)

-- the options that have a value, in the job's order
abbrev pub settled_values : List OptionDef → List Prop → List Prop
settled_values options given = filter_map (settled_option given) options

-- the given values are looked at before the options
abbrev pub settling_fault : List OptionDef → List Prop → Option OptionFault
settling_fault options given = option_or (given_fault options [] given) (option_fault given options)

-- the settled values, or the first fault
abbrev pub settled_of : List OptionDef → List Prop → Result (List Prop) OptionFault
settled_of options given = unless (settling_fault options given) (settled_values options given)

-- a refusal tells the fault, unless memory was wanting
abbrev pub IsOptionFault : Result (List Prop) OptionFault → OptionErr → Type 0
IsOptionFault settled (Fault fault) = settled ≡ Err fault
IsOptionFault settled NoMemory = Unit {0}

-- the same of the options alone
abbrev pub IsFaultIn : Option OptionFault → OptionErr → Type 0
IsFaultIn found (Fault fault) = found ≡ Some fault
IsFaultIn found NoMemory = Unit {0}
