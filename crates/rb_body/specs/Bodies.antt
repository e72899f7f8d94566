-- The body of a request for a run.
use Rattle.std.specs.Prelude.{ℕ, Bool, true, false, ◌&&◌, List, [], ◌∷◌, codes, Option, Some, None, option_map, unwrap_or, Result, Ok, Err, ◌≡◌, if◌then◌else◌}
use Rattle.std.specs.Option.{option_and_then}
use Rattle.std.specs.Str.{is_utf8}
use Rattle.serde_json.specs.Data as json
use Rattle.serde_json.specs.Find.{get, get_member}
use Rattle.serde_json.specs.Read.{read as read_text}
use Rattle.rb_causes.specs.declared.items.Prop.{Prop}
use Rattle.rb_body.specs.declared.parts.BodyErr.{BodyErr}
use Rattle.rb_body.specs.declared.parts.BodyErr.TheVariants.{BadBody, NoMemory}
use Rattle.rb_body.specs.declared.parts.RunBody.{RunBody}

abbrev pub nothing_said : RunBody
nothing_said = record { options = None; args = None; filter = None }

-- the value that bytes stand for: they are a text, and `serde_json` reads it
abbrev pub value_in : List ℕ → Option json.Data
value_in bytes = if is_utf8 bytes then read_text bytes else None

-- ---- members: what is not there counts as null

-- the value of a key
abbrev pub member_or_null : List ℕ → json.Members → json.Data
member_or_null key members = unwrap_or (get_member key members) json.null

abbrev pub is_null : json.Data → Bool
is_null json.null = true
is_null other = false

-- a string, or null for none; nothing for any other value
abbrev pub string_if : json.Data → Option (Option (List ℕ))
string_if json.null = Some None
string_if (json.string text) = Some (Some text)
string_if other = None

-- ---- options

-- one more option, unless its value is null
abbrev pub option_onto : List ℕ → Option (List ℕ) → List Prop → List Prop
option_onto name None options = options
option_onto name (Some text) options = record { key = name; text = text } ∷ options

-- the options of an object, in byte order of their names; nothing where a value is neither a string
-- nor null
abbrev pub options_in : json.Members → Option (List Prop)
options_in json.no_members = Some []
options_in (json.member name value members) =
    option_and_then (λ text. option_map (option_onto name text) (options_in members))
    (string_if value)

-- those of an object, or null for none
abbrev pub options_if : json.Data → Option (Option (List Prop))
options_if json.null = Some None
options_if (json.object members) = option_map (λ options. Some options) (options_in members)
options_if other = None

-- ---- the whole body

abbrev pub said_with : Option (Option (List Prop)) → Option (Option (List ℕ))
    → Option (Option (List ℕ)) → Option RunBody
said_with (Some options) (Some args) (Some filter) =
    Some (record { options = options; args = args; filter = filter })
said_with options args filter = None

-- a run is not asked for in another's name, nor for later
abbrev pub is_plain_ask : json.Members → Bool
is_plain_ask members =
    is_null (member_or_null (codes "asUser") members)
    && is_null (member_or_null (codes "runAtTime") members)

-- what an object says; other keys are passed over
abbrev pub said_by : json.Members → Option RunBody
said_by members =
    if is_plain_ask members
    then said_with (options_if (member_or_null (codes "options") members))
    (string_if (member_or_null (codes "argString") members))
    (string_if (member_or_null (codes "filter") members))
    else None

abbrev pub said_in : Option json.Data → Option RunBody
said_in (Some (json.object members)) = said_by members
said_in other = None

-- what a body says: nothing where it is empty, and else it has to be an object
abbrev pub run_body : List ℕ → Option RunBody
run_body [] = Some nothing_said
run_body (b ∷ bytes) = said_in (value_in (b ∷ bytes))

-- ---- over a value that is taken for an object

-- the value under a key
abbrev pub value_at : List ℕ → json.Data → json.Data
value_at key value = unwrap_or (get key value) json.null

abbrev pub is_plain_value : json.Data → Bool
is_plain_value value =
    is_null (value_at (codes "asUser") value) && is_null (value_at (codes "runAtTime") value)

-- the same that `said_by` says of an object's members
abbrev pub said_of : json.Data → Option RunBody
said_of value =
    if is_plain_value value
    then said_with (options_if (value_at (codes "options") value))
    (string_if (value_at (codes "argString") value))
    (string_if (value_at (codes "filter") value))
    else None

-- What a reader gives: what is said, nothing where something is not read, or want of memory.
abbrev pub Reads : {A : Type 0} → Option A → Result A BodyErr → Type 0
Reads said (Ok x) = said ≡ Some x
Reads said (Err BadBody) = said ≡ None
Reads said (Err NoMemory) = Unit {0}
