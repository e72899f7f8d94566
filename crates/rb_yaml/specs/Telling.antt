-- Faults as they are told.
use Rattle.std.specs.Prelude.{◌≡◌, ℕ, suc, ◌^◌, Bool, true, false, not, nat_lt, List, take, length, count_by, codes, Option, Some, None, Result, Ok, Err, if◌then◌else◌}
use Rattle.std.specs.Str.{is_utf8}
use Rattle.std.specs.Str.Lossy.{utf8_valid_len}
use Rattle.rb_causes.specs.Texts.{is_line_feed}
use Rattle.rb_yaml.specs.declared.fault.YamlErr.{YamlErr}
use Rattle.rb_yaml.specs.declared.fault.YamlErr.TheVariants as errors
use Rattle.rb_yaml.specs.declared.fault.YamlFault.{YamlFault}
use Rattle.rb_yaml.specs.declared.fault.YamlKind.{YamlKind}
use Rattle.rb_yaml.specs.declared.fault.YamlKind.TheVariants as kinds
use Rattle.rb_yaml.specs.declared.flaw.Excluded.{Excluded}
use Rattle.rb_yaml.specs.declared.flaw.Excluded.TheVariants.{Anchor, Alias, Tag, FoldedScalar, ComplexKey, LiteralForm, NestedFlow, MultiLineFlow, MultiLineDoubleQuote, InlineDocument, DocumentEnd, Directive}
use Rattle.rb_yaml.specs.declared.flaw.Flaw.{Flaw}
use Rattle.rb_yaml.specs.declared.flaw.Flaw.TheVariants.{Tab, Indent, OutOfProfile, Form, DuplicateKey, TooDeep}
use Rattle.rb_yaml.specs.declared.flaw.Fault.{Fault}

-- the name by which a form that is not read is refused
abbrev pub excluded_name : Excluded → List ℕ
excluded_name Anchor = codes "anchor"
excluded_name Alias = codes "alias"
excluded_name Tag = codes "tag"
excluded_name FoldedScalar = codes "folded scalar"
excluded_name ComplexKey = codes "complex key"
excluded_name LiteralForm = codes "literal form"
excluded_name NestedFlow = codes "nested flow"
excluded_name MultiLineFlow = codes "multi-line flow"
excluded_name MultiLineDoubleQuote = codes "multi-line double quote"
excluded_name InlineDocument = codes "inline document"
excluded_name DocumentEnd = codes "document end"
excluded_name Directive = codes "directive"

abbrev pub kind_of : Flaw → YamlKind
kind_of Tab = kinds.Tab
kind_of Indent = kinds.Indent
kind_of (OutOfProfile excluded) = kinds.OutOfProfile (excluded_name excluded)
kind_of Form = kinds.Form
kind_of DuplicateKey = kinds.DuplicateKey
kind_of TooDeep = kinds.TooDeep

-- the flaw is told by a name
abbrev pub is_told_by_name : Flaw → Bool
is_told_by_name Tab = false
is_told_by_name Indent = false
is_told_by_name (OutOfProfile excluded) = true
is_told_by_name Form = false
is_told_by_name DuplicateKey = false
is_told_by_name TooDeep = false

abbrev pub yaml_fault : YamlKind → ℕ → YamlFault
yaml_fault kind line = record { kind = kind; line = line }

-- what is wrong with a text as a whole: its size, or else the line of its first bad byte
abbrev pub whole_fault : List ℕ → Option YamlFault
whole_fault bytes =
    if nat_lt (2 ^ 20) (length bytes) then Some (yaml_fault kinds.TooLarge 1)
    else if not (is_utf8 bytes)
    then Some (yaml_fault kinds.NotUtf8
    (suc (count_by is_line_feed (take (utf8_valid_len bytes) bytes))))
    else None

-- a reading with its fault as it is told
abbrev pub reported : {A : Type 0} → Result A Fault → Result A YamlFault
reported (Ok x) = Ok x
reported (Err fault) = Err (yaml_fault (kind_of fault.flaw) fault.line)

-- ---- what a reader gives

abbrev pub Fails : {Y : Type 0} → YamlErr → Result Y YamlFault → Type 0
Fails errors.NoMemory read = Unit {0}
Fails (errors.Fault fault) read = read ≡ Err fault

-- What was returned, seen by a view, is what the reading gives, unless memory ran out.
abbrev pub Gives : {X Y : Type 0} → (X → Y) → Result X YamlErr → Result Y YamlFault → Type 0
Gives view (Ok x) read = read ≡ Ok (view x)
Gives view (Err e) read = Fails e read
