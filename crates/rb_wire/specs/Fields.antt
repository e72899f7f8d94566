-- The fields of a head where they stand in the bytes.
use Rattle.std.specs.Prelude.{
  ℕ,
  List,
  length,
  map,
  filter,
  All,
  nat_eq,
  Option,
  Some,
  None,
  option_and_then,
  if◌then◌else◌,
  nat_lt,
  codes,
  Result,
  Ok,
  Err,
  Bool,
  ◌||◌,
  slice_get,
}
use Rattle.std.specs.List.{list_any}
use Rattle.std.specs.Str.{str_eq_ignore_ascii_case}
use Rattle.rb_causes.specs.Numbers.{decimal_of}
use Rattle.rb_wire.specs.Heads.{text_if}
use Rattle.rb_wire.specs.Lengths.{most_body_bytes, one_length}
use Rattle.rb_wire.specs.declared.heard.WireFault.{WireFault}
use Rattle.rb_wire.specs.declared.heard.WireFault.TheVariants.{
  TransferEncoding,
  BadLength,
  TooLong,
}
use Rattle.httparse.specs.Spans.{IsHeaderWithin, header_bytes}
use Rattle.httparse.specs.declared.spans.HeaderSpan.{HeaderSpan}

-- the values of the fields of this name, in order
abbrev pub span_values : List ℕ → List ℕ → List HeaderSpan → List (List ℕ)
span_values name bytes fields =
    map (λ field. field.1)
    (filter (λ field. str_eq_ignore_ascii_case field.0 name) (map (header_bytes bytes) fields))

-- the fields lie in the bytes
abbrev pub AreWithin : List ℕ → List HeaderSpan → Type 0
AreWithin bytes fields = All (IsHeaderWithin (length bytes)) fields

abbrev pub same_number : Option ℕ → ℕ → Option ℕ
same_number None n = Some n
same_number (Some m) n = if nat_eq m n then Some n else None

-- the number that a value gives, where one before it gave the same or there was none
abbrev pub length_behind : Option ℕ → List ℕ → Option ℕ
length_behind found value = option_and_then (same_number found) (decimal_of value)

-- the size of a body of this length, unless it is none or too long
abbrev pub size_within : ℕ → Result ℕ WireFault
size_within n = if nat_lt most_body_bytes n then Err TooLong else Ok n

abbrev pub size_of : Option ℕ → Result ℕ WireFault
size_of None = Err BadLength
size_of (Some n) = size_within n

-- the size of the body that the fields tell, or the first fault that they have
abbrev pub size_in : List ℕ → List HeaderSpan → Result ℕ WireFault
size_in bytes fields =
    if nat_lt 0 (length (span_values (codes "transfer-encoding") bytes fields))
    then Err TransferEncoding
    else size_of (one_length (span_values (codes "content-length") bytes fields))

abbrev pub token_in : List ℕ → List HeaderSpan → Option (List ℕ)
token_in bytes fields =
    option_and_then text_if
    (slice_get (span_values (codes "x-rundeck-auth-token") bytes fields) 0)

abbrev pub closes_in : List ℕ → List HeaderSpan → ℕ → Bool
closes_in bytes fields minor =
    nat_eq minor 0
    || list_any (λ value. str_eq_ignore_ascii_case value (codes "close"))
    (span_values (codes "connection") bytes fields)
