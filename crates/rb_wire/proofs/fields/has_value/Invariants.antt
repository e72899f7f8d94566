use Rattle.std.proofs.Common.{◌≡◌, drop}
use Rattle.std.specs.List.{list_any}
use Rattle.std.specs.Str.{str_eq_ignore_ascii_case}
use Rattle.rb_wire.specs.Fields.{span_values}
use Rattle.rb_wire.proofs.fields.has_value.Given as goal

-- the fields that are left have the value where all have it
abbrev pub invariant-loop-field : goal.invariant-loop-field
invariant-loop-field l =
    list_any (λ other. str_eq_ignore_ascii_case other l.value)
    (span_values l.name l.bytes (drop l.field-index l.fields))
    ≡ list_any (λ other. str_eq_ignore_ascii_case other l.value)
    (span_values l.name l.bytes l.fields)
