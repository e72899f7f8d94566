use Rattle.std.proofs.Common.{◌≡◌, drop, slice_get}
use Rattle.rb_wire.specs.Fields.{span_values}
use Rattle.rb_wire.proofs.fields.first_value.Given as goal

-- the first value is that of the fields that are left
abbrev pub invariant-loop-field : goal.invariant-loop-field
invariant-loop-field l =
    slice_get (span_values l.name l.bytes (drop l.field-index l.fields)) 0
    ≡ slice_get (span_values l.name l.bytes l.fields) 0
