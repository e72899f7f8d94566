use Rattle.std.proofs.Common.{◌≡◌, drop}
use Rattle.rb_wire.specs.Fields.{span_values}
use Rattle.rb_wire.specs.Lengths.{one_length}
use Rattle.rb_wire.proofs.FieldValues.{length_from}
use Rattle.rb_wire.proofs.fields.one_length.Given as goal

-- the length is that of the fields that are left, behind the one that was found
abbrev pub invariant-loop-field : goal.invariant-loop-field
invariant-loop-field l =
    length_from l.found (span_values l.name l.bytes (drop l.field-index l.fields))
    ≡ one_length (span_values l.name l.bytes l.fields)
