use Rattle.std.proofs.Common.{drop, map}
use Rattle.rb_canon.specs.Puts.{items_piece, fields_piece}
use Rattle.rb_canon.specs.Values.{canons_of, fields_of}
use Rattle.rb_canon.specs.Views.{canon_trees, field_view}
use Rattle.rb_canon.proofs.SoFar.{SoFar}
use Rattle.rb_canon.proofs.print.+print.Given as goal

abbrev pub invariant-put_items-loop-item : goal.invariant-put_items-loop-item
invariant-put_items-loop-item l =
    SoFar (items_piece l.lead l.indent (canons_of (canon_trees l.items)))
    (items_piece l.blanks l.indent (canons_of (canon_trees (drop l.item-index l.items))))
    l.initial.out.items l.out.items

abbrev pub invariant-put_fields-loop-field : goal.invariant-put_fields-loop-field
invariant-put_fields-loop-field l =
    SoFar (fields_piece l.lead l.indent (fields_of (map field_view l.fields)))
    (fields_piece l.blanks l.indent (fields_of (map field_view (drop l.field-index l.fields))))
    l.initial.out.items l.out.items
