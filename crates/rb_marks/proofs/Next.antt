-- The next leaf of a unit.
use Rattle.std.proofs.Common.{◌≡◌, true, Option, Some, None, is_some, refl}
use Rattle.std.specs.List.{list_any}
use Rattle.std.proofs.lemmas.Bool.{both_ways, false_from_ne_true}
use Rattle.rb_marks.specs.Units.{Outline, result_of, has_open}
use Rattle.rb_marks.specs.First.{next_leaf, is_begin_of}
use Rattle.rb_marks.specs.Laws.{HasNextLeaf}
use Rattle.rb_marks.proofs.Growing.{unsettled}
use Rattle.rb_marks.proofs.Waits.{next_undone}
use Rattle.rb_marks.proofs.Once.{next_is_of, begun_is_open}
use Rattle.rb_marks.proofs.Stuck.{unit_goes}

some_of : {X : Type 0} (o : Option X) → is_some o ≡ true → (x : X) × (o ≡ Some x)
some_of None e = absurd (cc)
some_of (Some x) e = (x, refl)

pub has_next_leaf : (p : Outline) → HasNextLeaf p
has_next_leaf p marks w e =
    let undone = unsettled (result_of p marks w) e in
    let next = some_of (next_leaf p marks w) (unit_goes p marks w undone) in
    let of = next_is_of p marks w next.0 next.1 in
    let waits = next_undone p marks w next.0 undone next.1 in (
      next.0,
      next.1,
      of,
      waits,
      λ closed.
          false_from_ne_true (list_any (is_begin_of next.0) marks)
          (λ begun. both_ways (has_open p marks w) closed
          (begun_is_open p marks w next.0 of waits begun)),
    )
