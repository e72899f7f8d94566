-- Entries of slots, some behind others.
use Rattle.std.proofs.Common.{◌≡◌, ◌∙◌, List, [], ◌∷◌, ◌++◌, Option, Some, None, refl, ap, sym, append_assoc}
use Rattle.rb_canon.specs.Values.{CanonTree}
use Rattle.rb_export.specs.Policies.{Entry}
use Rattle.rb_export.specs.Slots.{Slot, in_front, present}

front_of : (slot : Slot) (value : Option CanonTree) (es fs : List Entry)
    → in_front slot.0 value (es ++ fs) ≡ in_front slot.0 value es ++ fs
front_of slot None es fs = refl
front_of slot (Some value) es fs = refl

pub present_more : (ms bs : List Slot) → present (ms ++ bs) ≡ present ms ++ present bs
present_more [] bs = refl
present_more (a ∷ ms) bs =
    ap (in_front a.0 a.1) (present_more ms bs) ∙ front_of a a.1 (present ms) (present bs)

-- entries of slots behind those of others
pub slots_behind : (before between after : List Entry) (ms bs : List Slot)
    → between ≡ before ++ present ms → after ≡ between ++ present bs
    → after ≡ before ++ present (ms ++ bs)
slots_behind before between after ms bs g h =
    h ∙ ap (λ es. es ++ present bs) g ∙ append_assoc before (present ms) (present bs)
    ∙ ap (λ es. before ++ es) (sym (present_more ms bs))
