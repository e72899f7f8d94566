-- Which statuses come before a desk is opened, and behind it.
use Rattle.std.proofs.Common.{◌≡◌, ◌⊎◌, ℕ, ℤ, List, None, Option, Some, arith, inl, inr}
use Rattle.rb_causes.specs.Causes.{Rose}
use Rattle.rb_causes.specs.Sinks.{SinkState}
use Rattle.rb_causes.specs.declared.row.Row.{Row}
use Rattle.rb_desk.specs.Opening.{IsOpenCause, asked_of}
use Rattle.rb_desk.specs.declared.open_err.OpenErr.{OpenErr}
use Rattle.rb_desk.specs.declared.open_err.OpenErr.TheVariants as open_err
use Rattle.rb_session.specs.Documents.{file_at}
use Rattle.rb_session.specs.Fetching.{EndsBy, IsPlaceUnread, ShelfSight, StopsAtFile, stop_unread}
use Rattle.rb_session.specs.declared.unread.Unread.{Unread}
use Rattle.rb_session.specs.declared.unread.Unread.TheVariants as unread
use Rattle.rb_session_top.specs.Stories.{stop_unopened}
use Rattle.rb_serve.specs.Serving.{IsEndStatus, IsServeStatus}

three : (s : ℕ) → s ≡ 3 → IsServeStatus s
three s is = inr (inr (inr (inr (inl is))))

four : (s : ℕ) → s ≡ 4 → IsServeStatus s
four s is = inr (inl is)

six : (s : ℕ) → s ≡ 6 → IsServeStatus s
six s is = inr (inr (inr (inr (inr (inr (inl is))))))

pub seven : (s : ℕ) → s ≡ 7 → IsServeStatus s
seven s is = inr (inr (inr (inr (inr (inr (inr (inl is)))))))

eight : (s : ℕ) → s ≡ 8 → IsServeStatus s
eight s is = inr (inr (inl is))

ten : (s : ℕ) → s ≡ 10 → IsServeStatus s
ten s is = inr (inr (inr (inr (inr (inr (inr (inr is)))))))

pub at_end : (s : ℕ) → IsEndStatus s → IsServeStatus s
at_end s h = inr (inr (inr h))

pub end_not_two : (s : ℕ) → IsEndStatus s → s ≡ 2 → ⊥
end_not_two s (inl h) is = grind (arith, h, is)
end_not_two s (inr (inl h)) is = grind (arith, h, is)
end_not_two s (inr (inr (inl h))) is = grind (arith, h, is)
end_not_two s (inr (inr (inr (inl h)))) is = grind (arith, h, is)
end_not_two s (inr (inr (inr (inr (inl h))))) is = grind (arith, h, is)
end_not_two s (inr (inr (inr (inr (inr h))))) is = grind (arith, h, is)

pub end_not_four : (s : ℕ) → IsEndStatus s → s ≡ 4 → ⊥
end_not_four s (inl h) is = grind (arith, h, is)
end_not_four s (inr (inl h)) is = grind (arith, h, is)
end_not_four s (inr (inr (inl h))) is = grind (arith, h, is)
end_not_four s (inr (inr (inr (inl h)))) is = grind (arith, h, is)
end_not_four s (inr (inr (inr (inr (inl h))))) is = grind (arith, h, is)
end_not_four s (inr (inr (inr (inr (inr h))))) is = grind (arith, h, is)

module _ (file : List ℕ) (s : ℕ) (before after : SinkState) where
  pub unread_status : (u : Unread) → EndsBy (stop_unread file u) s before after → IsServeStatus s
  unread_status unread.Absent h = three s h.is
  unread_status unread.ShelfFailed h = four s h.is
  unread_status (unread.NotYaml f) h = three s h.is
  unread_status (unread.NotManifest f) h = three s h.is
  unread_status (unread.NotText f) h = three s h.is
  unread_status unread.NoMemory h = seven s h.is

  pub unread_not_two : (u : Unread) → EndsBy (stop_unread file u) s before after → s ≡ 2 → ⊥
  unread_not_two unread.Absent h is = grind (arith, h.is, is)
  unread_not_two unread.ShelfFailed h is = grind (arith, h.is, is)
  unread_not_two (unread.NotYaml f) h is = grind (arith, h.is, is)
  unread_not_two (unread.NotManifest f) h is = grind (arith, h.is, is)
  unread_not_two (unread.NotText f) h is = grind (arith, h.is, is)
  unread_not_two unread.NoMemory h is = grind (arith, h.is, is)

  pub unread_not_five : (u : Unread) → EndsBy (stop_unread file u) s before after → s ≡ 5 → ⊥
  unread_not_five unread.Absent h is = grind (arith, h.is, is)
  unread_not_five unread.ShelfFailed h is = grind (arith, h.is, is)
  unread_not_five (unread.NotYaml f) h is = grind (arith, h.is, is)
  unread_not_five (unread.NotManifest f) h is = grind (arith, h.is, is)
  unread_not_five (unread.NotText f) h is = grind (arith, h.is, is)
  unread_not_five unread.NoMemory h is = grind (arith, h.is, is)

  pub unread_not_six : (u : Unread) → EndsBy (stop_unread file u) s before after → s ≡ 6 → ⊥
  unread_not_six unread.Absent h is = grind (arith, h.is, is)
  unread_not_six unread.ShelfFailed h is = grind (arith, h.is, is)
  unread_not_six (unread.NotYaml f) h is = grind (arith, h.is, is)
  unread_not_six (unread.NotManifest f) h is = grind (arith, h.is, is)
  unread_not_six (unread.NotText f) h is = grind (arith, h.is, is)
  unread_not_six unread.NoMemory h is = grind (arith, h.is, is)

-- ---- a file that was not had

failed_at : (old new : ShelfSight) (file : Option (List ℕ))
    → IsPlaceUnread old new file unread.ShelfFailed → Rose old.faults new.faults
failed_at old new None h = absurd (grind (arith, h))
failed_at old new (Some name) h = h

module _ (old new : ShelfSight) (name file : List ℕ) (s : ℕ) (before after : SinkState) where
  pub shelf_rose : (u : Unread) → StopsAtFile old new name file u
      → EndsBy (stop_unread file u) s before after → s ≡ 4 → Rose old.faults new.faults
  shelf_rose unread.ShelfFailed (inl h) ends is = h.1
  shelf_rose unread.ShelfFailed (inr h) ends is =
      failed_at old new (file_at h.stops.place) h.stops.cause
  shelf_rose unread.Absent h ends is = absurd (grind (arith, ends.is, is))
  shelf_rose (unread.NotYaml f) h ends is = absurd (grind (arith, ends.is, is))
  shelf_rose (unread.NotManifest f) h ends is = absurd (grind (arith, ends.is, is))
  shelf_rose (unread.NotText f) h ends is = absurd (grind (arith, ends.is, is))
  shelf_rose unread.NoMemory h ends is = absurd (grind (arith, ends.is, is))

module _ (s : ℕ) (before after : SinkState) where
  pub unopened_status : (e : OpenErr) → EndsBy (stop_unopened e) s before after → IsServeStatus s
  unopened_status open_err.StoreFault h = six s h.is
  unopened_status (open_err.BadStore n) h = eight s h.is
  unopened_status open_err.Full h = ten s h.is
  unopened_status open_err.NoMemory h = seven s h.is

  pub unopened_not_two : (e : OpenErr) → EndsBy (stop_unopened e) s before after → s ≡ 2 → ⊥
  unopened_not_two open_err.StoreFault h is = grind (arith, h.is, is)
  unopened_not_two (open_err.BadStore n) h is = grind (arith, h.is, is)
  unopened_not_two open_err.Full h is = grind (arith, h.is, is)
  unopened_not_two open_err.NoMemory h is = grind (arith, h.is, is)

  pub unopened_not_five : (e : OpenErr) → EndsBy (stop_unopened e) s before after → s ≡ 5 → ⊥
  unopened_not_five open_err.StoreFault h is = grind (arith, h.is, is)
  unopened_not_five (open_err.BadStore n) h is = grind (arith, h.is, is)
  unopened_not_five open_err.Full h is = grind (arith, h.is, is)
  unopened_not_five open_err.NoMemory h is = grind (arith, h.is, is)

  pub unopened_not_four : (e : OpenErr) → EndsBy (stop_unopened e) s before after → s ≡ 4 → ⊥
  unopened_not_four open_err.StoreFault h is = grind (arith, h.is, is)
  unopened_not_four (open_err.BadStore n) h is = grind (arith, h.is, is)
  unopened_not_four open_err.Full h is = grind (arith, h.is, is)
  unopened_not_four open_err.NoMemory h is = grind (arith, h.is, is)

  pub unopened_rose : {K : Type 0} (rows : K → Option (List Row)) (faults : K → ℕ) (old new : K)
      (doors workers draw room : ℕ) (at : ℤ) (e : OpenErr)
      → IsOpenCause rows faults old new (asked_of doors workers draw room at) e
      → EndsBy (stop_unopened e) s before after → s ≡ 6 → Rose (faults old) (faults new)
  unopened_rose rows faults old new doors workers draw room at open_err.StoreFault cause h is = cause
  unopened_rose rows faults old new doors workers draw room at (open_err.BadStore n) cause h is =
      absurd (grind (arith, h.is, is))
  unopened_rose rows faults old new doors workers draw room at open_err.Full cause h is =
      absurd (grind (arith, h.is, is))
  unopened_rose rows faults old new doors workers draw room at open_err.NoMemory cause h is =
      absurd (grind (arith, h.is, is))

-- an import is not taken for one of these
pub import_status : (s : ℕ) → (s ≡ 3) ⊎ (s ≡ 6) ⊎ (s ≡ 7) ⊎ (s ≡ 10) → IsEndStatus s
import_status s (inl h) = inr (inl h)
import_status s (inr (inl h)) = inr (inr (inr (inl h)))
import_status s (inr (inr (inl h))) = inr (inr (inr (inr (inl h))))
import_status s (inr (inr (inr h))) = inr (inr (inr (inr (inr h))))

pub import_not_five : (s : ℕ) → (s ≡ 3) ⊎ (s ≡ 6) ⊎ (s ≡ 7) ⊎ (s ≡ 10) → s ≡ 5 → ⊥
import_not_five s (inl h) is = grind (arith, h, is)
import_not_five s (inr (inl h)) is = grind (arith, h, is)
import_not_five s (inr (inr (inl h))) is = grind (arith, h, is)
import_not_five s (inr (inr (inr h))) is = grind (arith, h, is)
