-- Which object a status blames.
use Rattle.std.proofs.Common.{◌≡◌, ℕ, ℤ, List, Option, Some, None, inl, inr, arith}
use Rattle.rb_causes.specs.Causes.{Rose}
use Rattle.rb_causes.specs.Sinks.{SinkState}
use Rattle.rb_causes.specs.declared.row.Row.{Row}
use Rattle.rb_desk.specs.Opening.{IsOpenCause, OpeningAsked, asked_of}
use Rattle.rb_desk.specs.declared.open_err.OpenErr.{OpenErr}
use Rattle.rb_desk.specs.declared.open_err.OpenErr.TheVariants as open_err
use Rattle.rb_session.specs.Documents.{file_at}
use Rattle.rb_session.specs.Fetching.{
  EndsBy,
  IsPlaceUnread,
  ShelfSight,
  StopsAtFile,
  stop_unread,
}
use Rattle.rb_session.specs.declared.unread.Unread.{Unread}
use Rattle.rb_session.specs.declared.unread.Unread.TheVariants as unread
use Rattle.rb_session_top.specs.Sessions.{session_asked}
use Rattle.rb_session_top.specs.Sights.{kept_faults, kept_rows, kept_sight}
use Rattle.rb_session_top.specs.Stories.{stop_unopened}
use Rattle.rb_tables.specs.Tables.{most_rows}

-- ---- a file that was not had

failed_at : (old new : ShelfSight) (file : Option (List ℕ))
    → IsPlaceUnread old new file unread.ShelfFailed → Rose old.faults new.faults
failed_at old new None h = absurd (grind (arith, h))
failed_at old new (Some name) h = h

module _ (old new : ShelfSight) (name file : List ℕ) (status : ℕ) (before after : SinkState) where
  pub shelf_rose : (u : Unread) → StopsAtFile old new name file u
      → EndsBy (stop_unread file u) status before after → status ≡ 4 → Rose old.faults new.faults
  shelf_rose unread.ShelfFailed (inl h) ends is = h.1
  shelf_rose unread.ShelfFailed (inr h) ends is =
      failed_at old new (file_at h.stops.place) h.stops.cause
  shelf_rose unread.Absent h ends is = absurd (grind (arith, ends.is, is))
  shelf_rose (unread.NotYaml f) h ends is = absurd (grind (arith, ends.is, is))
  shelf_rose (unread.NotManifest f) h ends is = absurd (grind (arith, ends.is, is))
  shelf_rose (unread.NotText f) h ends is = absurd (grind (arith, ends.is, is))
  shelf_rose unread.NoMemory h ends is = absurd (grind (arith, ends.is, is))

  pub no_line : (u : Unread) → EndsBy (stop_unread file u) status before after → status ≡ 5 → ⊥
  no_line unread.Absent ends is = grind (arith, ends.is, is)
  no_line unread.ShelfFailed ends is = grind (arith, ends.is, is)
  no_line (unread.NotYaml f) ends is = grind (arith, ends.is, is)
  no_line (unread.NotManifest f) ends is = grind (arith, ends.is, is)
  no_line (unread.NotText f) ends is = grind (arith, ends.is, is)
  no_line unread.NoMemory ends is = grind (arith, ends.is, is)

  pub no_store : (u : Unread) → EndsBy (stop_unread file u) status before after → status ≡ 6 → ⊥
  no_store unread.Absent ends is = grind (arith, ends.is, is)
  no_store unread.ShelfFailed ends is = grind (arith, ends.is, is)
  no_store (unread.NotYaml f) ends is = grind (arith, ends.is, is)
  no_store (unread.NotManifest f) ends is = grind (arith, ends.is, is)
  no_store (unread.NotText f) ends is = grind (arith, ends.is, is)
  no_store unread.NoMemory ends is = grind (arith, ends.is, is)

-- ---- no desk

module _ {K : Type 0} (rows : K → Option (List Row)) (faults : K → ℕ) (old new : K) where
  -- the cause of an opening, as it is seen of its keeper
  pub seen_cause : (draw : ℕ) (at : ℤ) (e : OpenErr)
      → IsOpenCause rows faults old new (asked_of 1 1 draw 2000000 at) e
      → IsOpenCause kept_rows kept_faults (kept_sight (rows old) (faults old))
      (kept_sight (rows new) (faults new)) (session_asked draw at) e
  unfolding most_rows
  seen_cause draw at open_err.StoreFault h = h
  seen_cause draw at (open_err.BadStore n) h =
      record { held = h.held; holds = h.holds; bad = h.bad }
  seen_cause draw at open_err.Full h = record { held = h.held; holds = h.holds; bad = h.bad }
  seen_cause draw at open_err.NoMemory h = tt

  pub store_rose : (asked : OpeningAsked) (e : OpenErr) (status : ℕ) (before after : SinkState)
      → IsOpenCause rows faults old new asked e
      → EndsBy (stop_unopened e) status before after → status ≡ 6
      → Rose (faults old) (faults new)
  store_rose asked open_err.StoreFault status before after h ends is = h
  store_rose asked (open_err.BadStore n) status before after h ends is =
      absurd (grind (arith, ends.is, is))
  store_rose asked open_err.Full status before after h ends is =
      absurd (grind (arith, ends.is, is))
  store_rose asked open_err.NoMemory status before after h ends is =
      absurd (grind (arith, ends.is, is))

pub not_shelf : (e : OpenErr) (status : ℕ) (before after : SinkState)
    → EndsBy (stop_unopened e) status before after → status ≡ 4 → ⊥
not_shelf open_err.StoreFault status before after ends is = grind (arith, ends.is, is)
not_shelf (open_err.BadStore n) status before after ends is = grind (arith, ends.is, is)
not_shelf open_err.Full status before after ends is = grind (arith, ends.is, is)
not_shelf open_err.NoMemory status before after ends is = grind (arith, ends.is, is)

pub not_line : (e : OpenErr) (status : ℕ) (before after : SinkState)
    → EndsBy (stop_unopened e) status before after → status ≡ 5 → ⊥
not_line open_err.StoreFault status before after ends is = grind (arith, ends.is, is)
not_line (open_err.BadStore n) status before after ends is = grind (arith, ends.is, is)
not_line open_err.Full status before after ends is = grind (arith, ends.is, is)
not_line open_err.NoMemory status before after ends is = grind (arith, ends.is, is)
