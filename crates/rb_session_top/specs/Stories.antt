-- How far a session came, and what that tells: a status, and a line where the status is not 0.
use Rattle.std.specs.Prelude.{ℕ, List, Option, Some, None}
use Rattle.rb_command.specs.Lines.{memory_line, usage_line}
use Rattle.rb_desk.specs.declared.open_err.OpenErr.{OpenErr}
use Rattle.rb_desk.specs.declared.open_err.OpenErr.TheVariants as open_err
use Rattle.rb_log.specs.Records.{Record}
use Rattle.rb_manifest.specs.declared.manifest.Manifest.{Manifest}
use Rattle.rb_session.specs.Courses.{Course}
use Rattle.rb_session.specs.Fetching.{stop_unread}
use Rattle.rb_session.specs.Lines.{Stop, stop_with, store_line, full_line, row_line}
use Rattle.rb_session.specs.Statuses.{course_end}
use Rattle.rb_session.specs.declared.place.Document.{Document}
use Rattle.rb_session.specs.declared.unread.Unread.{Unread}

-- ---- how far it came

-- What was asked of a desk that was opened: the imports; and unless one of them ended the session,
-- the course behind them, and then one Save.
pub record Deeds : Type 0 where
  pub manifest : Manifest
  pub documents : List Document
  pub imports : List Record
  pub stop : Option Stop
  pub course : Option (Course × Record)

-- Its words are no session's; memory was wanting before a desk was opened; a file was not had; no
-- desk was opened; or a desk was opened, and this was done.
pub data Story : Type 0 where
  NoForm : Story
  Wanting : Story
  Unfetched : List ℕ → Unread → Story
  Unopened : OpenErr → Story
  Opened : Deeds → Story

-- ---- what it tells

abbrev pub stop_unopened : OpenErr → Stop
stop_unopened open_err.StoreFault = stop_with 6 store_line
stop_unopened (open_err.BadStore n) = stop_with 8 (row_line n)
stop_unopened open_err.Full = stop_with 10 full_line
stop_unopened open_err.NoMemory = stop_with 7 memory_line

abbrev pub stop_done : Option Stop → Option (Course × Record) → Option Stop
stop_done stop None = stop
stop_done stop (Some served) = course_end served.0 served.1.answer

-- what ended the session, unless it went well
abbrev pub stop_in : Story → Option Stop
stop_in NoForm = Some (stop_with 2 usage_line)
stop_in Wanting = Some (stop_with 7 memory_line)
stop_in (Unfetched file unread) = Some (stop_unread file unread)
stop_in (Unopened e) = Some (stop_unopened e)
stop_in (Opened deeds) = stop_done deeds.stop deeds.course
