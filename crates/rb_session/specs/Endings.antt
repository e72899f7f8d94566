-- How the callers ended so far, and one more.
use Rattle.std.specs.Prelude.{true}
use Rattle.rb_api.specs.declared.ended.Ended.{Ended}
use Rattle.rb_api.specs.declared.ended.Ended.TheVariants as ended
use Rattle.rb_session.specs.declared.farewell.CallersEnd.{CallersEnd}

abbrev pub ends_with : CallersEnd → Ended → CallersEnd
ends_with c ended.LineFault = record c { line_failed = true }
ends_with c ended.NoMemory = record c { line_wanted = true }
ends_with c other = c
