-- How doors end.
use Rattle.rb_api.specs.declared.ended.Ended.{Ended}
use Rattle.rb_api.specs.declared.ended.Ended.TheVariants as ended
use Rattle.rb_serve.specs.declared.door_end.DoorEnd.{DoorEnd}
use Rattle.rb_serve.specs.declared.door_end.DoorEnd.TheVariants as end

-- memory was wanting too
abbrev pub wanting_by : DoorEnd → DoorEnd
wanting_by end.Well = end.Wanting
wanting_by end.Wanting = end.Wanting
wanting_by end.Failed = end.Failed

-- and a caller ended so
abbrev pub ends_by : Ended → DoorEnd → DoorEnd
ends_by ended.LineFault before = end.Failed
ends_by ended.NoMemory before = wanting_by before
ends_by ended.More before = before
ends_by ended.Done before = before
