use Rattle.std.proofs.Common.{◌≡◌, drop}
use Rattle.rb_causes.specs.Outside.{bytes_at}
use Rattle.rb_causes.proofs.shelf.copy_at.Given as goal

-- the files that are left have under the name what all have
abbrev pub invariant-loop-file : goal.invariant-loop-file
invariant-loop-file l = bytes_at (drop l.file-index l.files) l.name ≡ bytes_at l.files l.name
