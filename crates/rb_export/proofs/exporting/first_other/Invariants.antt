use Rattle.std.proofs.Common.{◌≡◌, ◌+◌, drop}
use Rattle.rb_export.specs.Exports.{first_other}
use Rattle.rb_export.proofs.exporting.first_other.Given as goal

-- none of those that were passed is in another zone
abbrev pub invariant-loop-index : goal.invariant-loop-index
invariant-loop-index l =
    first_other (l.index + 1) (drop l.index l.jobs) ≡ first_other 1 l.jobs
