use Rattle.std.proofs.Common.{◌≡◌, true, drop}
use Rattle.rb_manifest.specs.Forms.{bad_names}
use Rattle.rb_manifest.proofs.Firsts.{first}
use Rattle.rb_manifest.proofs.flaws.bad_name.Given as goal

-- the first such name is among those that are left
abbrev pub invariant-loop-name : goal.invariant-loop-name
invariant-loop-name l =
    first (bad_names true (drop l.name-index l.names)) ≡ first (bad_names true l.names)
