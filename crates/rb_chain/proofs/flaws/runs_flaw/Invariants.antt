use Rattle.std.proofs.Common.{◌≡◌, ◌+◌, drop, map}
use Rattle.rb_yaml.specs.Tree.{yaml_tree}
use Rattle.rb_chain.specs.Forms.{flaws_from}
use Rattle.rb_chain.proofs.Firsts.{first}
use Rattle.rb_chain.proofs.flaws.runs_flaw.Given as goal

-- the first flaw is in a run that is left
abbrev pub invariant-loop-before : goal.invariant-loop-before
invariant-loop-before l =
    first (flaws_from (l.before + 1) (drop l.before (map yaml_tree l.values)))
    ≡ first (flaws_from 1 (map yaml_tree l.values))
