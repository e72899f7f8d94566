use Rattle.std.proofs.Common.{◌≡◌, drop, map}
use Rattle.std.specs.List.{flat_map}
use Rattle.rb_yaml.specs.Tree.{pair_tree}
use Rattle.rb_acl_doc.specs.Forms.{texts}
use Rattle.rb_acl_doc.specs.Telling.{sooner, foremost_kind}
use Rattle.rb_acl_doc.proofs.flaws.properties_flaw.Given as goal

-- the flaw so far, and that of what is left, are that of all
abbrev pub invariant-loop-entry : goal.invariant-loop-entry
invariant-loop-entry l =
    sooner l.flaw (foremost_kind (flat_map (λ e. texts e.0 e.1) (drop l.entry-index
    (map pair_tree l.properties))))
    ≡ foremost_kind (flat_map (λ e. texts e.0 e.1) (map pair_tree l.properties))
