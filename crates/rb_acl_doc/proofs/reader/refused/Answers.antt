use Rattle.std.proofs.Common.{refl, sym, ◌∙◌}
use Rattle.rb_yaml.specs.Tree.{yaml_tree}
use Rattle.rb_acl_doc.proofs.Structure.{flaw_is_fault, is_that}
use Rattle.rb_acl_doc.proofs.reader.refused.Goals as goal

pub returns : goal.returns
returns c = (
  refl,
  flaw_is_fault (yaml_tree c.args.doc.now) c.args.kind c.requires
      (sym c.is_no_action.ensures ∙ c.if-is_no_action.false),
)

pub without_action-requires : goal.without_action-requires
without_action-requires c =
    is_that _ c.args.kind c.requires (sym c.is_no_action.ensures ∙ c.if-is_no_action.true)
