use Rattle.std.proofs.Common.{◌+◌, drop, map}
use Rattle.rb_causes.proofs.Lists.{item_at}
use Rattle.rb_yaml.specs.Tree.{pair_tree}
use Rattle.rb_acl_doc.specs.Forms.{in_entry}
use Rattle.rb_acl_doc.specs.Keys.{context_keys}
use Rattle.rb_acl_doc.proofs.Foremost.{flaw_on}
use Rattle.rb_acl_doc.proofs.flaws.context_entries_flaw.Goals as goal

pub loop-entry-preserved : goal.loop-entry-preserved
loop-entry-preserved c =
    let xs = c.args.entries.now in
    let i = c.loop-entry.entry-index in
    let here = item_at pair_tree xs i c.entry-item.result c.loop-entry-test.true c.entry-item.is in
    flaw_on (in_entry context_keys) (pair_tree c.entry-item.result) _ (drop (i + 1)
    (map pair_tree xs)) c.loop-entry.flaw
    c.in_ok-context_entry_flaw.field-0 c.sooner-flaw.result _ here
    (c.in_ok-context_entry_flaw.ensures) c.sooner-flaw.ensures c.loop-entry.invariant
