use Rattle.rb_yaml.proofs.DocFacts.{control_more}
use Rattle.rb_yaml.proofs.documents.has_control.Goals as goal

pub loop-at-preserved : goal.loop-at-preserved
loop-at-preserved c =
    control_more c.args.text.now c.as_bytes-bytes.result.now c.loop-at.at c.begins_control.result c.as_bytes-bytes.ensures.value c.loop-at-test.true c.begins_control.ensures c.if-begins_control.false c.loop-at.invariant
